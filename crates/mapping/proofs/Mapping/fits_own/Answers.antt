-- `Mapping::fits_own` meets its contract: by the chip that `from_len` finds.
use Rattle.std.proofs.Common.{◌≡◌, ◌∙◌, sym, Bool, false, Option, Some, None, MatchOption, rules}
use Rattle.chip.specs.declared.Chip.{Chip}
use Rattle.chip.specs.Figures.{layout_of, from_len}
use Rattle.mapping.specs.declared.Mapping.{Mapping}
use Rattle.mapping.specs.Fits.{fits_as, fits_own}
use Rattle.mapping.specs.Fits.Laws.{own_known, own_unknown}
use Rattle.mapping.proofs.Mapping.fits_own.Goals as goal

own_by
    : (m : Mapping) (o : Option Chip) (r : Bool) (P : Chip → Type 0) → o ≡ from_len m.len → MatchOption o (r ≡ false) P
    → ((k : Chip) → P k → r ≡ fits_as (layout_of k) m) → r ≡ fits_own m
own_by m (Some k) r P e h f = f k h ∙ sym (own_known m k (sym e))
own_by m None r P e h f = h ∙ sym (own_unknown m (sym e))

pub returns : goal.returns
returns c = own_by _ c.from_len.result c.is_some_and.result _ c.from_len.ensures c.is_some_and.ensures (λ k p. search rules)
