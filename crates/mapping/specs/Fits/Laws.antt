-- What is known of a mapping that fits, for those who may not look into the shut definitions: by the chip of its length it
-- is `fits_as`, and without one it does not fit, as the blank mapping never does. Assumes nothing.
use Rattle.std.specs.Prelude.{◌≡◌, Bool, true, false, ◌&&◌, ℕ, eqb, Some, None}
use Rattle.std.proofs.Math.Path.{refl}
use Rattle.std.proofs.Common.{◌∙◌}
use Rattle.chip.specs.declared.Chip.{Chip}
use Rattle.chip.specs.Figures.{layout_of, from_len}
use Rattle.mapping.specs.declared.Mapping.{Mapping}
use Rattle.mapping.specs.Blocks.{blank}
use Rattle.mapping.specs.Fits.{fits_as, fits_own, fits}

module _ (m : Mapping) where
  pub own_known : (k : Chip) → from_len m.len ≡ Some k → fits_own m ≡ fits_as (layout_of k) m
  unfolding fits_own
  own_known k e = rw e

  pub own_unknown : from_len m.len ≡ None → fits_own m ≡ false
  unfolding fits_own
  own_unknown e = rw e

  pub fits_is : (n : ℕ) → fits n m ≡ (eqb m.len n && fits_own m)
  unfolding fits
  fits_is n = refl

-- the blank mapping fits no image
pub blank_unfit : (n : ℕ) → fits n blank ≡ false
unfolding blank from_len
blank_unfit n = fits_is blank n ∙ rw (own_unknown blank refl) (go (eqb 0 n))
  where
    go : (a : Bool) → (a && false) ≡ false
    go true = refl
    go false = refl
