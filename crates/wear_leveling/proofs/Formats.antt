-- Formatting, by the image's length: a chip's length is accepted and block zero becomes the formatted one; any other is
-- refused and the image stays; and behind block zero nothing is stored. Assumes nothing.
use Rattle.std.specs.Prelude.{Option, Some, None}
use mathlib.Core.Path.{◌≡◌, refl}
use mathlib.Core.List.{List}
use Prim.Native.Nat.{ℕ}
use native.Mathlib.Omega.{arith}
use lib.ListN.{length, drop}
use Rattle.chip.specs.declared.Chip.{Chip}
use Rattle.chip.specs.Figures.{layout_of, block_len, image_len, from_len, by_chip}
use Rattle.chip.proofs.Layouts.{sound, from_own, from_is, from_none}
use Rattle.answers.specs.declared.Answer.TheVariants.{Accepted, WrongLength}
use Rattle.block_zero.specs.Put.{formatted}
use Rattle.block_zero.proofs.Settled.{formatted_behind}
use Rattle.wear_leveling.specs.Format.{format_answer, after_format}

-- an image of a chip's length
module _ (k : Chip) (z : List ℕ) (long : length z ≡ image_len (layout_of k)) where
  pub format_accepts : format_answer (length z) ≡ Accepted
  unfolding format_answer
  format_accepts = rw (long, from_own k)

  pub format_leaves : after_format z ≡ formatted (layout_of k) z
  unfolding after_format
  format_leaves = rw (long, from_own k)

-- an image of another length
module _ (z : List ℕ) (none : (k : Chip) → length z ≡ image_len (layout_of k) → ⊥) where
  pub format_refuses : format_answer (length z) ≡ WrongLength
  unfolding format_answer
  format_refuses = rw (from_none (length z) none)

  pub format_keeps : after_format z ≡ z
  unfolding after_format
  format_keeps = rw (from_none (length z) none)

-- "data blocks aren't stored to"
pub format_behind : (z : List ℕ) → drop block_len (after_format z) ≡ drop block_len z
unfolding after_format
format_behind z = go (from_len (length z)) refl
  where
    go : (o : Option Chip) → from_len (length z) ≡ o → drop block_len (by_chip o (λ k. formatted (layout_of k) z) z) ≡ drop block_len z
    go (Some k) e = formatted_behind (layout_of k) (sound k) z (omega (arith, from_is (length z) k e, (sound k).some))
    go None e = refl
