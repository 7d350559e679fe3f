-- Which writes are made: by the two tests, an accepted one has a mapping that fits and a range in the save, and is its
-- visits; any other leaves image and mapping as they were. Assumes nothing.
use mathlib.Core.Path.{◌≡◌, sym, ◌∙◌}
use mathlib.Core.List.{List}
use Prim.Native.Nat.{ℕ}
use native.Mathlib.Omega.{arith}
use borrow.Author.Tests.{ne_eqb}
use lib.ListN.{length}
use Rattle.lists.proofs.Orders.{by_test}
use Rattle.answers.specs.declared.Answer.TheVariants.{Accepted, DoesNotFit, OutOfRange}
use Rattle.mapping.specs.declared.Mapping.{Mapping}
use Rattle.mapping.specs.Blocks.{len_of}
use Rattle.answers.specs.Answers.{number_of}
use Rattle.mapping.specs.Limits.{in_save}
use Rattle.mapping.specs.Fits.{fits}
use Rattle.answers.proofs.Numbers.{zero_accepted}
use Rattle.save.specs.Visits.{state, written, CanWrite}
use Rattle.wear_leveling.specs.Read.{admission}
use Rattle.wear_leveling.specs.Write.{after_write}
use Rattle.wear_leveling.proofs.Admission.{not_fitting, out_of_range, can_write}

module _ (image : List ℕ) (m : Mapping) (place : ℕ) (d : List ℕ) where
  -- an accepted write is its visits, and another leaves image and mapping as they were
  pub write_is : admission (length image) m place (length d) ≡ Accepted → after_write image m place d ≡ written place d (state image m)
  unfolding after_write
  write_is e = rw e

  pub write_refused : (admission (length image) m place (length d) ≡ Accepted → ⊥) → after_write image m place d ≡ state image m
  unfolding after_write
  write_refused ne =
      rw (ne_eqb (number_of (admission (length image) m place (length d))) 0
      (λ e. ne (zero_accepted (admission (length image) m place (length d)) e)))

  -- what an accepted write has shown
  pub accepted_can : admission (length image) m place (length d) ≡ Accepted → CanWrite image m place (length d)
  accepted_can e =
      by_test (fits (length image) m)
      (λ f.
      by_test (in_save (len_of m) place (length d))
      (λ r. can_write image m place (length d) f r)
      (λ r.
      let a : OutOfRange ≡ Accepted = sym (out_of_range (length image) m place (length d) f r) ∙ e in
      let z : ◌≡◌ {A = ℕ} 0 1 = cc in
      absurd (omega arith)))
      (λ f.
      let a : DoesNotFit ≡ Accepted = sym (not_fitting (length image) m place (length d) f) ∙ e in
      let z : ◌≡◌ {A = ℕ} 0 1 = cc in
      absurd (omega arith))
