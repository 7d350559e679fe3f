-- What commit answers to a mapping that fits, by its counts: on other chips than the large one no count is looked at, and
-- there the search for a count of 128 or more finds the first above 127. Assumes nothing.
use Rattle.std.specs.Prelude.{Option, Some, None}
use mathlib.Core.Path.{◌≡◌, refl, sym, ap, ◌∙◌}
use mathlib.Core.Bool.{true}
use Prim.Native.Nat.{ℕ, ◌<◌, ◌≤◌}
use native.Mathlib.Omega.{arith}
use borrow.Author.Tests.{le-leb, lt-leb, leb-false}
use lib.Dec.{leb}
use Rattle.lists.proofs.Orders.{not_both}
use Rattle.chip.specs.declared.Chip.{Chip}
use Rattle.chip.specs.declared.Chip.TheVariants.{Kib128, Kib512, Mib1}
use Rattle.chip.specs.Figures.{layout_of, virtuals, in_use_bit, from_len}
use Rattle.answers.specs.declared.Answer.TheVariants.{Accepted}
use Rattle.answers.specs.Answers.{number_of}
use Rattle.answers.specs.Search.{first_of}
use Rattle.answers.proofs.Searches.{first_misses, first_none, first_finds}
use Rattle.mapping.specs.declared.Mapping.{Mapping}
use Rattle.mapping.specs.Blocks.{count_at}
use Rattle.mapping.specs.Fits.{fits}
use Rattle.mapping.specs.Limits.{high_count, high_count_on}
use Rattle.tickets.proofs.Fitting.{fits_len}
use Rattle.wear_leveling.specs.Commit.{unless_high, commit_answer}
use Rattle.tape.specs.Demand.{LowCounts, Refuses}
use Rattle.tape.proofs.Handed.{given}

-- 10 was not given, so nothing was found
none_found : (f : Option ℕ) → unless_high f ≡ Accepted → f ≡ None
none_found (Some v) e = let z : ◌≡◌ {A = ℕ} 10 0 = ap number_of e in absurd (omega arith)
none_found None e = refl

-- the large chip is the 1 MiB one
pub large_is : (k : Chip) → (layout_of k).large ≡ true → k ≡ Mib1
large_is Kib128 e = absurd (not_both e refl)
large_is Kib512 e = absurd (not_both e refl)
large_is Mib1 e = refl

module _ (m : Mapping) where
  large_high : high_count_on (layout_of Mib1) m ≡ first_of (λ v. leb in_use_bit (count_at m v)) (virtuals (layout_of Mib1))
  unfolding high_count_on
  large_high = refl

  small_high : (k : Chip) → (k ≡ Mib1 → ⊥) → high_count_on (layout_of k) m ≡ None
  unfolding high_count_on
  small_high Kib128 n = refl
  small_high Kib512 n = refl
  small_high Mib1 n = absurd (n refl)

  low_high : (k : Chip) → LowCounts k m → high_count_on (layout_of k) m ≡ None
  unfolding high_count_on
  low_high Kib128 h = refl
  low_high Kib512 h = refl
  low_high Mib1 h =
      first_misses (λ v. leb in_use_bit (count_at m v)) 0 (virtuals (layout_of Mib1))
      (λ v a b. lt-leb in_use_bit (count_at m v) (omega (arith, h v (omega arith))))

  first_high
      : (v : ℕ) → v < virtuals (layout_of Mib1) → 127 < count_at m v → ((u : ℕ) → u < v → count_at m u ≤ 127)
      → high_count_on (layout_of Mib1) m ≡ Some v
  first_high v h b low =
      large_high
      ∙ first_finds (λ u. leb in_use_bit (count_at m u)) 0 (virtuals (layout_of Mib1)) v (omega arith) (omega arith)
      (λ u a c. lt-leb in_use_bit (count_at m u) (omega (arith, low u c))) (le-leb in_use_bit (count_at m v) (omega arith))

  high_refuses : (k : Chip) → Refuses k m (unless_high (high_count_on (layout_of k) m))
  high_refuses k =
      record {
        other_chips = λ n. ap unless_high (small_high k n);
        low_counts = λ h. ap unless_high (low_high k h);
        refuses_high = λ v c h b low.
            let e : high_count_on (layout_of k) m ≡ Some v = rw c (first_high v (rw c at h) b low) in
            (ap unless_high e, given (ap unless_high e));
        accepted = λ c e v h.
            let n : first_of (λ u. leb in_use_bit (count_at m u)) (virtuals (layout_of Mib1)) ≡ None = sym large_high ∙ none_found _ (rw c at e) in
            let b : v < virtuals (layout_of Mib1) = rw c at h in
            let low : count_at m v < in_use_bit =
            leb-false in_use_bit (count_at m v) (first_none (λ u. leb in_use_bit (count_at m u)) 0 (virtuals (layout_of Mib1)) n v (omega arith) (omega arith)) in
            omega arith;
      }

  -- commit's answer to a mapping that fits an image of n bytes
  pub commit_refuses : (n : ℕ) (k : Chip) → from_len n ≡ Some k → fits n m ≡ true → Refuses k m (commit_answer n m)
  unfolding commit_answer high_count
  commit_refuses n k known f = let c : from_len m.len ≡ Some k = ap from_len (fits_len n m f) ∙ known in rw (f, c) (high_refuses k)
