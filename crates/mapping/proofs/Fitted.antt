-- The test of number 8 holds exactly when the facts of specs/Fitted do: by the chip of the length, by `Apart`, which is the
-- definition's test as facts, and by the pigeonholes, which give each of 1..P−1 its block. And the test of number 9 holds
-- exactly when place and length together stay within the save. Assumes nothing.
use Rattle.std.specs.Prelude.{Option, Some, None}
use mathlib.Core.Path.{◌≡◌, refl, sym, ap, ◌∙◌}
use mathlib.Core.Bool.{true, ◌&&◌}
use Prim.Native.Nat.{ℕ, ◌+◌, ◌-◌, ◌≤◌}
use native.Mathlib.Omega.{arith}
use borrow.Author.Tests.{eq-eqb, eqb-true, le-leb, leb-true}
use lib.Dec.{eqb, leb}
use Rattle.lists.proofs.Orders.{not_both}
use Rattle.lists.proofs.Tests.{and_left, and_right, and_both}
use Rattle.lists.proofs.Pigeons.{onto}
use Rattle.chip.specs.declared.Chip.{Chip}
use Rattle.chip.specs.Figures.{layout_of, virtuals, from_len}
use Rattle.chip.proofs.Layouts.{sound, from_is, from_own}
use Rattle.mapping.specs.declared.Condition.{Condition}
use Rattle.mapping.specs.declared.Condition.TheVariants.{Free, Clean, Changed}
use Rattle.mapping.specs.declared.Mapping.{Mapping}
use Rattle.mapping.specs.Blocks.{is_free, number_at}
use Rattle.mapping.specs.Fits.{each_once, reserved_free, fits_as, fits_own, fits, Apart}
use Rattle.mapping.specs.Fits.Laws.{own_known, own_unknown, fits_is}
use Rattle.mapping.specs.Fitted.{Fitted}
use Rattle.mapping.specs.Limits.{in_save}
use Rattle.mapping.proofs.Onto.{once_apart, apart_once}

-- a condition that is free
pub is_free_lem : (d : Condition) → is_free d ≡ true → d ≡ Free
is_free_lem Free e = refl
is_free_lem Clean e = absurd (not_both e refl)
is_free_lem Changed e = absurd (not_both e refl)

module _ (n : ℕ) (m : Mapping) where
  -- by a chip of n bytes
  as_fitted : (k : Chip) → from_len n ≡ Some k → m.len ≡ n → fits_as (layout_of k) m ≡ true → Fitted n m
  as_fitted k known e f =
      record {
        own = e;
        chip = k;
        image = from_is n k known;
        low = a.low;
        high = λ v h. omega (arith, a.high v h);
        apart = a.apart;
        each = λ p low high.
            let r = onto (virtuals (layout_of k)) (λ v. number_at m v - 1) (λ v b. omega (arith, a.low v b, a.high v b))
            (λ u v bu bv d. a.apart u v bu bv (omega (arith, a.low u bu, a.low v bv, d))) (p - 1) (omega arith) in
            (r.0, r.1, omega (arith, r.2, a.low r.0 r.1));
        free = is_free_lem _ (and_right (each_once (layout_of k) m) (reserved_free (layout_of k) m) f);
      }
    where
      a : Apart m (virtuals (layout_of k))
      a = once_apart m (layout_of k) (omega (arith, (sound k).some)) (and_left (each_once (layout_of k) m) (reserved_free (layout_of k) m) f)

  -- a mapping that fits
  pub fits_fitted : fits n m ≡ true → Fitted n m
  fits_fitted f = go (from_len n) refl
    where
      both : (eqb m.len n && fits_own m) ≡ true
      both = sym (fits_is m n) ∙ f

      len : m.len ≡ n
      len = eqb-true m.len n (and_left (eqb m.len n) (fits_own m) both)

      own : fits_own m ≡ true
      own = and_right (eqb m.len n) (fits_own m) both

      go : (o : Option Chip) → from_len n ≡ o → Fitted n m
      go (Some k) e = as_fitted k e len (sym (own_known m k (ap from_len len ∙ e)) ∙ own)
      go None e = absurd (not_both own (own_unknown m (ap from_len len ∙ e)))

  -- and back
  pub fitted_fits : Fitted n m → fits n m ≡ true
  fitted_fits r =
      fits_is m n
      ∙ and_both (eqb m.len n) (fits_own m) (eq-eqb m.len n r.own)
      (own_known m r.chip (ap from_len (r.own ∙ r.image) ∙ from_own r.chip)
      ∙ and_both (each_once (layout_of r.chip) m) (reserved_free (layout_of r.chip) m)
      (apart_once m (layout_of r.chip) (omega (arith, (sound r.chip).some))
      (record { low = r.low; high = λ v h. omega (arith, r.high v h); apart = r.apart }))
      (ap is_free r.free))

module _ (save place k : ℕ) where
  -- a range in the save
  pub range_in : in_save save place k ≡ true → place + k ≤ save
  range_in r =
      let a : place ≤ save = leb-true place save (and_left (leb place save) (leb k (save - place)) r) in
      let b : k ≤ save - place = leb-true k (save - place) (and_right (leb place save) (leb k (save - place)) r) in
      omega arith

  -- and back
  pub in_range : place + k ≤ save → in_save save place k ≡ true
  in_range h = and_both (leb place save) (leb k (save - place)) (le-leb place save (omega arith)) (le-leb k (save - place) (omega arith))
