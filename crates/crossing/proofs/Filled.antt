-- An array that a loop fills from the front with a list's images: what it is before the first turn, after one more, and when
-- all are done. Assumes nothing.
use mathlib.Core.Path.{◌≡◌, refl, ap, sym, ◌∙◌}
use mathlib.Core.List.{List, [], ◌∷◌, ◌++◌, map}
use Prim.Native.Nat.{ℕ, ◌+◌, ◌<◌, ◌≤◌}
use native.Mathlib.Numerals.{add-one}
use native.Mathlib.Omega.{arith}
use lib.ListN.{length, take, get_or, set, length-set, length-map, get_or-map}
use lib.Seq.{take-suc, take-suc-set, take_all}

module _ {A B : Type 0} (f : A → B) (bs : List A) (n : ℕ) where
  -- l is n long, and its first i are the images of bs's
  pub record Filled (i : ℕ) (l : List B) : Type 0 where
    pub inside : i ≤ n
    pub long : length l ≡ n
    pub same : take i l ≡ take i (map f bs)

  pub begin : (l : List B) → length l ≡ n → Filled 0 l
  begin l h = record { inside = omega arith; long = h; same = refl }

module _ {A B : Type 0} {f : A → B} {bs : List A} {n i : ℕ} {l : List B} (h : Filled f bs n i l) (hb : length bs ≡ n) where
  pub step : (d : A) (v : B) → i < n → v ≡ f (get_or bs i d) → Filled f bs n (i + 1) (set l i v)
  step d v lt e =
      let hl : i < length l = omega (arith, h.long) in
      let hm : i < length (map f bs) = rw length-map (omega arith) in
      record {
        inside = omega arith;
        long = length-set l i v ∙ h.long;
        same =
            rw add-one
            (take-suc-set l i v hl
            ∙ ap (λ (x : List B). x ++ (v ∷ [])) h.same
            ∙ ap (λ (x : B). take i (map f bs) ++ (x ∷ [])) (e ∙ sym (get_or-map f bs i d))
            ∙ sym (take-suc (map f bs) i (f d) hm));
      }

  pub done : n ≤ i → l ≡ map f bs
  done le =
      sym (take_all i l (omega (arith, h.long)))
      ∙ h.same
      ∙ take_all i (map f bs) (rw length-map (omega arith))
