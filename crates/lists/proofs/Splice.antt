-- Laws of `splice`: what stands before, in and after it, a way in by three facts about elements, splices side by side and
-- one over another, and the part of a list that was lent and came back. Assumes nothing.
use mathlib.Core.Path.{◌≡◌, sym, ap, ◌∙◌}
use mathlib.Core.List.{List, [], ◌∷◌, ◌++◌, append_assoc, append-nil}
use Prim.Native.Nat.{ℕ, suc, ◌+◌, ◌-◌, ◌≤◌, ◌<◌}
use native.Mathlib.Omega.{arith}
use borrow.Rule.Slice.PartMut.{put_mid}
use lib.ListN.{length, take, drop, get_or, set, length-append, length-take, length-drop, take-append-drop, get_or-append, drop_of_length-le}
use lib.Seq.{get_or-take, get_or-drop, get_or-append-add, ext_get_or, length-take-le, take_at, drop-drop, set_split}
use Rattle.lists.specs.Words.{splice}
use Rattle.lists.proofs.Orders.{split}

module _ {ℓ} {A : Type ℓ} where
  pub length-splice : (l : List A) (at : ℕ) (d : List A) → at + length d ≤ length l → length (splice l at d) ≡ length l
  unfolding splice
  length-splice l at d h = simp (length-append, length-take, length-drop) (omega arith)

  pub get_or-splice_below : (l : List A) (at : ℕ) (d : List A) (i : ℕ) (z : A) → at + length d ≤ length l → i < at → get_or (splice l at d) i z ≡ get_or l i z
  unfolding splice
  get_or-splice_below l at d i z h b =
      get_or-append (take at l) (d ++ drop (at + length d) l) z i (simp length-take (omega arith)) ∙ get_or-take at l i z b

  pub get_or-splice_in : (l : List A) (at : ℕ) (d : List A) (j : ℕ) (z : A) → at + length d ≤ length l → j < length d → get_or (splice l at d) (at + j) z ≡ get_or d j z
  unfolding splice
  get_or-splice_in l at d j z h b =
      ap (λ (k : ℕ). get_or (take at l ++ (d ++ drop (at + length d) l)) (k + j) z) (sym (length-take-le at l (omega arith)))
      ∙ get_or-append-add (take at l) (d ++ drop (at + length d) l) j z
      ∙ get_or-append d (drop (at + length d) l) z j b

  pub get_or-splice_above : (l : List A) (at : ℕ) (d : List A) (i : ℕ) (z : A) → at + length d ≤ length l → at + length d ≤ i → get_or (splice l at d) i z ≡ get_or l i z
  unfolding splice
  get_or-splice_above l at d i z h b =
      let e : length (take at l ++ d) + (i - (at + length d)) ≡ i = simp (length-append, length-take) (omega arith) in
      ap (λ (r : List A). get_or r i z) (sym (append_assoc (take at l) d (drop (at + length d) l)))
      ∙ ap (λ (k : ℕ). get_or ((take at l ++ d) ++ drop (at + length d) l) k z) (sym e)
      ∙ get_or-append-add (take at l ++ d) (drop (at + length d) l) (i - (at + length d)) z
      ∙ get_or-drop (at + length d) l (i - (at + length d)) z
      ∙ ap (λ (k : ℕ). get_or l k z) (omega arith)

  -- a list is a splice of another if it is so at each index
  pub splice_intro : (z : A) (l' l : List A) (at : ℕ) (d : List A) → at + length d ≤ length l → length l' ≡ length l
      → ((i : ℕ) → i < at → get_or l' i z ≡ get_or l i z)
      → ((j : ℕ) → j < length d → get_or l' (at + j) z ≡ get_or d j z)
      → ((i : ℕ) → at + length d ≤ i → i < length l → get_or l' i z ≡ get_or l i z)
      → l' ≡ splice l at d
  splice_intro z l' l at d h e below inside above =
      ext_get_or z l' (splice l at d) (e ∙ sym (length-splice l at d h))
      (λ i hi. split at i
      (λ p. split (at + length d) i
      (λ q. above i q (omega arith) ∙ sym (get_or-splice_above l at d i z h q))
      (λ q. let k : at + (i - at) ≡ i = omega arith in
      ap (λ (n : ℕ). get_or l' n z) (sym k)
      ∙ inside (i - at) (omega arith)
      ∙ sym (get_or-splice_in l at d (i - at) z h (omega arith))
      ∙ ap (λ (n : ℕ). get_or (splice l at d) n z) k))
      (λ p. below i p ∙ sym (get_or-splice_below l at d i z h p)))

  pub splice-nil : (l : List A) (at : ℕ) → at ≤ length l → splice l at [] ≡ l
  unfolding splice
  splice-nil l at h =
      let k : at + 0 ≡ at = omega arith in
      ap (λ (n : ℕ). take at l ++ drop n l) k ∙ take-append-drop at l

  -- two splices, the second where the first ended, are one
  pub splice-splice : (z : A) (l : List A) (at : ℕ) (d e : List A) → at + length d + length e ≤ length l
      → splice (splice l at d) (at + length d) e ≡ splice l at (d ++ e)
  splice-splice z l at d e h =
      let n : length (d ++ e) ≡ length d + length e = length-append d e in
      let h1 : at + length d ≤ length l = omega arith in
      let k : length (splice l at d) ≡ length l = length-splice l at d h1 in
      let h2 : at + length d + length e ≤ length (splice l at d) = omega arith in
      splice_intro z (splice (splice l at d) (at + length d) e) l at (d ++ e) (omega arith)
      (length-splice (splice l at d) (at + length d) e h2 ∙ k)
      (λ i b. get_or-splice_below (splice l at d) (at + length d) e i z h2 (omega arith) ∙ get_or-splice_below l at d i z h1 b)
      (λ j b. split (length d) j
      (λ p. let q : length d + (j - length d) ≡ j = omega arith in
      let r : at + length d + (j - length d) ≡ at + j = omega arith in
      ap (λ (m : ℕ). get_or (splice (splice l at d) (at + length d) e) m z) (sym r)
      ∙ get_or-splice_in (splice l at d) (at + length d) e (j - length d) z h2 (omega arith)
      ∙ sym (get_or-append-add d e (j - length d) z)
      ∙ ap (λ (m : ℕ). get_or (d ++ e) m z) q)
      (λ p. get_or-splice_below (splice l at d) (at + length d) e (at + j) z h2 (omega arith)
      ∙ get_or-splice_in l at d j z h1 p
      ∙ sym (get_or-append d e z j p)))
      (λ i b c. get_or-splice_above (splice l at d) (at + length d) e i z h2 (omega arith) ∙ get_or-splice_above l at d i z h1 (omega arith))

  -- an index that no byte of d is put at
  pub get_or-splice_out : (l : List A) (at : ℕ) (d : List A) (i : ℕ) (z : A) → at + length d ≤ length l → (at ≤ i → i < at + length d → ⊥) → get_or (splice l at d) i z ≡ get_or l i z
  get_or-splice_out l at d i z h out =
      split at i
      (λ p. split (at + length d) i (λ q. get_or-splice_above l at d i z h q) (λ q. absurd (out p q)))
      (λ p. get_or-splice_below l at d i z h p)

  -- the same, at an index that is given by an equation
  pub get_or-splice_at : (l : List A) (at : ℕ) (d : List A) (i j : ℕ) (z : A) → at + length d ≤ length l → j < length d → i ≡ at + j → get_or (splice l at d) i z ≡ get_or d j z
  get_or-splice_at l at d i j z h b e = ap (λ (n : ℕ). get_or (splice l at d) n z) e ∙ get_or-splice_in l at d j z h b

  -- a store is a splice of one element
  pub set-splice : (l : List A) (i : ℕ) (a : A) → i < length l → set l i a ≡ splice l i (a ∷ [])
  unfolding splice
  set-splice l i a h =
      let e : suc i ≡ i + 1 = omega arith in
      set_split l i a h ∙ ap (λ (n : ℕ). take i l ++ (a ∷ drop n l)) e

  pub splice_whole : (l : List A) (d : List A) → length d ≡ length l → splice l 0 d ≡ d
  unfolding splice
  splice_whole l d e =
      let z : drop (0 + length d) l ≡ [] = drop_of_length-le l {i = 0 + length d} (omega arith) in
      rw z (append-nil d)

  -- what stands before a splice, and from it on
  pub take-splice : (l : List A) (at : ℕ) (d : List A) → at ≤ length l → take at (splice l at d) ≡ take at l
  unfolding splice
  take-splice l at d h = take_at (take at l) (d ++ drop (at + length d) l) at (length-take-le at l h)

-- a part `&mut l[a..a + k]` that was lent came back as ys
pub part_back : {A : Type 0} (l : List A) (a k : ℕ) (ys : List A) → length ys ≡ k → put_mid a (a + k - a) l ys ≡ splice l a ys
unfolding splice
part_back l a k ys e =
    let z : a + k - a ≡ k = omega arith in
    rw (z, drop-drop k a l, e)
