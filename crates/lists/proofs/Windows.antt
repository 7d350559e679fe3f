-- Laws of a window, the n elements of a list from a place on, and of the kit's `slice`, the elements from one place up to
-- another: their elements, how they join, and what a splice leaves of them. Assumes nothing.
use mathlib.Core.Path.{◌≡◌, refl, sym, ap, ◌∙◌}
use mathlib.Core.List.{List, [], ◌++◌}
use Prim.Native.Nat.{ℕ, min, ◌+◌, ◌-◌, ◌≤◌, ◌<◌}
use native.Mathlib.Omega.{arith}
use lib.ListN.{length, take, drop, get_or, length-append, length-take, length-drop, take-append-drop, drop_of_length-le}
use lib.Seq.{get_or-take, get_or-drop, ext_get_or, take-take, take-nil, take-add, slice, length-take-le, drop-append-le, drop_at}
use Rattle.lists.specs.Words.{splice}
use Rattle.lists.proofs.Orders.{split}
use Rattle.lists.proofs.Splice.{length-splice, splice_intro, get_or-splice_below, get_or-splice_in, get_or-splice_above}

module _ {ℓ} {A : Type ℓ} where
  pub length-window : (place n : ℕ) (l : List A) → place + n ≤ length l → length (take n (drop place l)) ≡ n
  length-window place n l h = simp (length-take, length-drop) (omega arith)

  pub get_or-window : (place n : ℕ) (l : List A) (i : ℕ) (z : A) → i < n → get_or (take n (drop place l)) i z ≡ get_or l (place + i) z
  get_or-window place n l i z h = get_or-take n (drop place l) i z h ∙ get_or-drop place l i z

  pub window_ext : (z : A) (place n : ℕ) (l : List A) (r : List A) → place + n ≤ length l → length r ≡ n
      → ((i : ℕ) → i < n → get_or r i z ≡ get_or l (place + i) z) → r ≡ take n (drop place l)
  window_ext z place n l r h e at =
      ext_get_or z r (take n (drop place l)) (e ∙ sym (length-window place n l h))
      (λ i b. at i (omega arith) ∙ sym (get_or-window place n l i z (omega arith)))

  -- what was spliced in is read back
  pub window-splice : (z : A) (l : List A) (at : ℕ) (d : List A) → at + length d ≤ length l → take (length d) (drop at (splice l at d)) ≡ d
  window-splice z l at d h =
      sym (window_ext z at (length d) (splice l at d) d (omega (arith, length-splice l at d h)) refl (λ i b. sym (get_or-splice_in l at d i z h b)))

  -- a front and what follows it up to t
  pub take-slice : (f t : ℕ) (l : List A) → f ≤ t → take f l ++ slice f t l ≡ take t l
  take-slice f t l h = ap (λ (r : List A). r ++ drop f (take t l)) (sym (take-take f t l h)) ∙ take-append-drop f (take t l)

  pub slice-append : (f t u : ℕ) (l : List A) → f ≤ t → t ≤ u → u ≤ length l → slice f t l ++ slice t u l ≡ slice f u l
  slice-append f t u l h k b =
      let e : length (take t l) ≡ t = length-take-le t l (omega arith) in
      sym (drop-append-le f (take t l) (slice t u l) (omega arith)) ∙ ap (drop f) (take-slice t u l k)

  pub take-drop : (place n : ℕ) (l : List A) → take n (drop place l) ≡ slice place (place + n) l
  take-drop place n l =
      sym (ap (drop place) (take-add place n l) ∙ at_front)
    where
      at_front : drop place (take place l ++ take n (drop place l)) ≡ take n (drop place l)
      at_front = split place (length l)
          (λ h. drop_at (take place l) (take n (drop place l)) place (length-take-le place l h))
          (λ h. let z : drop place l ≡ [] = drop_of_length-le l {i = place} (omega arith) in
          rw (z, take-nil n) (drop_of_length-le (take place l ++ []) {i = place} (simp (length-append, length-take) (omega arith))))

  -- two lists of one length that agree below n, or from n on
  pub take_ext : (z : A) (n : ℕ) (l r : List A) → length l ≡ length r → ((i : ℕ) → i < n → get_or l i z ≡ get_or r i z) → take n l ≡ take n r
  take_ext z n l r e at =
      ext_get_or z (take n l) (take n r) (length-take n l ∙ ap (min n) e ∙ sym (length-take n r))
      (λ i b.
      let c : i < min n (length l) = rw length-take at b in
      let h : i < n = omega arith in
      get_or-take n l i z h ∙ at i h ∙ sym (get_or-take n r i z h))

  pub drop_ext : (z : A) (n : ℕ) (l r : List A) → length l ≡ length r → ((i : ℕ) → n ≤ i → get_or l i z ≡ get_or r i z) → drop n l ≡ drop n r
  drop_ext z n l r e at =
      ext_get_or z (drop n l) (drop n r) (length-drop n l ∙ ap (λ (k : ℕ). k - n) e ∙ sym (length-drop n r))
      (λ i b. get_or-drop n l i z ∙ at (n + i) (omega arith) ∙ sym (get_or-drop n r i z))

  -- a splice that ends within the first n elements
  pub take-splice_in
      : (z : A) (n : ℕ) (l : List A) (at : ℕ) (d : List A)
      → at + length d ≤ n → n ≤ length l → take n (splice l at d) ≡ splice (take n l) at d
  take-splice_in z n l at d h k =
      let e : length (take n l) ≡ n = length-take-le n l k in
      let w : length (splice l at d) ≡ length l = length-splice l at d (omega arith) in
      let f : length (take n (splice l at d)) ≡ n = length-take-le n (splice l at d) (omega arith) in
      splice_intro z (take n (splice l at d)) (take n l) at d (omega arith) (f ∙ sym e)
      (λ i b.
      get_or-take n (splice l at d) i z (omega arith)
      ∙ get_or-splice_below l at d i z (omega arith) b
      ∙ sym (get_or-take n l i z (omega arith)))
      (λ j b. get_or-take n (splice l at d) (at + j) z (omega arith) ∙ get_or-splice_in l at d j z (omega arith) b)
      (λ i b c.
      get_or-take n (splice l at d) i z (omega arith)
      ∙ get_or-splice_above l at d i z (omega arith) b
      ∙ sym (get_or-take n l i z (omega arith)))
