-- What a loop has stored after some turns, a copy or a fill that grows as a splice; and a lent part that came back filled, or
-- as a copy. Assumes nothing.
use mathlib.Core.Path.{◌≡◌, ap, ◌∙◌, subst}
use mathlib.Core.List.{List, [], ◌∷◌, ◌++◌, append-nil}
use Prim.Native.Nat.{ℕ, ◌+◌, ◌-◌, ◌≤◌, ◌<◌}
use native.Mathlib.Nat.{zero-add}
use native.Mathlib.Numerals.{add-one}
use native.Mathlib.Omega.{arith}
use borrow.Rule.Slice.PartMut.{put_mid, mid_of}
use lib.ListN.{length, take, drop, drop_of_length-le, get_or, set, length-replicate, replicate, replicate-append-replicate}
use lib.Seq.{slice, take_all, length-take-le, take-suc}
use Rattle.lists.specs.Words.{splice}
use Rattle.lists.proofs.Splice.{length-splice, splice-splice, set-splice, part_back}
use Rattle.lists.proofs.Windows.{length-window, take-drop}

module _ {ℓ} {A : Type ℓ} where
  pub splice-snoc : (l : List A) (at : ℕ) (x : List A) (a : A) → at + length x < length l → set (splice l at x) (at + length x) a ≡ splice l at (x ++ (a ∷ []))
  splice-snoc l at x a h =
      set-splice (splice l at x) (at + length x) a (omega (arith, length-splice l at x (omega arith)))
      ∙ splice-splice a l at x (a ∷ []) (omega arith)

  -- two stores side by side
  pub set_two : (l : List A) (at : ℕ) (a b : A) → at + 2 ≤ length l → set (set l at a) (at + 1) b ≡ splice l at (a ∷ b ∷ [])
  set_two l at a b h = rw (set-splice l at a (omega arith)) (splice-snoc l at (a ∷ []) b (omega arith))

  -- a loop that copies from the front: one more
  pub taken_more
      : (l : List A) (at : ℕ) (s : List A) (k : ℕ) (z : A)
      → at + k < length l → k < length s → set (splice l at (take k s)) (at + k) (get_or s k z) ≡ splice l at (take (k + 1) s)
  taken_more l at s k z h b =
      let e : length (take k s) ≡ k = length-take-le k s (omega arith) in
      rw (add-one k, take-suc s k z b)
      (subst (λ (n : ℕ). set (splice l at (take k s)) (at + n) (get_or s k z) ≡ splice l at (take k s ++ (get_or s k z ∷ []))) e
      (splice-snoc l at (take k s) (get_or s k z) (omega arith)))

  -- a loop that fills: one more
  filled_more : (l : List A) (at : ℕ) (a : A) (j : ℕ) → at + j < length l → set (splice l at (replicate j a)) (at + j) a ≡ splice l at (replicate (j + 1) a)
  filled_more l at a j h =
      let e : length (replicate j a) ≡ j = length-replicate j a in
      subst (λ (n : ℕ). set (splice l at (replicate j a)) (at + n) a ≡ splice l at (replicate (j + 1) a)) e
      (splice-snoc l at (replicate j a) a (omega arith) ∙ ap (λ (r : List A). splice l at r) (replicate-append-replicate j 1 a))

  -- the same, from the list's first element on
  pub filled_front : (l : List A) (a : A) (j : ℕ) → j < length l → set (splice l 0 (replicate j a)) j a ≡ splice l 0 (replicate (j + 1) a)
  filled_front l a j h =
      subst (λ (n : ℕ). set (splice l 0 (replicate j a)) n a ≡ splice l 0 (replicate (j + 1) a)) (zero-add j)
      (filled_more l 0 a j (omega arith))

-- a part `&mut l[a..e]` that was lent came back filled
pub part_filled
    : {A : Type 0} (l : List A) (a e : ℕ) (x : A) (ys : List A)
    → a ≤ e → e ≤ length l → ys ≡ replicate (length (mid_of a (e - a) l)) x → put_mid a (e - a) l ys ≡ splice l a (replicate (e - a) x)
part_filled l a e x ys h k q =
    let n : length (mid_of a (e - a) l) ≡ e - a = length-window a (e - a) l (omega arith) in
    let d : ys ≡ replicate (e - a) x = rw n at q in
    let s : a + (e - a) ≡ e = omega arith in
    rw d
    (subst (λ (i : ℕ). put_mid a (i - a) l (replicate (e - a) x) ≡ splice l a (replicate (e - a) x)) s
    (part_back l a (e - a) (replicate (e - a) x) (length-replicate (e - a) x)))

-- a part `&mut l[a..a + n]` that was lent came back as a copy of `&s[f..f + n]`, as a copy byte by byte makes it
pub part_copied
    : {A : Type 0} (l s ys : List A) (a f n : ℕ)
    → a + n ≤ length l → f + n ≤ length s
    → (x : List A) → x ≡ mid_of f (f + n - f) s
    → ys ≡ take (length x) x ++ drop (length x) (mid_of a (a + n - a) l)
    → put_mid a (a + n - a) l ys ≡ splice l a (slice f (f + n) s)
part_copied {A = A} l s ys a f n h k x e q =
    let zf : f + n - f ≡ n = omega arith in
    let za : a + n - a ≡ n = omega arith in
    let w : x ≡ slice f (f + n) s = e ∙ rw zf (take-drop f n s) in
    let lx : length x ≡ n = ap length e ∙ rw zf (length-window f n s k) in
    let ly : length (mid_of a (a + n - a) l) ≡ n = rw za (length-window a n l h) in
    let d : ys ≡ x
    = q
    ∙ ap (λ (r : List A). r ++ drop (length x) (mid_of a (a + n - a) l)) (take_all (length x) x (omega arith))
    ∙ ap (λ (r : List A). x ++ r) (drop_of_length-le (mid_of a (a + n - a) l) {i = length x} (omega (arith, lx, ly)))
    ∙ append-nil x in
    part_back l a n ys (ap length d ∙ lx) ∙ ap (splice l a) (d ∙ w)
