-- The two copies of a slot, compared as two lists, are compared byte by byte: each byte of a copy is the slot's, and equal
-- bytes make equal lists. And a copy into the front of a list, one element a turn: none yet, one more, and all of it. Assumes
-- nothing.
use mathlib.Core.Path.{◌≡◌, sym, ap, ◌∙◌, subst}
use mathlib.Core.Bool.{Bool, true}
use mathlib.Core.List.{List}
use Prim.Native.Nat.{ℕ, ◌+◌, ◌≤◌, ◌<◌}
use native.Mathlib.Omega.{arith}
use borrow.Author.Tests.{eqb-true, eq-eqb}
use lib.Dec.{eqb}
use lib.ListN.{length, get_or, set, take, drop, length-drop}
use lib.Pointwise.{pointwise}
use lib.Seq.{get_or-take, get_or-drop}
use Rattle.std.proofs.lemmas.Slice.Eq.{bytes_eq-Decides}
use Rattle.lists.specs.Words.{splice}
use Rattle.lists.proofs.Orders.{bool_ext}
use Rattle.lists.proofs.Splice.{splice-nil, splice_whole}
use Rattle.lists.proofs.Stores.{taken_more}
use Rattle.lists.proofs.Tests.{all_at, all_by}
use Rattle.lists.proofs.Windows.{length-window, get_or-window, window_ext}
use Rattle.journal.specs.Entries.{entry_len, twins}

module _ (s : List ℕ) (h : entry_len + entry_len ≤ length s) where
  abbrev first : List ℕ
  first = take entry_len s

  abbrev second : List ℕ
  second = take entry_len (drop entry_len s)

  abbrev same : ℕ → Bool
  same i = eqb (get_or s i 0) (get_or s (entry_len + i) 0)

  each : first ≡ second → (i : ℕ) → i < entry_len → same i ≡ true
  each e i b =
      eq-eqb (get_or s i 0) (get_or s (entry_len + i) 0)
      (sym (get_or-take entry_len s i 0 b) ∙ ap (λ (l : List ℕ). get_or l i 0) e ∙ get_or-window entry_len entry_len s i 0 b)

  whole : twins s ≡ true → first ≡ second
  unfolding twins
  whole t =
      window_ext 0 entry_len entry_len s first h (length-window 0 entry_len s (omega arith))
      (λ i b. get_or-take entry_len s i 0 b ∙ eqb-true (get_or s i 0) (get_or s (entry_len + i) 0) (all_at same entry_len i t b))

  pub twins_equal : pointwise eqb first second ≡ twins s
  unfolding twins
  twins_equal =
      let d = bytes_eq-Decides first second in
      bool_ext (pointwise eqb first second) (twins s) (λ p. all_by same entry_len (each (d.0 p))) (λ t. d.1 (whole t))

-- the elements of s from place f on are copied into l
module _ (l s : List ℕ) (f : ℕ) where
  pub front_none : l ≡ splice l 0 (take 0 (drop f s))
  front_none = sym (splice-nil l 0 (omega arith))

  pub front_more : (k : ℕ) → k < length l → f + k < length s
      → set (splice l 0 (take k (drop f s))) k (get_or s (f + k) 0) ≡ splice l 0 (take (k + 1) (drop f s))
  front_more k h b =
      let d : k < length (drop f s) = simp length-drop (omega arith) in
      let e : 0 + k ≡ k = omega arith in
      rw (← get_or-drop f s k 0)
      (subst (λ (n : ℕ). set (splice l 0 (take k (drop f s))) n (get_or (drop f s) k 0) ≡ splice l 0 (take (k + 1) (drop f s))) e
      (taken_more l 0 (drop f s) k 0 (omega arith) d))

  pub front_all : f + length l ≤ length s → splice l 0 (take (length l) (drop f s)) ≡ take (length l) (drop f s)
  front_all h = splice_whole l (take (length l) (drop f s)) (length-window f (length l) s h)
