-- Laws of the items as they are stored: how long they are, that they lie in the map, and that a store of one more joins on
-- to those before it; before them what the code stores of the sum and of a cleared map. Assumes nothing.
use mathlib.Core.Path.{◌≡◌, sym, ap, ◌∙◌, subst}
use mathlib.Core.Bool.{Bool, true, false}
use mathlib.Core.List.{List, [], ◌++◌, append-nil}
use Prim.Native.Nat.{ℕ, zero, suc, ◌+◌, ◌*◌, ◌/◌, ◌%◌, ◌^◌, ◌<◌, ◌≤◌}
use native.Mathlib.Nat.{zero-mul, suc-mul}
use native.Mathlib.Numerals.{add-one}
use native.Mathlib.Omega.{arith}
use lib.ListN.{length, take, drop, length-append, length-replicate}
use lib.Seq.{slice, length-take-le}
use Rattle.std.specs.Int.{to_le_bytes, w16}
use Rattle.lists.specs.Words.{pick, splice, rep}
use Rattle.lists.proofs.Orders.{by_test}
use Rattle.lists.proofs.Splice.{splice-nil, splice-splice}
use Rattle.lists.proofs.Windows.{length-window, take-drop}
use Rattle.chip.specs.Figures.{Layout, virtuals, block_len, sectors, header_len, large_item, small_item, item_len, map_len, records}
use Rattle.chip.proofs.Layouts.{Sound, map_fits}
use Rattle.mapping.specs.declared.Block.{Block}
use Rattle.mapping.specs.declared.Mapping.{Mapping}
use Rattle.mapping.specs.Blocks.{block_at}
use Rattle.block_map.specs.Items.{item_at}
use Rattle.block_zero.specs.Put.{item_pair, item_of, item_bytes, items, low_first}

-- the bytes of a 16-bit number, as the code stores them
pub two_bytes : (n : ℕ) → n < 2 ^ 16 → to_le_bytes w16 n ≡ low_first n
two_bytes n h = let high : n / 256 % 256 ≡ n / 256 = omega arith in rw high

-- a list whose front was lent and came back zeroed
pub front_zeroed : (z ys : List ℕ) (n : ℕ) → n ≤ length z → ys ≡ rep (length (take n z)) 0 → ys ++ drop n z ≡ splice z 0 (rep n 0)
unfolding splice
front_zeroed z ys n h e =
    let k : 0 + length (rep n 0) ≡ n = omega (arith, length-replicate {A = ℕ} n 0) in rw (e, length-take-le n z h, k)

-- the items lie in the map
pub items_fit : (l : Layout) → Sound l → (n : ℕ) → n ≤ virtuals l → header_len + n * item_len l ≤ map_len l
items_fit l s n h = go l.large
  where
    go : (b : Bool) → header_len + n * pick b large_item small_item ≤ pick b 0x3FE (header_len + virtuals l * small_item)
    go true = omega (arith, s.few)
    go false = omega arith

module _ (l : Layout) (b : Block) where
  pub length_pair : length (item_pair l b) ≡ 2
  unfolding item_pair
  length_pair = by_test l.large (λ e. rw e) (λ e. rw e)

  module _ (t : List ℕ) (i : ℕ) where
    pub item_large : l.large ≡ true → item_of l b t i ≡ item_pair l b
    unfolding item_of
    item_large e =
        ap (λ (x : Bool). item_pair l b ++ pick x [] (take sectors (drop (i * sectors) t))) e ∙ append-nil (item_pair l b)

    pub item_small : l.large ≡ false → item_of l b t i ≡ item_pair l b ++ take sectors (drop (i * sectors) t)
    unfolding item_of
    item_small e = rw e

    pub length_item : length t ≡ records * sectors → i < records → length (item_of l b t i) ≡ item_len l
    length_item h k =
        let w : length (take sectors (drop (i * sectors) t)) ≡ sectors = length-window (i * sectors) sectors t (omega arith) in
        by_test l.large
        (λ e. ap length (item_large e) ∙ length_pair ∙ sym (ap (λ (x : Bool). pick x large_item small_item) e))
        (λ e.
        ap length (item_small e)
        ∙ length-append (item_pair l b) (take sectors (drop (i * sectors) t))
        ∙ omega (arith, length_pair)
        ∙ sym (ap (λ (x : Bool). pick x large_item small_item) e))

    -- z became y, in which the pair is stored at `at`: on a large chip that is the item
    module _ (z y : List ℕ) (at : ℕ) (pair : y ≡ splice z at (item_pair l b)) where
      pub stored_large : l.large ≡ true → y ≡ splice z at (item_of l b t i)
      stored_large e = pair ∙ ap (splice z at) (sym (item_large e))

      -- and on a small one it became x, with the tickets from `from` on copied behind the pair
      pub stored_small
          : (x : List ℕ) (from : ℕ)
          → at + small_item ≤ length z → l.large ≡ false → length t ≡ records * sectors → i < records → from ≡ i
          → x ≡ splice y (at + 2) (slice (from * sectors) (from * sectors + sectors) t) → x ≡ splice z at (item_of l b t i)
      stored_small x from f e h k d q =
          let n : length (take sectors (drop (i * sectors) t)) ≡ sectors = length-window (i * sectors) sectors t (omega arith) in
          q
          ∙ rw (pair, d, item_small e, ← take-drop (i * sectors) sectors t, ← length_pair)
          (splice-splice 0 z at (item_pair l b) (take sectors (drop (i * sectors) t)) (omega (arith, length_pair)))

module _ (l : Layout) (m : Mapping) (tickets : length m.tickets ≡ records * sectors) where
  pub length_items : (n : ℕ) → n ≤ records → length (items l m n) ≡ n * item_len l
  unfolding items
  length_items zero h = sym (zero-mul (item_len l))
  length_items (suc n) h =
      let e : length (item_bytes l m n) ≡ item_len l = length_item l (block_at m n) m.tickets n tickets (omega arith) in
      length-append (items l m n) (item_bytes l m n) ∙ rw (length_items n (omega arith), e) (sym (suc-mul n (item_len l)))

  -- the loop that stores them: none yet, and one more
  pub items_none : (z : List ℕ) → block_len ≤ length z → z ≡ splice z header_len (items l m 0)
  unfolding items
  items_none z h = sym (splice-nil z header_len (omega arith))

  pub items_more
      : (z : List ℕ) (i : ℕ)
      → Sound l → block_len ≤ length z → i < virtuals l
      → splice (splice z header_len (items l m i)) (item_at l i) (item_bytes l m i) ≡ splice z header_len (items l m (i + 1))
  unfolding items
  items_more z i s h k =
      let b : i < records = omega (arith, s.few) in
      let e : length (items l m i) ≡ i * item_len l = length_items i (omega arith) in
      let d : length (item_bytes l m i) ≡ item_len l = length_item l (block_at m i) m.tickets i tickets b in
      let f : header_len + suc i * item_len l ≤ map_len l = items_fit l s (suc i) (omega arith) in
      rw (add-one i)
      (subst (λ (n : ℕ). splice (splice z header_len (items l m i)) (header_len + n) (item_bytes l m i) ≡ splice z header_len (items l m i ++ item_bytes l m i)) e
      (splice-splice 0 z header_len (items l m i) (item_bytes l m i) (omega (arith, map_fits l s, suc-mul i (item_len l)))))
