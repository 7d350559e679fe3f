-- An item's two bytes, read back: the low seven bits are the number that was put, the eighth says whether the block is in
-- use, so that the pair decodes to the block it was made of. Assumes nothing.
use mathlib.Core.Path.{◌≡◌, sym, ap, ◌∙◌}
use mathlib.Core.Bool.{true, false, not}
use mathlib.Core.List.{List, [], ◌++◌}
use Prim.Native.Nat.{ℕ, ◌+◌, ◌*◌, ◌%◌, ◌<◌}
use native.Mathlib.Omega.{arith}
use borrow.Author.Tests.{le-leb, lt-leb}
use lib.Dec.{leb}
use lib.ListN.{get_or, take, drop, get_or-append}
use lib.Seq.{get_or-append-add}
use Rattle.lists.specs.Words.{pick}
use Rattle.lists.proofs.Orders.{by_test}
use Rattle.lists.proofs.Windows.{get_or-window}
use Rattle.chip.specs.Figures.{Layout, sectors, in_use_bit}
use Rattle.mapping.specs.declared.Block.{Block}
use Rattle.mapping.specs.declared.Condition.{Condition}
use Rattle.mapping.specs.declared.Condition.TheVariants.{Free, Clean}
use Rattle.mapping.specs.Blocks.{is_free, block_of}
use Rattle.block_map.specs.Items.{item_condition, decoded}
use Rattle.block_zero.specs.Put.{head_byte, item_pair, item_of}
use Rattle.block_zero.proofs.Puts.{length_pair, item_small}

module _ (d : Condition) (n : ℕ) where
  head_low : n < in_use_bit → head_byte d n % in_use_bit ≡ n
  head_low h = by_test (is_free d) (λ e. rw e (omega arith)) (λ e. rw e (omega arith))

  head_used : leb in_use_bit (head_byte d n) ≡ not (is_free d)
  head_used =
      by_test (is_free d)
      (λ e. rw e (lt-leb in_use_bit (n % in_use_bit + 0) (omega arith)))
      (λ e. rw e (le-leb in_use_bit (n % in_use_bit + in_use_bit) (omega arith)))

  head_condition : item_condition (head_byte d n) ≡ pick (is_free d) Free Clean
  head_condition = rw head_used (by_test (is_free d) (λ e. rw e) (λ e. rw e))

module _ (l : Layout) (b : Block) where
  pub pair_used : leb in_use_bit (get_or (item_pair l b) 0 0) ≡ not (is_free b.condition)
  unfolding item_pair
  pair_used =
      by_test l.large
      (λ e. rw e (head_used b.condition b.count))
      (λ e. rw e (head_used b.condition b.physical.0))

  -- what goes into seven bits fits
  pub pair_back
      : (l.large ≡ false → b.physical.0 < in_use_bit) → (l.large ≡ true → b.count < in_use_bit)
      → decoded l (get_or (item_pair l b) 0 0) (get_or (item_pair l b) 1 0)
      ≡ block_of b.physical.0 b.count (pick (is_free b.condition) Free Clean)
  unfolding item_pair decoded
  pair_back small large =
      by_test l.large
      (λ e. rw (e, head_low b.condition b.count (large e), head_condition b.condition b.count))
      (λ e. rw (e, head_low b.condition b.physical.0 (small e), head_condition b.condition b.physical.0))

  module _ (t : List ℕ) (i : ℕ) where
    pub item_pair_lem : (k : ℕ) → k < 2 → get_or (item_of l b t i) k 0 ≡ get_or (item_pair l b) k 0
    unfolding item_of
    item_pair_lem k h =
        get_or-append (item_pair l b) (pick l.large [] (take sectors (drop (i * sectors) t))) 0 k (omega (arith, length_pair l b))

    pub item_ticket_lem : l.large ≡ false → (k : ℕ) → k < sectors → get_or (item_of l b t i) (2 + k) 0 ≡ get_or t (i * sectors + k) 0
    item_ticket_lem e k h =
        ap (λ (r : List ℕ). get_or r (2 + k) 0) (item_small l b t i e)
        ∙ ap (λ (n : ℕ). get_or (item_pair l b ++ take sectors (drop (i * sectors) t)) (n + k) 0) (sym (length_pair l b))
        ∙ get_or-append-add (item_pair l b) (take sectors (drop (i * sectors) t)) k 0
        ∙ get_or-window (i * sectors) sectors t k 0 h
