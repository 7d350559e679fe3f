-- The search for a count that is too high. As a loop over a large chip's blocks goes, it stops at a hit, goes on at a miss, and past
-- the last block it has found nothing; as a chain of iterators, it is a walk over the first V blocks. Assumes nothing.
use Rattle.std.proofs.Common.{◌≡◌, ℕ, zero, suc, ◌+◌, ◌-◌, ◌<◌, ◌≤◌, sym, ◌∙◌, true, false, arith, Option, Some, None, length, take, drop, drop-cons, add-one}
use Rattle.std.specs.List.{position, position_from}
use Rattle.std.proofs.lemmas.Iterator.Adapters.{position_from-zero}
use lib.Dec.{leb}
use borrow.Author.Tests.{le-leb, lt-leb, leb-true, leb-false}
use Rattle.lists.proofs.Orders.{by_test}
use Rattle.chip.specs.Figures.{Layout, virtuals, in_use_bit}
use Rattle.answers.specs.Search.{first_from, first_of}
use Rattle.answers.proofs.Searches.{first_stops, first_goes, first_ends, sought_none}
use Rattle.mapping.specs.declared.Mapping.{Mapping}
use Rattle.mapping.specs.Blocks.{no_block, count_at}
use Rattle.mapping.specs.Limits.{high_count_on}

-- what is known before block b: the chip is large and has v blocks, and the search from b on finds what it finds at all
pub record Seeking (l : Layout) (m : Mapping) (v b : ℕ) : Type 0 where
  pub large : l.large ≡ true
  pub size : v ≡ virtuals l
  pub within : b ≤ v
  pub rest : first_of (λ u. leb in_use_bit (count_at m u)) v ≡ first_from (λ u. leb in_use_bit (count_at m u)) b (v - b)

pub high_begin : (l : Layout) (m : Mapping) (v : ℕ) → l.large ≡ true → v ≡ virtuals l → Seeking l m v 0
high_begin l m v large e =
    record { large = large; size = e; within = omega arith; rest = sought_none (λ u. leb in_use_bit (count_at m u)) v }

pub high_hit : (l : Layout) (m : Mapping) (v b : ℕ) → Seeking l m v b → b < v → in_use_bit ≤ count_at m b → Some b ≡ high_count_on l m
unfolding high_count_on
high_hit l m v b s h c = rw (s.large, ← s.size) (sym (s.rest ∙ first_stops _ b _ h (le-leb _ _ c)))

pub high_miss : (l : Layout) (m : Mapping) (v b : ℕ) → Seeking l m v b → b < v → count_at m b < in_use_bit → Seeking l m v (b + 1)
high_miss l m v b s h c =
    record { large = s.large; size = s.size; within = omega arith; rest = s.rest ∙ first_goes _ b _ h (lt-leb _ _ c) }

pub high_end : (l : Layout) (m : Mapping) (v b : ℕ) → Seeking l m v b → v ≤ b → None ≡ high_count_on l m
unfolding high_count_on
high_end l m v b s h = rw (s.large, ← s.size) (sym (s.rest ∙ first_ends _ b _ h))

module _ (l : Layout) (m : Mapping) where
  pub high_small : l.large ≡ false → None ≡ high_count_on l m
  unfolding high_count_on
  high_small e = rw e

  -- from block b on, over the n that are left
  high_walk
      : (v n b : ℕ) → b + n ≡ v → v ≤ length m.blocks → Seeking l m v b
      → position_from (λ x. leb in_use_bit x.count) b (take n (drop b m.blocks)) ≡ high_count_on l m
  high_walk v zero b e h s = high_end l m v b s (omega arith)
  high_walk v (suc n) b e h s =
      let lt : b < length m.blocks = omega arith in
      rw (drop-cons m.blocks b no_block lt, add-one b) (by_test (leb in_use_bit (count_at m b))
      (λ t. rw t (high_hit l m v b s (omega arith) (leb-true _ _ t)))
      (λ t. rw t (rw (← add-one b) (high_walk v n (b + 1) (omega arith) h (high_miss l m v b s (omega arith) (leb-false _ _ t))))))

  pub high_found
      : (v : ℕ) (r : Option ℕ) → l.large ≡ true → v ≡ virtuals l → v ≤ length m.blocks
      → r ≡ position (λ b. leb in_use_bit b.count) (take v m.blocks) → r ≡ high_count_on l m
  high_found v r large e h p =
      p ∙ position_from-zero (λ b. leb in_use_bit b.count) (take v m.blocks)
      ∙ high_walk v v 0 (omega arith) h (high_begin l m v large e)
