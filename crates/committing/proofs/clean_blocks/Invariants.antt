-- The first records of the part are cleaned, and its others are as they came.
use Rattle.std.proofs.Common.{◌≡◌, ℕ, ◌<◌, ◌≤◌, get_or}
use Rattle.mapping.specs.Blocks.{no_block, block_at}
use Rattle.committing.specs.Committed.{cleaned}
use Rattle.committing.proofs.clean_blocks.Given as goal

abbrev pub invariant-loop-b : goal.invariant-loop-b
invariant-loop-b l =
    ((k : ℕ) → k < l.b-index → get_or l.b-items k no_block ≡ cleaned (block_at l.fn.m k))
    × ((k : ℕ) → l.b-index ≤ k → k < l.b-index-end → get_or l.b-items k no_block ≡ block_at l.fn.m k)
