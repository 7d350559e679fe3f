-- The first i records are those of a formatted image, and the others blank.
use Rattle.std.proofs.Common.{◌≡◌, ◌+◌}
use Rattle.lists.specs.Words.{up_to, tabulate}
use Rattle.chip.specs.Figures.{records}
use Rattle.mapping.specs.Blocks.{block_of, no_block}
use Rattle.mapping.specs.declared.Condition.TheVariants.{Free}
use Rattle.block_zero.proofs.fresh_blocks.Given as goal

abbrev pub invariant-loop-i : goal.invariant-loop-i
invariant-loop-i l = l.blocks ≡ tabulate (up_to l.i (λ k. block_of (k + 1) 0 Free) no_block) records
