-- No lines at first, and each turn puts its block's line behind those of the blocks below it.
use Rattle.std.proofs.Common.{arith, add-one}
use Rattle.listing.specs.Lines.{block_lines}
use Rattle.listing.proofs.Growing.{grew_nothing, grew_then}
use Rattle.listing.proofs.Writer.blocks.Goals as goal

pub loop-v-init : goal.loop-v-init
unfolding block_lines
loop-v-init c = (omega arith, grew_nothing _ (omega arith))

pub loop-v-preserved : goal.loop-v-preserved
unfolding block_lines
loop-v-preserved c = (omega arith, rw add-one (grew_then c.loop-v.invariant.1 c.block.ensures.grown))
