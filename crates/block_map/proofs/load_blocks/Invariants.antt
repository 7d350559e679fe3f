-- The records are those of the first i items, and blank from there on.
use Rattle.std.proofs.Common.{◌≡◌}
use Rattle.lists.specs.Words.{up_to, tabulate}
use Rattle.chip.specs.Figures.{layout_of, records}
use Rattle.mapping.specs.Blocks.{no_block}
use Rattle.block_map.specs.Items.{item_block}
use Rattle.block_map.proofs.load_blocks.Given as goal

abbrev pub invariant-loop-i : goal.invariant-loop-i
invariant-loop-i l = l.blocks ≡ tabulate (up_to l.i (item_block (layout_of l.kind) l.zero) no_block) records
