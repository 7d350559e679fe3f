-- The first i items stand in the image, and nothing else has changed.
use Rattle.std.proofs.Common.{◌≡◌}
use Rattle.lists.specs.Words.{splice}
use Rattle.chip.specs.Figures.{layout_of, header_len}
use Rattle.block_zero.specs.Put.{items}
use Rattle.block_zero.proofs.put_items.Given as goal

abbrev pub invariant-loop-i : goal.invariant-loop-i
invariant-loop-i l = l.image ≡ splice l.initial.image header_len (items (layout_of l.kind) l.m l.i)
