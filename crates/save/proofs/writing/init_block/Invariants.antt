-- The first j sectors of the block are erased, and nothing else has changed.
use Rattle.std.proofs.Common.{◌≡◌, ◌*◌}
use Rattle.lists.specs.Words.{splice, rep}
use Rattle.chip.specs.Figures.{block_len, sector_len, erased}
use Rattle.save.proofs.writing.init_block.Given as goal

abbrev pub invariant-loop-j : goal.invariant-loop-j
invariant-loop-j l = l.image ≡ splice l.fn.image (l.number.0 * block_len) (rep (l.j * sector_len) erased)
