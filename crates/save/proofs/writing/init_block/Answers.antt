-- A turn copies a sheet behind those that were copied before, by `filling`; eight of them are a block.
use Rattle.std.proofs.Common.{◌≡◌, ◌∙◌, arith}
use Rattle.chip.specs.Figures.{sectors}
use Rattle.save.proofs.writing.init_block.Goals as goal

pub returns : goal.returns
returns c =
    let l = c.loop-j in
    let e : l.j ≡ sectors = omega arith in
    l.invariant ∙ rw e
