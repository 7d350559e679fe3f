-- Past the last turn the passed bytes are all of them.
use Rattle.std.proofs.Common.{◌≡◌, ◌∙◌, arith}
use Rattle.chip.specs.Figures.{records}
use Rattle.crossing.specs.Crossing.{known}
use Rattle.crossing.proofs.is_known.Goals as goal

pub returns : goal.returns
unfolding known
returns c =
    let l = c.loop-b in
    let e : l.b-index ≡ records = omega arith in
    l.invariant ∙ rw e
