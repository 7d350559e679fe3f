-- The visits go up to `end`; image and mapping are those after the visits up to sector s, and a turn makes those of one block.
-- That visits keep the image's length and all physical numbers lets the next turn be made.
use Rattle.std.proofs.Common.{◌≡◌, ◌-◌, length}
use Rattle.save.specs.Visits.{state, end_sector}
use Rattle.save.proofs.Visits.{Going}
use Rattle.save.proofs.writing.write_save.Given as goal

abbrev pub invariant-loop-s : goal.invariant-loop-s
invariant-loop-s l =
    (l.end ≡ end_sector l.place (length l.bytes)) × Going l.place l.bytes (state l.fn.image l.fn.m) (state l.image l.t) l.s

abbrev pub decreases-loop-s : goal.decreases-loop-s
decreases-loop-s l = l.end - l.s
