-- A buffer that was filled brings the count nearer to the limit.
use Rattle.std.proofs.Common.{◌≡◌, ◌-◌, length}
use Rattle.listing.specs.Lines.{limit}
use Rattle.lister.proofs.read_rest.Given as goal

abbrev pub invariant-loop-total : goal.invariant-loop-total
invariant-loop-total l = length l.buffer ≡ 4096

abbrev pub decreases-loop-total : goal.decreases-loop-total
decreases-loop-total l = limit - l.total
