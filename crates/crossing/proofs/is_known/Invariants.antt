-- `ok` says whether the condition bytes that the loop has passed are conditions; at the end that is all of them.
use Rattle.std.proofs.Common.{◌≡◌}
use Rattle.lists.specs.Words.{all}
use Rattle.crossing.specs.Crossing.{known_at}
use Rattle.crossing.proofs.is_known.Given as goal

abbrev pub invariant-loop-b : goal.invariant-loop-b
invariant-loop-b l = l.ok ≡ all (known_at l.from) l.b-index
