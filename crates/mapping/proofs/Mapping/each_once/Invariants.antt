-- The invariant of `Mapping::each_once`: `ok` says whether the numbers before s were seen.
use Rattle.std.proofs.Common.{◌≡◌, false, get_or}
use Rattle.lists.specs.Words.{all}
use Rattle.mapping.proofs.Mapping.each_once.Given as goal

abbrev pub invariant-loop-s : goal.invariant-loop-s
invariant-loop-s l = l.ok ≡ all (λ k. get_or l.s-items k false) l.s-index
