-- The invariant of `Mapping::seen_numbers`: the flags are those of the blocks before b.
use Rattle.std.proofs.Common.{◌≡◌}
use Rattle.lists.specs.Words.{tabulate}
use Rattle.chip.specs.Figures.{records}
use Rattle.mapping.specs.Fits.{appeared}
use Rattle.mapping.proofs.Mapping.seen_numbers.Given as goal

abbrev pub invariant-loop-b : goal.invariant-loop-b
invariant-loop-b l = l.seen ≡ tabulate (appeared l.fn.self l.b-index) records
