-- The flags are those of the first i blocks, and what the search finds from i on is what it finds.
use Rattle.std.proofs.Common.{◌≡◌, not}
use Rattle.lists.specs.Words.{tabulate}
use Rattle.chip.specs.Figures.{records}
use Rattle.answers.proofs.Searches.{Sought}
use Rattle.mapping.specs.Fits.{appeared, placed}
use Rattle.block_map.proofs.bad_number.Given as goal

abbrev pub invariant-loop-i : goal.invariant-loop-i
invariant-loop-i l =
    (l.seen ≡ tabulate (appeared l.m l.i) records) × Sought (λ u. not (placed l.p l.m u)) l.v l.i
