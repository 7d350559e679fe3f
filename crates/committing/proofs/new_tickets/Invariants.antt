-- The first s tickets are those of the commit, and the others as they came.
use Rattle.std.proofs.Common.{◌≡◌, ℕ, ◌*◌, ◌<◌, ◌≤◌, length, get_or}
use Rattle.chip.specs.Figures.{sectors, records}
use Rattle.committing.proofs.Renewed.{ticket_over}
use Rattle.committing.proofs.new_tickets.Given as goal

abbrev pub invariant-loop-s : goal.invariant-loop-s
invariant-loop-s l =
    (length l.tickets ≡ records * sectors)
    × ((k : ℕ) → k < l.s → get_or l.tickets k 0 ≡ ticket_over l.fn.image l.fn.m k)
    × ((k : ℕ) → l.s ≤ k → get_or l.tickets k 0 ≡ get_or l.fn.m.tickets k 0)
