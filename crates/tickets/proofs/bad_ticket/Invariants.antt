-- Both invariants say that nothing was found yet and that what the search finds is what it finds from the present sector on.
use Rattle.std.proofs.Common.{◌≡◌, ◌+◌, ◌*◌, None}
use Rattle.chip.specs.Figures.{sectors}
use Rattle.answers.proofs.Searches.{Sought}
use Rattle.tickets.specs.Tickets.{ticket_in, fails_at}
use Rattle.tickets.proofs.bad_ticket.Given as goal

abbrev pub invariant-loop-j : goal.invariant-loop-j
invariant-loop-j l =
    (l.found ≡ None) × Sought (fails_at (ticket_in l.image) l.m) (l.b-end * sectors) (l.b * sectors + l.j)

abbrev pub invariant-blocks-2 : goal.invariant-blocks-2
invariant-blocks-2 l =
    (l.found ≡ None) × Sought (fails_at (ticket_in l.image) l.m) (l.b-end * sectors) (l.b * sectors)
