-- The part that is lent is the sector.
use Rattle.std.proofs.Common.{◌≡◌, ◌+◌, ◌-◌, arith}
use Rattle.tickets.specs.Tickets.{sector_fails, ticket_in}
use Rattle.tickets.proofs.sector_fails.Goals as goal

pub returns-then-is_free : goal.returns-then-is_free
unfolding sector_fails
returns-then-is_free c = rw (← c.is_free.ensures, c.if-is_free.true)

pub returns : goal.returns
unfolding sector_fails ticket_in
returns c =
    let at = c.sector_place-at in
    let e : at.result + 512 - at.result ≡ 512 = omega arith in
    rw (← c.is_free.ensures, c.if-is_free.false, c.ticket.ensures, e, at.ensures)
