-- The part that is lent is the sector.
use Rattle.std.proofs.Common.{◌≡◌, ◌+◌, ◌-◌, arith}
use Rattle.tickets.specs.Tickets.{ticket_in}
use Rattle.committing.proofs.new_ticket.Goals as goal

pub returns-then-is_changed : goal.returns-then-is_changed
unfolding ticket_in
returns-then-is_changed c =
    let at = c.sector_place-at in
    let e : at.result + 512 - at.result ≡ 512 = omega arith in
    rw (← c.is_changed.ensures, c.if-is_changed.true, c.ticket.ensures, e, at.ensures)

pub returns : goal.returns
returns c = rw (← c.is_changed.ensures, c.if-is_changed.false)
