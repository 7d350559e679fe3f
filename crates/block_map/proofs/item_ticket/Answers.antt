-- `item_ticket` meets its contract: each way out is a case of the definition; here the last, a block in use.
use Rattle.std.proofs.Common.{◌≤◌, get_or, arith}
use borrow.Author.Tests.{le-leb}
use Rattle.chip.specs.Figures.{in_use_bit}
use Rattle.block_map.specs.Items.{item_ticket}
use Rattle.block_map.proofs.item_ticket.Goals as goal

pub returns : goal.returns
unfolding item_ticket
returns c =
    let at = c.item_at-at in
    let used : in_use_bit ≤ get_or c.args.zero.now at.result 0 = omega arith in
    rw (← at.ensures.value, ← c.is_large.ensures, c.if-is_large.false, le-leb _ _ used)
