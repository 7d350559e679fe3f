-- The first j tickets are the map's, and the others zero.
use Rattle.std.proofs.Common.{◌≡◌, ◌*◌}
use Rattle.lists.specs.Words.{up_to, tabulate}
use Rattle.chip.specs.Figures.{layout_of, sectors, records}
use Rattle.block_map.specs.Items.{item_ticket}
use Rattle.block_map.proofs.load_tickets.Given as goal

abbrev pub invariant-loop-j : goal.invariant-loop-j
invariant-loop-j l = l.tickets ≡ tabulate (up_to l.j (item_ticket (layout_of l.kind) l.zero) 0) (records * sectors)
