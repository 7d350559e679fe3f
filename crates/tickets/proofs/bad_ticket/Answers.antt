-- The sector that the loops have come to is the one that the search tests next; it stops where the code does.
use Rattle.std.proofs.Common.{◌+◌, ◌*◌, refl, sym, ap, Some, ◌∙◌, arith}
use Rattle.chip.specs.Figures.{sectors}
use Rattle.answers.proofs.Searches.{sought_none, sought_at, sought_more, sought_hit, sought_end}
use Rattle.tickets.specs.Tickets.{bad_ticket}
use Rattle.tickets.proofs.Sectors.{fails_is, bad_small}
use Rattle.tickets.proofs.bad_ticket.Goals as goal

pub returns-then-is_large : goal.returns-then-is_large
unfolding bad_ticket
returns-then-is_large c = rw (← c.is_large.ensures, c.if-is_large.true)

pub blocks-2-init : goal.blocks-2-init
blocks-2-init c = (refl, sought_at _ _ 0 _ (sought_none _ _) (omega arith))

pub loop-j-preserved : goal.loop-j-preserved
loop-j-preserved c =
    let l = c.loop-j in
    let b = c.blocks-2.b in (
      l.invariant.0,
      sought_more _ _ (b * sectors + l.j) _ l.invariant.1 (omega arith)
          (sym (fails_is _ _ b l.j (omega arith)) ∙ sym c.sector_fails.ensures ∙ c.if-sector_fails.false) (omega arith),
    )

pub returns-after-blocks-2 : goal.returns-after-blocks-2
returns-after-blocks-2 c =
    let l = c.blocks-2 in
    l.invariant.0
    ∙ sought_end _ _ (l.b * sectors) l.invariant.1 (omega arith)
    ∙ bad_small _ _ _ _ (sym c.is_large.ensures ∙ c.if-is_large.false) (omega arith)

pub returns-then-sector_fails : goal.returns-then-sector_fails
returns-then-sector_fails c =
    let l = c.loop-j in
    let b = c.blocks-2.b in
    ap Some (omega arith)
    ∙ sought_hit _ _ (b * sectors + l.j) l.invariant.1 (omega arith)
    (sym (fails_is _ _ b l.j (omega arith)) ∙ sym c.sector_fails.ensures ∙ c.if-sector_fails.true)
    ∙ bad_small _ _ _ _ (sym c.is_large.ensures ∙ c.if-is_large.false) (omega arith)
