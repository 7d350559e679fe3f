-- On a large chip the pair is the item, on a small one the tickets join on to it.
use Rattle.std.proofs.Common.{sym, ◌∙◌, arith}
use Rattle.chip.specs.Figures.{layout_of}
use Rattle.block_zero.proofs.Puts.{stored_large, stored_small}
use Rattle.block_zero.proofs.put_item.Goals as goal

pub returns-then-not-is_large : goal.returns-then-not-is_large
returns-then-not-is_large c =
    let a = c.args in
    let place = c.item_at-at in
    let test = c.if-not-is_large.true in
    rw (← place.ensures.value)
    (stored_small (layout_of a.kind) a.b a.tickets.now a.v.0 a.image.now _ place.result c.put_pair.ensures _ _ (omega arith)
    (sym c.is_large.ensures ∙ test) c.requires.1 (omega arith)
    c.at.ensures.value c.copy.ensures)

pub returns-else-not-is_large : goal.returns-else-not-is_large
returns-else-not-is_large c =
    let a = c.args in
    let place = c.item_at-at in
    let test = c.if-not-is_large.false in
    rw (← place.ensures.value)
    (stored_large (layout_of a.kind) a.b a.tickets.now a.v.0 a.image.now _ place.result c.put_pair.ensures
    (sym c.is_large.ensures ∙ test))
