-- The blocks' lines, and behind them their number.
use Rattle.listing.specs.Lines.{list_of}
use Rattle.listing.proofs.Growing.{grew_then}
use Rattle.listing.proofs.Writer.list.Goals as goal

pub returns : goal.returns
unfolding list_of
returns c =
    rw (← c.lines-n.ensures.value, ← c.in_use-used.ensures)
    (record { grown = grew_then c.blocks-2.ensures.grown (grew_then c.field.ensures.grown c.word.ensures.grown) })
