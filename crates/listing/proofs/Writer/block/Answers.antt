-- Nothing for a free block, four pieces for another.
use Rattle.std.proofs.Common.{rules}
use Rattle.listing.specs.Lines.{block_line}
use Rattle.listing.proofs.Growing.{grew_nothing, grew_then}
use Rattle.listing.proofs.Writer.block.Goals as goal

pub returns-then-is_free-clause-grown : goal.returns-then-is_free-clause-grown
unfolding block_line
returns-then-is_free-clause-grown c =
    rw (← c.is_free.ensures, c.if-is_free.true) (grew_nothing _ (search rules))

pub returns-clause-grown : goal.returns-clause-grown
unfolding block_line
returns-clause-grown c =
    rw (← c.is_free.ensures, c.if-is_free.false)
    (grew_then c.field.ensures.grown
    (grew_then c.field-2.ensures.grown
    (grew_then c.field-3.ensures.grown
    c.word.ensures.grown)))
