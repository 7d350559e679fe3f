-- Its four pieces follow one another.
use Rattle.listing.specs.Lines.{first_lines}
use Rattle.listing.proofs.Growing.{grew_then}
use Rattle.listing.proofs.Writer.first_lines.Goals as goal

pub returns-clause-grown : goal.returns-clause-grown
unfolding first_lines
returns-clause-grown c =
    rw (← c.number.ensures, ← c.place.ensures)
    (grew_then c.field.ensures.grown
    (grew_then c.field-2.ensures.grown
    (grew_then c.field-3.ensures.grown
    c.word.ensures.grown)))
