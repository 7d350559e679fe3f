-- A word, and behind it a number.
use Rattle.listing.proofs.Growing.{grew_then}
use Rattle.listing.proofs.Writer.field.Goals as goal

pub returns-clause-grown : goal.returns-clause-grown
returns-clause-grown c = grew_then c.word.ensures.grown c.number.ensures.grown
