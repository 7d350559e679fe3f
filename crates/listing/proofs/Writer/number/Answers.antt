-- The kit's digits are the fewest that hold the number.
use Rattle.std.proofs.Common.{arith}
use Rattle.listing.proofs.Growing.{grew_as, number_text}
use Rattle.listing.proofs.Writer.number.Goals as goal

pub returns-clause-grown : goal.returns-clause-grown
returns-clause-grown c =
    let d = c.decimal-k in
    let e = number_text _ d.result c.args.n (omega arith) d.ensures.len d.ensures.digits in
    grew_as e c.word.ensures.grown
