-- std's `copy_from_slice` stores the word over an equally long part of the buffer.
use Rattle.std.proofs.Common.{rules, arith}
use Rattle.listing.proofs.Growing.{written_copied, grew}
use Rattle.listing.proofs.Writer.word.Goals as goal

pub returns : goal.returns
returns c =
    let a = c.args in
    let w = written_copied a.self.now.out.now a.word.now _ a.self.now.at (omega arith) c.copy_from_slice.ensures.after in
    record { grown = grew (search rules) w }
