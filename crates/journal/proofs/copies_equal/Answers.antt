-- What `==` ensures of two slices is the law `twins_equal`.
use Rattle.std.proofs.Common.{arith, ◌∙◌}
use Rattle.journal.proofs.Copies.{twins_equal}
use Rattle.journal.proofs.copies_equal.Goals as goal

pub returns : goal.returns
returns c = c.eq.ensures ∙ twins_equal c.args.slot.now (omega arith)
