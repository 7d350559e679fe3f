-- When the loop ends, each record of the part is cleaned.
use Rattle.std.proofs.Common.{arith, rules}
use Rattle.committing.proofs.Renewed.{records_settled}
use Rattle.committing.proofs.clean_blocks.Goals as goal

pub returns : goal.returns
returns c =
    records_settled _ _ _ _ _ (search rules) (omega arith) (omega arith) (omega arith) (omega arith) c.loop-b.invariant.0
