-- `Mapping::in_use_on` meets its contract: the chain counts the first V blocks that are in use.
use Rattle.std.proofs.Common.{rules}
use Rattle.mapping.proofs.Walks.{many_used}
use Rattle.mapping.proofs.Mapping.in_use_on.Goals as goal

pub returns : goal.returns
returns c =
    let v = c.virtual_blocks-v in
    rw (← v.ensures.value) (many_used c.args.self v.result c.count.result (search rules) (search rules))
