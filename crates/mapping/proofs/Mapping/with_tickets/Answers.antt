-- `Mapping::with_tickets` meets its contract: the part that was lent comes back as t, so the tickets are a splice.
use Rattle.std.proofs.Common.{◌≡◌, ap, length, rules}
use Rattle.lists.proofs.Splice.{part_back}
use Rattle.mapping.specs.Blocks.{mapping_of, with_tickets}
use Rattle.mapping.proofs.Mapping.with_tickets.Goals as goal

pub returns : goal.returns
unfolding with_tickets
returns c =
    let n : length c.args.t ≡ 8 = search rules in
    rw (← c.at-at.ensures.value, c.copy_from_slice.ensures.after) (ap (mapping_of _ _) (part_back _ _ 8 _ n))
