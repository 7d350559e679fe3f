-- The map is cleared, and the mapping that is put over it is the fresh one.
use Rattle.std.proofs.Common.{◌∙◌, arith}
use Rattle.block_zero.specs.Put.{fresh, formatted}
use Rattle.block_zero.proofs.Puts.{front_zeroed}
use Rattle.block_zero.proofs.format_zero.Goals as goal

pub returns : goal.returns
unfolding fresh formatted
returns c =
    let end = c.map_len-end in
    let z = c.args.image.now in
    c.put_map.ensures
    ∙ rw (
      front_zeroed z c.fill.new.self end.result (omega arith) (c.fill.ensures.after (λ y q. q)),
      c.new-m.ensures,
      c.image_len.ensures,
      c.fresh_blocks-blocks.ensures,
      end.ensures.value,
    )
