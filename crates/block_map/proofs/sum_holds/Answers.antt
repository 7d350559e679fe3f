-- The sum is that of the bytes up to the map's end, which is the layout's.
use Rattle.std.proofs.Common.{◌+◌, get_or, mul_comm}
use Rattle.block_map.specs.Items.{sum_holds}
use Rattle.block_map.proofs.sum_holds.Goals as goal

pub returns : goal.returns
unfolding sum_holds
returns c =
    let end = c.map_len-end in
    rw (
      c.crc16_ninty.ensures,
      c.from_le_bytes-stored.ensures,
      ← end.ensures.value,
      mul_comm (get_or c.args.zero.now (end.result + 1) 0) 256,
    )
