-- The two bytes behind the map were lent, and came back as those of the sum.
use Rattle.std.proofs.Common.{◌≡◌, refl, ◌∙◌, arith}
use Rattle.lists.proofs.Splice.{part_back}
use Rattle.block_zero.specs.Put.{low_first, with_sum}
use Rattle.block_zero.proofs.Puts.{two_bytes}
use Rattle.block_zero.proofs.put_sum.Goals as goal

pub returns : goal.returns
unfolding with_sum
returns c =
    let end = c.map_len-end in
    let sum = c.crc16_ninty-sum in
    let bytes : c.to_le_bytes.result ≡ low_first sum.result = c.to_le_bytes.ensures ∙ two_bytes sum.result (omega arith) in
    rw (c.copy_from_slice.ensures.after, bytes, sum.ensures, ← end.ensures.value)
    (part_back c.args.image.now end.result 2 _ refl)
