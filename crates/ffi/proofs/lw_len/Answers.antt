-- By the chip that `from_len` finds.
use Rattle.std.proofs.Common.{rules}
use Rattle.crossing.specs.Crossing.{len_c}
use Rattle.ffi.proofs.lw_len.Goals as goal

pub returns : goal.returns
unfolding len_c
returns c = rw (← c.from_len.ensures) (search rules)
