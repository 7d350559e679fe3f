-- A turn takes one of the steps that are left.
use Rattle.std.proofs.Common.{◌≡◌, ◌-◌, ◌+◌, suc, refl, arith}
use Rattle.crc16.specs.Crc.{byte_step}
use Rattle.crc16.proofs.byte_step.Goals as goal

pub loop-init : goal.loop-init
unfolding byte_step
loop-init c = rw c.from.ensures refl

pub loop-preserved : goal.loop-preserved
loop-preserved c =
    let l = c.loop in
    let e : 8 - l.counter ≡ suc (8 - (l.counter + 1)) = omega arith in
    rw c.bit_step-x.ensures (rw e at l.invariant)
