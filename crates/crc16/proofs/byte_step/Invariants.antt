-- The steps that are left, from `x`, give the byte's step.
use Rattle.std.proofs.Common.{◌≡◌, ◌-◌}
use Rattle.crc16.specs.Crc.{bit_step, byte_step, times}
use Rattle.crc16.proofs.byte_step.Given as goal

abbrev pub invariant-loop : goal.invariant-loop
invariant-loop l = times (8 - l.counter) bit_step l.x ≡ byte_step l.s l.b
