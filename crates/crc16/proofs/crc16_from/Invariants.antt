-- Going on from `s` over what is left gives the whole's sum.
use Rattle.std.proofs.Common.{◌≡◌, drop}
use Rattle.crc16.specs.Crc.{crc_from}
use Rattle.crc16.proofs.crc16_from.Given as goal

abbrev pub invariant-loop-b : goal.invariant-loop-b
invariant-loop-b l = crc_from l.s (drop l.b-index l.«data») ≡ crc_from l.start l.«data»
