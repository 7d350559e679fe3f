-- A turn takes the byte at b's index, as the laws of `Sums` say.
use Rattle.std.proofs.Common.{◌≤◌, length, sym, ◌∙◌, arith, rules}
use Rattle.crc16.proofs.Sums.{from_at, from_end}
use Rattle.crc16.proofs.crc16_from.Goals as goal

pub loop-b-preserved : goal.loop-b-preserved
loop-b-preserved c =
    let l = c.loop-b in
    rw c.byte_step-s.ensures (sym (from_at l.s _ l.b-index (search rules)) ∙ l.invariant)

pub returns : goal.returns
returns c =
    let l = c.loop-b in
    let h : length c.args.«data».now ≤ l.b-index = omega arith in
    sym (from_end l.s _ _ h) ∙ l.invariant
