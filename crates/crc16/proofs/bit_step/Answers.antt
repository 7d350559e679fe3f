-- Each branch has the test that `bit_step` of the definitions makes.
use borrow.Author.Tests.{eq-eqb, ne_eqb}
use Rattle.crc16.specs.Crc.{bit_step}
use Rattle.crc16.proofs.bit_step.Goals as goal

pub returns-then-s-eq1 : goal.returns-then-s-eq1
unfolding bit_step
returns-then-s-eq1 c = simp (eq-eqb _ _ c.if-s-eq1.true)

pub returns-else-s-eq1 : goal.returns-else-s-eq1
unfolding bit_step
returns-else-s-eq1 c = simp (ne_eqb _ _ c.if-s-eq1.false)
