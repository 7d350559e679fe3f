-- By what `reserved_free` and `virtual_blocks` ensure.
use Rattle.std.proofs.Common.{refl}
use Rattle.journal.specs.Steps.{step6}
use Rattle.journal.proofs.reserved_step.Goals as goal

pub returns-then-not-reserved_free : goal.returns-then-not-reserved_free
unfolding step6
returns-then-not-reserved_free c =
    (rw (← c.reserved_free.ensures, c.if-not-reserved_free.true, ← c.virtual_blocks.ensures.value), refl)
