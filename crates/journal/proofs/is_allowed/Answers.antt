-- The definition's tests in its order, by what the called functions ensure.
use Rattle.journal.specs.Entries.{allowed}
use Rattle.journal.proofs.is_allowed.Goals as goal

pub returns : goal.returns
unfolding allowed
returns c =
    simp (
      c.eq.ensures,
      c.eq-2.ensures,
      c.is_free.ensures,
      c.count_before.ensures,
      c.physical_blocks-p.ensures.value,
      c.virtual_blocks-v.ensures.value,
    )
