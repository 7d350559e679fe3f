-- By what the three parts ensure, the last of which fills the part that it was lent.
use Rattle.std.proofs.Common.{ℕ, ◌∙◌, arith}
use Rattle.lists.proofs.Stores.{part_filled}
use Rattle.chip.specs.Figures.{block_len, erased}
use Rattle.block_zero.specs.Put.{with_journal, put_map}
use Rattle.block_zero.proofs.put_map.Goals as goal

pub returns : goal.returns
unfolding with_journal put_map
returns c =
    let from = c.journal_start-start in
    let sum = c.put_sum in
    let items = c.put_items in
    part_filled {A = ℕ} sum.new.image from.result block_len erased c.fill.new.self (omega arith) (omega (arith, sum.auto.image, items.auto.image)) (c.fill.ensures.after (λ y q. q))
    ∙ rw (sum.ensures, items.ensures, from.ensures.value)
