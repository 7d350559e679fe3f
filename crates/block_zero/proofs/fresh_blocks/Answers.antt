-- A turn numbers one blank record more.
use Rattle.std.proofs.Common.{ℕ, ◌+◌, refl, arith}
use Rattle.lists.proofs.Tabulate.{fill_more, front_next}
use Rattle.chip.specs.Figures.{records}
use Rattle.mapping.specs.declared.Block.{Block}
use Rattle.mapping.specs.declared.Condition.TheVariants.{Free}
use Rattle.mapping.specs.Blocks.{block_of, no_block}
use Rattle.block_zero.proofs.fresh_blocks.Goals as goal

pub loop-i-preserved : goal.loop-i-preserved
loop-i-preserved c =
    let l = c.loop-i in
    let f : ℕ → Block = λ k. block_of (k + 1) 0 Free in
    rw (l.invariant, front_next f (λ k. no_block) records no_block l.i (omega arith))
    (fill_more f records no_block (f l.i) l.i (omega arith) refl)
