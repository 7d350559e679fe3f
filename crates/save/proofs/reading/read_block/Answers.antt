-- By the two arms of the test, where the part of the image that is copied is as long as the buffer.
use Rattle.std.proofs.Common.{◌+◌, ◌*◌, length, sym, ◌∙◌, arith}
use Rattle.chip.specs.Figures.{block_len}
use Rattle.save.proofs.ByBlocks.{copied_whole, free_part, held_part}
use Rattle.save.proofs.reading.read_block.Goals as goal

pub returns-then-is_free : goal.returns-then-is_free
returns-then-is_free c =
    let a = c.args in
    c.fill.ensures.after (λ y h. h)
    ∙ sym (free_part a.image.now a.b a.off (length a.part.now) (sym c.is_free.ensures ∙ c.if-is_free.true))

pub returns : goal.returns
returns c =
    let a = c.args in
    c.copy.ensures
    ∙ copied_whole a.part.now a.image.now (a.b.physical.0 * block_len + a.off) (omega arith)
    ∙ sym (held_part a.image.now a.b a.off (length a.part.now) (sym c.is_free.ensures ∙ c.if-is_free.false))
