-- A turn reads part of a block, which lies behind what has been read; at the end that is the whole buffer.
use Rattle.std.proofs.Common.{◌≡◌, ◌/◌, length, sym, ◌∙◌, arith}
use Rattle.lists.proofs.Splice.{splice-nil}
use Rattle.chip.specs.Figures.{block_len}
use Rattle.save.proofs.ByBlocks.{read_before, read_turn_of_block, read_all}
use Rattle.save.proofs.reading.read_save.Goals as goal

pub loop-v-init : goal.loop-v-init
loop-v-init c =
    let a = c.args in
    let e : read_before a.place (length a.buf.now) (a.place / block_len) ≡ 0 = omega arith in
    rw e (sym (splice-nil a.buf.now 0 (omega arith)))

pub loop-v-preserved : goal.loop-v-preserved
loop-v-preserved c =
    let l = c.loop-v in
    let a = c.args in
    let part = c.read_block in
    read_turn_of_block a.image.now _ a.place l.v a.buf.now l.buf c.requires (omega arith) (omega arith) c.max-from.result c.min-to.result
    c.max-from.ensures c.min-to.ensures l.auto.buf part.new.part l.invariant part.ensures

pub returns : goal.returns
returns c =
    let l = c.loop-v in
    let a = c.args in
    l.invariant ∙ read_all a.image.now _ a.place (read_before a.place (length a.buf.now) l.v) a.buf.now (omega arith) c.requires.lies_in_save
