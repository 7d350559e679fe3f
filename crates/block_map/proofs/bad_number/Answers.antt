-- A turn that goes on sets the flag of a number that is inside and new, so that the search goes on too.
use Rattle.std.proofs.Common.{◌<◌, not, refl, rules}
use Rattle.chip.specs.Figures.{records}
use Rattle.mapping.specs.Fits.{placed}
use Rattle.answers.proofs.Searches.{sought_more}
use Rattle.block_map.proofs.Maps.{good, flag_more}
use Rattle.block_map.proofs.bad_number.Goals as goal

pub loop-i-preserved : goal.loop-i-preserved
loop-i-preserved c =
    let m = c.args.m in
    let p = c.physical_blocks-p.result in
    let l = c.loop-i in
    let n = c.from-n in
    let h : n.result < records = search rules in (
      flag_more m l.i n.result l.seen n.ensures h l.invariant.0,
      sought_more (λ u. not (placed p m u)) c.virtual_blocks-v.result l.i _ l.invariant.1 c.loop-i-test.true
          (good m l.i n.result l.seen n.ensures h l.invariant.0 p c.if-n-lt1.false c.if-p-n.false c.if-seen-n.false) refl,
    )
