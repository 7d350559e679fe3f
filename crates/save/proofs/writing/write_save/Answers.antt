-- An accepted write ends before the image does, so that each turn finds its block; going on from the sector reached, the last
-- turn comes to the end of the write.
use Rattle.std.proofs.Common.{◌≡◌, ◌/◌, length, arith}
use Rattle.chip.specs.Figures.{sectors}
use Rattle.mapping.specs.Blocks.{with_block, block_at}
use Rattle.save.specs.Visits.{state}
use Rattle.save.proofs.Parts.{opened_can, going_store, going_number, going_parts}
use Rattle.save.proofs.Visits.{can_short, going_none, going_can, going_all}
use Rattle.save.proofs.writing.write_save.Goals as goal

pub end_sector-end-requires : goal.end_sector-end-requires
end_sector-end-requires c =
    let a = c.args in
    let h = can_short a.image.now a.m a.place (length a.bytes.now) c.requires in
    omega arith

pub loop-s-init : goal.loop-s-init
loop-s-init c =
    let a = c.args in
    (c.end_sector-end.ensures, rw c.first_sector-s.ensures (going_none a.place a.bytes.now (state a.image.now a.m)))

-- a sector that is visited lies in the save
pub block_of-requires : goal.block_of-requires
block_of-requires c =
    let a = c.args in
    let h = can_short a.image.now a.m a.place (length a.bytes.now) c.requires in
    omega arith

pub overflow_mul-s : goal.overflow_mul-s
overflow_mul-s c =
    let a = c.args in
    let h = can_short a.image.now a.m a.place (length a.bytes.now) c.requires in
    omega arith

pub visit_block-requires : goal.visit_block-requires
visit_block-requires c =
    let l = c.loop-s in
    let a = c.args in
    let e : c.at-v.result ≡ l.s / sectors = omega (arith, c.at-v.ensures.value, c.block_of.ensures) in
    rw e
    (going_can a.place a.bytes.now (state a.image.now a.m) (state l.image l.t) l.s c.requires l.invariant.1
    (rw l.invariant.0 at c.loop-s-test.true)).within

pub store-requires : goal.store-requires
store-requires c =
    let l = c.loop-s in
    let a = c.args in
    let end = l.invariant.0 in
    let e : c.at-v.result ≡ l.s / sectors = omega (arith, c.at-v.ensures.value, c.block_of.ensures) in
    rw (c.visit_block.ensures.image_after, e)
    (opened_can (block_at l.t (l.s / sectors)) l.image a.place (length a.bytes.now) l.s _
    (going_store a.place a.bytes.now (state a.image.now a.m) (state l.image l.t) l.s c.requires _ l.invariant.1
    (rw end at c.loop-s-test.true) (rw (e, end) at c.min-stop.ensures)))

pub loop-s-preserved : goal.loop-s-preserved
unfolding with_block
loop-s-preserved c =
    let visited = c.visit_block in
    let l = c.loop-s in
    let a = c.args in
    let end = l.invariant.0 in
    let more = rw end at c.loop-s-test.true in
    let st = state a.image.now a.m in
    let st2 = state l.image l.t in
    let e : c.at-v.result ≡ l.s / sectors = omega (arith, c.at-v.ensures.value, c.block_of.ensures) in (
      end,
      rw e
          (going_parts a.place a.bytes.now st l.image l.t l.s _ c.store.new.image visited.result l.invariant.1
          (going_number a.place a.bytes.now st st2 l.s c.requires l.invariant.1 more)
          (going_store a.place a.bytes.now st st2 l.s c.requires _ l.invariant.1 more (rw (e, end) at c.min-stop.ensures))
          (rw e at visited.ensures.value) (rw (visited.ensures.image_after, e) at c.store.ensures)),
    )

pub returns : goal.returns
returns c =
    let l = c.loop-s in
    let a = c.args in
    going_all a.place a.bytes.now (state a.image.now a.m) (state l.image l.t) l.s l.invariant.1 (omega arith)
