-- Each of these ways out of a turn, and each way on, is a law of `Turns` at this turn, behind the invariant.
use Rattle.std.proofs.Common.{arith, rules, refl, sym, ◌∙◌}
use Rattle.chip.specs.Figures.{layout_of}
use Rattle.journal.proofs.Turns.{turn_torn, turn_ends, turn_large, turn_small}
use Rattle.journal.proofs.replay.Goals.{then-not-is_large, else-not-is_large}
use Rattle.journal.proofs.replay.Goals as goal

pub loop-k-preserved : goal.loop-k-preserved
loop-k-preserved c =
    let t = layout_of c.args.kind in
    let z = c.args.zero.now in
    let l = c.loop-k in
    let v = c.at-v.ensures.value in
    let w = c.at-w.ensures.value in
    let e = c.entry_of-e.ensures in
    let s = c.slots_of-slots.ensures in
    l.invariant ∙ elim c.if-not-is_large.branch [
      | then-not-is_large b ↦
          turn_small t l.n z l.k (search rules) (search rules) (search rules) (search rules) (search rules)
          ∙ rw (b.n-is, b.with_entry_tickets-n.ensures, v, w, ← s, ← e)
      | else-not-is_large b ↦
          turn_large t l.n z l.k (search rules) (search rules) (search rules) (search rules) (search rules)
          ∙ rw (b.n-is, v, w, ← s, ← e)
    ]

pub returns-then-not-copies_equal : goal.returns-then-not-copies_equal
returns-then-not-copies_equal c =
    let l = c.loop-k in (
      sym (l.invariant ∙ turn_torn (layout_of c.args.kind) l.n c.args.zero.now l.k (search rules) (search rules)),
      refl,
    )

pub returns-then-slot : goal.returns-then-slot
returns-then-slot c =
    let l = c.loop-k in (
      sym
          (l.invariant
          ∙ turn_ends (layout_of c.args.kind) l.n c.args.zero.now l.k (search rules) (search rules)
          (rw (← c.slots_of-slots.ensures) (omega arith))),
      tt,
    )
