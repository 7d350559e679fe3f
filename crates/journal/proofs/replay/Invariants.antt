-- The loop keeps that the whole journal is what the slots from k on make of n.
use Rattle.std.proofs.Common.{◌≡◌, ◌-◌}
use Rattle.chip.specs.Figures.{layout_of, slot_count}
use Rattle.journal.specs.Replay.{journal_of, journal_from}
use Rattle.journal.proofs.replay.Given as goal

abbrev pub invariant-loop-k : goal.invariant-loop-k
invariant-loop-k l =
    let t = layout_of l.kind in
    journal_of t l.fn.m l.zero ≡ journal_from t l.n l.zero l.k (slot_count t - l.k)
