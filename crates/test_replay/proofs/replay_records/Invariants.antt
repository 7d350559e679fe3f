-- Each record that was replayed agreed or differed.
use Rattle.std.proofs.Common.{◌≡◌, ◌+◌}
use Rattle.test_replay.proofs.replay_records.Given as goal

abbrev pub invariant-loop : goal.invariant-loop
invariant-loop g l = l.agree + l.differ ≡ l.counter
