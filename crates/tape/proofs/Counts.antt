-- Counts in a run: a write raises none beyond 1 and a commit none at all, so where an opened image has no count above 127 no
-- commit of the run is refused. Assumes nothing.
use mathlib.Core.Path.{◌≡◌, ap, ◌∙◌}
use mathlib.Core.List.{List, [], ◌∷◌}
use Prim.Native.Nat.{ℕ, ◌≤◌}
use native.Mathlib.Decide.{ℕ_discrete}
use native.Mathlib.Omega.{arith}
use lib.ListN.{length}
use Rattle.chip.specs.declared.Chip.{Chip}
use Rattle.chip.specs.Figures.{layout_of, virtuals, records}
use Rattle.chip.proofs.Layouts.{sound}
use Rattle.answers.specs.declared.Answer.TheVariants.{Accepted}
use Rattle.answers.specs.Answers.{number_of}
use Rattle.answers.proofs.Numbers.{zero_accepted}
use Rattle.mapping.specs.declared.Block.{Block}
use Rattle.mapping.specs.declared.Mapping.{Mapping}
use Rattle.mapping.specs.Blocks.{count_at}
use Rattle.save.specs.Visits.{State, state}
use Rattle.wear_leveling.specs.Read.{admission}
use Rattle.wear_leveling.specs.Write.{after_write}
use Rattle.wear_leveling.specs.Commit.{commit_answer, after_commit}
use Rattle.wear_leveling.proofs.Commits.{committed_block, commit_mapping}
use Rattle.tape.specs.Run.{Call, read, write, commit, answer_of, after, on_tape, after_all}
use Rattle.tape.specs.Demand.{LowCounts}
use Rattle.tape.specs.Good.{Good}
use Rattle.tape.proofs.Granted.{write_is, write_refused}
use Rattle.tape.proofs.Writes.{write_count}
use Rattle.tape.proofs.OnCommit.{commit_refused}
use Rattle.tape.proofs.Refuses.{commit_refuses}
use Rattle.tape.proofs.Demand.{call_good}

module _ (k : Chip) (image : List ℕ) (m : Mapping) (t : List ℕ) (g : Good k (state image m) t) (low : LowCounts k m) where
  write_low : (place : ℕ) (d : List ℕ) → LowCounts k (after_write image m place d).mapping
  write_low place d = go (ℕ_discrete (number_of (admission (length image) m place (length d))) 0)
    where
      go : Dec (number_of (admission (length image) m place (length d)) ≡ 0) → LowCounts k (after_write image m place d).mapping
      go (yes e) v h =
          let ok : admission (length image) m place (length d) ≡ Accepted = zero_accepted (admission (length image) m place (length d)) e in
          rw (write_is image m place d ok) (write_count image m place d k g.known ok v 127 (omega arith) (low v h))
      go (no ne) v h = rw (write_refused image m place d (λ q. ne (ap number_of q))) (low v h)

  commit_low : LowCounts k (after_commit image m).mapping
  commit_low = go (ℕ_discrete (number_of (commit_answer (length image) m)) 0)
    where
      few : virtuals (layout_of k) ≤ records
      few = omega (arith, (sound k).few)

      go : Dec (number_of (commit_answer (length image) m) ≡ 0) → LowCounts k (after_commit image m).mapping
      go (yes e) v h =
          let ok : commit_answer (length image) m ≡ Accepted = zero_accepted (commit_answer (length image) m) e in
          let same : count_at (after_commit image m).mapping v ≡ count_at m v =
          ap (λ (n : Mapping). count_at n v) (commit_mapping image m k g.known ok)
          ∙ ap (λ (b : Block). b.count) (committed_block (layout_of k) image m few v h) in
          omega (arith, low v h)
      go (no ne) v h = rw (commit_refused image m ne) (low v h)

-- one call, accepted or refused
call_low : (k : Chip) (c : Call) (st : State) (t : List ℕ) → Good k st t → LowCounts k st.mapping → LowCounts k (after c st).mapping
call_low k (read place buf) st t g low = low
call_low k (write place d) st t g low = write_low k st.image st.mapping t g low place d
call_low k commit st t g low = commit_low k st.image st.mapping t g low

-- any number of them, and then a commit
pub low_commits
    : (k : Chip) (cs : List Call) (st : State) (t : List ℕ) → Good k st t → LowCounts k st.mapping
    → answer_of commit (after_all cs st) ≡ Accepted
unfolding after_all
low_commits k [] st t g low = (commit_refuses st.mapping (length st.image) k g.known g.fitting).low_counts low
low_commits k (c ∷ cs) st t g low =
    low_commits k cs (after c st) (on_tape c st t) (call_good k c st t g) (call_low k c st t g low)
