-- Demand 3. What an accepted open gives is in good order (Start); each call keeps that (OnWrite, OnCommit; a read changes
-- nothing); so every point of every run has it, and from it follow the sentences of the demand one by one.
-- Assumes nothing.
use mathlib.Core.Path.{◌≡◌, ap}
use mathlib.Core.List.{List, [], ◌∷◌}
use Prim.Native.Nat.{ℕ}
use borrow.Author.Tests.{eq-eqb}
use lib.ListN.{length, take, drop}
use Rattle.chip.specs.declared.Chip.{Chip}
use Rattle.answers.specs.declared.Answer.TheVariants.{Accepted}
use Rattle.mapping.specs.declared.Mapping.{Mapping}
use Rattle.answers.specs.Answers.{number_of}
use Rattle.mapping.specs.Outcomes.{outcome}
use Rattle.save.specs.Save.{save_bytes}
use Rattle.save.specs.Visits.{State, state}
use Rattle.wear_leveling.specs.Open.{open_of}
use Rattle.wear_leveling.specs.Read.{admission, read_into}
use Rattle.tape.specs.Run.{Call, read, write, commit, after, on_tape, after_all, tape_after}
use Rattle.tape.specs.Demand.{Kept}
use Rattle.tape.specs.Good.{Good}
use Rattle.tape.proofs.OnWrite.{write_good}
use Rattle.tape.proofs.OnCommit.{accepted_good, accepted_opens, accepted_journal, commit_good}
use Rattle.tape.proofs.Refuses.{commit_refuses}
use Rattle.tape.proofs.Start.{chip, start_good}

-- one call, accepted or refused
pub call_good : (k : Chip) (c : Call) (st : State) (t : List ℕ) → Good k st t → Good k (after c st) (on_tape c st t)
call_good k (read place buf) st t g = g
call_good k (write place d) st t g = write_good k st.image st.mapping t g place d
call_good k commit st t g = commit_good k st.image st.mapping t g

-- any number of them
pub run_good : (k : Chip) (cs : List Call) (st : State) (t : List ℕ) → Good k st t → Good k (after_all cs st) (tape_after cs st t)
unfolding after_all tape_after
run_good k [] st t g = g
run_good k (c ∷ cs) st t g = run_good k cs (after c st) (on_tape c st t) (call_good k c st t g)

-- an accepted read gives the save's bytes
pub read_tape
    : (image : List ℕ) (m : Mapping) (t : List ℕ) (place : ℕ) (buf : List ℕ)
    → admission (length image) m place (length buf) ≡ Accepted
    → save_bytes image m ≡ t
    → read_into image m place buf ≡ take (length buf) (drop place t)
unfolding read_into
read_tape image m t place buf e h =
    rw (eq-eqb (number_of (admission (length image) m place (length buf))) 0 (ap number_of e), h)

-- what the demand says of a point in good order
good_kept : (k : Chip) (st : State) (t : List ℕ) → Good k st t → Kept k st t
good_kept k st t g =
    record {
      chip = g.known;
      fitting = g.fitting;
      reads = reads;
      commits = λ e.
          record {
            opens = accepted_opens k st.image st.mapping t g e;
            journal = accepted_journal k st.image st.mapping t g e;
            holds = (accepted_good k st.image st.mapping t g e).holds;
          };
      refuses = commit_refuses st.mapping (length st.image) k g.known g.fitting;
      quiet = g.quiet;
    }
  where
    reads
        : (place : ℕ) (buf : List ℕ) → admission (length st.image) st.mapping place (length buf) ≡ Accepted
        → read_into st.image st.mapping place buf ≡ take (length buf) (drop place t)
    reads place buf e = read_tape st.image st.mapping t place buf e g.holds

-- Take an accepted open, then any calls, refused ones included, each with the latest mapping: at every point all of it holds.
pub demand_3
    : (image : List ℕ) (m : Mapping) (accepted : open_of image ≡ outcome Accepted m) (cs : List Call)
    → Kept (chip image m accepted) (after_all cs (state image m)) (tape_after cs (state image m) (save_bytes image m))
demand_3 image m accepted cs =
    good_kept (chip image m accepted) (after_all cs (state image m)) (tape_after cs (state image m) (save_bytes image m))
    (run_good (chip image m accepted) cs (state image m) (save_bytes image m) (start_good image m accepted))
