-- Runs of calls on an open image (demand 3): reads, writes and commits with any arguments, refused ones included, each with
-- the latest mapping; and beside them a plain tape that takes the accepted writes. What each call does is said by the very
-- definitions that the contracts of `wear_leveling` name. Assumes nothing.
use Rattle.std.specs.Prelude.{List, [], ◌∷◌, ℕ, length}
use Rattle.lists.specs.Words.{splice}
use Rattle.answers.specs.declared.Answer.{Answer}
use Rattle.save.specs.Visits.{State}
use Rattle.wear_leveling.specs.Read.{admission, if_accepted}
use Rattle.wear_leveling.specs.Write.{after_write}
use Rattle.wear_leveling.specs.Commit.{commit_answer, after_commit}

-- a call: a read of as many bytes as a buffer has, from a place on; a write of some bytes; a commit
pub data Call : Type 0 where
  read : ℕ → List ℕ → Call
  write : ℕ → List ℕ → Call
  commit : Call

-- what it answers on an image with the latest mapping
abbrev pub answer_of : Call → State → Answer
answer_of (read place buf) st = admission (length st.image) st.mapping place (length buf)
answer_of (write place d) st = admission (length st.image) st.mapping place (length d)
answer_of commit st = commit_answer (length st.image) st.mapping

-- image and mapping after it; a read leaves both as they are
abbrev pub after : Call → State → State
after (read place buf) st = st
after (write place d) st = after_write st.image st.mapping place d
after commit st = after_commit st.image st.mapping

-- the tape after it: "took the accepted writes"
abbrev pub on_tape : Call → State → List ℕ → List ℕ
on_tape (read place buf) st t = t
on_tape (write place d) st t = if_accepted (answer_of (write place d) st) (splice t place d) t
on_tape commit st t = t

-- the same after any number of calls
unfoldable pub after_all : List Call → State → State
after_all [] st = st
after_all (c ∷ cs) st = after_all cs (after c st)

unfoldable pub tape_after : List Call → State → List ℕ → List ℕ
tape_after [] st t = t
tape_after (c ∷ cs) st t = tape_after cs (after c st) (on_tape c st t)
