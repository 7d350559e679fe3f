-- Reading (01, "Working on an open image" and "Numbers handed back"): which ranges of the save read and write take, and what
-- is in the buffer afterwards. Assumes nothing.
use Rattle.std.specs.Prelude.{List, ℕ, eqb, length, take, drop, Result, Ok, Err, ⊤}
use Rattle.lists.specs.Words.{pick}
use Rattle.answers.specs.declared.Answer.{Answer}
use Rattle.answers.specs.declared.Answer.TheVariants.{Accepted, DoesNotFit, OutOfRange}
use Rattle.mapping.specs.declared.Mapping.{Mapping}
use Rattle.mapping.specs.Blocks.{len_of}
use Rattle.mapping.specs.Fits.{fits}
use Rattle.answers.specs.Answers.{number_of}
use Rattle.mapping.specs.Limits.{in_save}
use Rattle.save.specs.Save.{save_bytes}

-- "read and write try 8 then 9": what they answer for k bytes from place on, on an image of n bytes
unfoldable pub admission : ℕ → Mapping → ℕ → ℕ → Answer
admission n m place k = pick (fits n m) (pick (in_save (len_of m) place k) Accepted OutOfRange) DoesNotFit

-- that answer as a result
abbrev pub admitted : Answer → Result ⊤ Answer
admitted a = pick (eqb (number_of a) 0) (Ok tt) (Err a)

-- done where the answer is 0, and else left as it was
abbrev pub if_accepted {ℓ} : {X : Type ℓ} → Answer → X → X → X
if_accepted a done left = pick (eqb (number_of a) 0) done left

-- "read gives the save's bytes": what is in the buffer afterwards
unfoldable pub read_into : List ℕ → Mapping → ℕ → List ℕ → List ℕ
read_into image m place buf =
    if_accepted (admission (length image) m place (length buf)) (take (length buf) (drop place (save_bytes image m))) buf
