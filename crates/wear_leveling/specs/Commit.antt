-- Committing (01, "Working on an open image" and "Numbers handed back"): what it answers, and image and mapping afterwards.
-- The mapping that it makes is in committing/Committed. Assumes nothing.
use Rattle.std.specs.Prelude.{List, ℕ, length, Option, Some, None}
use Rattle.lists.specs.Words.{pick}
use Rattle.chip.specs.Figures.{Layout, layout_of, from_len, by_chip}
use Rattle.answers.specs.declared.Answer.{Answer}
use Rattle.answers.specs.declared.Answer.TheVariants.{Accepted, DoesNotFit, CountTooHigh}
use Rattle.mapping.specs.declared.Mapping.{Mapping}
use Rattle.mapping.specs.Fits.{fits}
use Rattle.mapping.specs.Limits.{high_count}
use Rattle.block_zero.specs.Put.{put_map}
use Rattle.committing.specs.Committed.{committed}
use Rattle.save.specs.Visits.{State}
use Rattle.wear_leveling.specs.Read.{if_accepted}

-- 10 at the block that the search found
abbrev pub unless_high : Option ℕ → Answer
unless_high (Some v) = CountTooHigh v
unless_high None = Accepted

-- "commit 8 then 10"
unfoldable pub commit_answer : ℕ → Mapping → Answer
commit_answer n m = pick (fits n m) (unless_high (high_count m)) DoesNotFit

-- block zero from the new mapping; "data blocks aren't stored to"
unfoldable pub committed_on : Layout → List ℕ → Mapping → State
committed_on l image m = record { image = put_map l (committed l image m) image; mapping = committed l image m }

-- image and mapping after a commit, refused or not
unfoldable pub after_commit : List ℕ → Mapping → State
after_commit image m =
    if_accepted (commit_answer (length image) m)
    (by_chip (from_len (length image)) (λ k. committed_on (layout_of k) image m) (record { image = image; mapping = m }))
    (record { image = image; mapping = m })
