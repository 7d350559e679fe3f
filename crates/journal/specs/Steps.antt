-- Steps 1 to 6 of opening (01), which need no more than block zero and the image's length. `open` and the lister share
-- them. "The earliest open step decides." Assumes nothing.
use Rattle.std.specs.Prelude.{List, ℕ}
use Rattle.lists.specs.Words.{pick}
use Rattle.chip.specs.Figures.{Layout, layout_of, reserved, from_len, by_chip}
use Rattle.answers.specs.declared.Answer.TheVariants.{Accepted, WrongLength, WrongMapSum, BadNumber, ReservedInUse}
use Rattle.mapping.specs.declared.Mapping.{Mapping}
use Rattle.mapping.specs.declared.Outcome.{Outcome}
use Rattle.mapping.specs.Fits.{reserved_free}
use Rattle.mapping.specs.Outcomes.{outcome, refused, and_then, unless_found}
use Rattle.block_map.specs.Items.{loaded, sum_holds, bad_number}
use Rattle.journal.specs.Replay.{journal_of}

-- 6: "after the journal, the reserved block is free"; place "V − 1"
unfoldable pub step6 : Layout → Mapping → Outcome
step6 l m = pick (reserved_free l m) (outcome Accepted m) (refused (ReservedInUse (reserved l)))

-- 4 and 5, then 6
abbrev pub steps4to6 : Layout → List ℕ → Mapping → Outcome
steps4to6 l z m = and_then (journal_of l m z) (step6 l)

-- 3, then 4 to 6
abbrev pub steps3to6 : Layout → List ℕ → Mapping → Outcome
steps3to6 l z m = unless_found (bad_number l m) BadNumber (steps4to6 l z m)

-- 2, then 3 to 6 on the mapping that the map holds
unfoldable pub steps2to6 : Layout → List ℕ → Outcome
steps2to6 l z = pick (sum_holds l z) (steps3to6 l z (loaded l z)) (refused WrongMapSum)

-- 1, then 2 to 6: of an image of n bytes that begins with block zero z
unfoldable pub steps1to6 : List ℕ → ℕ → Outcome
steps1to6 z n = by_chip (from_len n) (λ k. steps2to6 (layout_of k) z) (refused WrongLength)
