-- The answers, from the table of 01, "Numbers handed back": number and place of each. Assumes nothing.
use Rattle.std.specs.Prelude.{ℕ}
use Rattle.answers.specs.declared.Answer.{Answer}
use Rattle.answers.specs.declared.Answer.TheVariants.{Accepted, WrongLength, WrongMapSum, BadNumber, CopiesDiffer, BadEntry, ReservedInUse, WrongTicket, DoesNotFit, OutOfRange, CountTooHigh}

-- the column "no."
abbrev pub number_of : Answer → ℕ
number_of Accepted = 0
number_of WrongLength = 1
number_of WrongMapSum = 2
number_of (BadNumber block) = 3
number_of (CopiesDiffer slot) = 4
number_of (BadEntry slot) = 5
number_of (ReservedInUse block) = 6
number_of (WrongTicket sector) = 7
number_of DoesNotFit = 8
number_of OutOfRange = 9
number_of (CountTooHigh block) = 10

-- the column "place"; "0 carries place 0"
abbrev pub answer_place : Answer → ℕ
answer_place Accepted = 0
answer_place WrongLength = 0
answer_place WrongMapSum = 0
answer_place (BadNumber block) = block
answer_place (CopiesDiffer slot) = slot
answer_place (BadEntry slot) = slot
answer_place (ReservedInUse block) = block
answer_place (WrongTicket sector) = sector
answer_place DoesNotFit = 0
answer_place OutOfRange = 0
answer_place (CountTooHigh block) = block
