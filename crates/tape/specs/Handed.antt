-- An answer as 01, "Numbers handed back", has it: a number and a place. Assumes nothing.
use Rattle.std.specs.Prelude.{◌≡◌, ℕ}
use Rattle.answers.specs.declared.Answer.{Answer}
use Rattle.answers.specs.Answers.{number_of, answer_place}
use Rattle.mapping.specs.declared.Outcome.{Outcome}
use Rattle.mapping.specs.Blocks.{blank}

-- the answer has this number and this place; "0 carries place 0"
pub record Gives (a : Answer) (number place : ℕ) : Type 0 where
  pub number_is : number_of a ≡ number
  pub place_is : answer_place a ≡ place

-- "open's refusal returns the blank mapping"
pub record Refusal (o : Outcome) (number place : ℕ) : Type 0 where
  pub gives : Gives o.answer number place
  pub mapping_is : o.mapping ≡ blank
