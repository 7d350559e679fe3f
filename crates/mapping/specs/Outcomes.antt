-- How outcomes follow from one another: "the earliest open step decides" (01, "Numbers handed back"). Assumes nothing.
use Rattle.std.specs.Prelude.{◌≡◌, ℕ, false, eqb, Option, Some, None, Result, Ok, Err, IfErr}
use Rattle.lists.specs.Words.{pick}
use Rattle.answers.specs.declared.Answer.{Answer}
use Rattle.answers.specs.declared.Answer.TheVariants.{Accepted}
use Rattle.mapping.specs.declared.Mapping.{Mapping}
use Rattle.mapping.specs.declared.Outcome.{Outcome}
use Rattle.mapping.specs.Blocks.{blank}
use Rattle.answers.specs.Answers.{number_of}

-- an answer with its mapping
abbrev pub outcome : Answer → Mapping → Outcome
outcome a m = record { answer = a; mapping = m }

-- "open's refusal returns the blank mapping"
abbrev pub refused : Answer → Outcome
refused a = outcome a blank

-- what a step came to as an outcome: with the mapping that it found, or with the blank one
abbrev pub outcome_of : Result Mapping Answer → Outcome
outcome_of (Ok m) = outcome Accepted m
outcome_of (Err a) = refused a

-- an answer that is no 0
abbrev pub IsRefusal : Answer → Type 0
IsRefusal a = eqb (number_of a) 0 ≡ false

-- a step came to this outcome
abbrev pub ComesTo : Result Mapping Answer → Outcome → Type 0
ComesTo r o = (outcome_of r ≡ o) × IfErr r IsRefusal

-- an accepted outcome goes on to the next step, a refusal stays
abbrev pub and_then : Outcome → (Mapping → Outcome) → Outcome
and_then o next = pick (eqb (number_of o.answer) 0) (next o.mapping) o

-- a search that found something is a refusal, and otherwise the next step is taken
abbrev pub unless_found : Option ℕ → (ℕ → Answer) → Outcome → Outcome
unless_found (Some n) refusal next = refused (refusal n)
unless_found None refusal next = next
