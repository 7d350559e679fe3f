-- An answer that is known gives its number and its place, and so does a refused outcome. Assumes nothing.
use mathlib.Core.Path.{◌≡◌, ap}
use Rattle.answers.specs.declared.Answer.{Answer}
use Rattle.answers.specs.Answers.{number_of, answer_place}
use Rattle.mapping.specs.declared.Outcome.{Outcome}
use Rattle.mapping.specs.Outcomes.{refused}
use Rattle.tape.specs.Handed.{Gives, Refusal}

pub given : {a b : Answer} → a ≡ b → Gives a (number_of b) (answer_place b)
given e = record { number_is = ap number_of e; place_is = ap answer_place e }

pub refusal : {o : Outcome} {a : Answer} → o ≡ refused a → Refusal o (number_of a) (answer_place a)
refusal e = record { gives = given (ap (λ (x : Outcome). x.answer) e); mapping_is = ap (λ (x : Outcome). x.mapping) e }
