-- Only the accepted answer has number 0: by the table. Assumes nothing.
use mathlib.Core.Path.{◌≡◌, refl}
use native.Mathlib.Omega.{arith}
use Rattle.answers.specs.declared.Answer.{Answer}
use Rattle.answers.specs.declared.Answer.TheVariants.{Accepted, WrongLength, WrongMapSum, BadNumber, CopiesDiffer, BadEntry, ReservedInUse, WrongTicket, DoesNotFit, OutOfRange, CountTooHigh}
use Rattle.answers.specs.Answers.{number_of}

pub zero_accepted : (a : Answer) → number_of a ≡ 0 → a ≡ Accepted
zero_accepted Accepted e = refl
zero_accepted WrongLength e = absurd (omega arith)
zero_accepted WrongMapSum e = absurd (omega arith)
zero_accepted (BadNumber n) e = absurd (omega arith)
zero_accepted (CopiesDiffer n) e = absurd (omega arith)
zero_accepted (BadEntry n) e = absurd (omega arith)
zero_accepted (ReservedInUse n) e = absurd (omega arith)
zero_accepted (WrongTicket n) e = absurd (omega arith)
zero_accepted DoesNotFit e = absurd (omega arith)
zero_accepted OutOfRange e = absurd (omega arith)
zero_accepted (CountTooHigh n) e = absurd (omega arith)
