-- What steps 1 to 6 accept lies in the image: its physical numbers are below P, and the image has P blocks. Assumes nothing.
use Rattle.std.specs.Prelude.{Some}
use mathlib.Core.Path.{◌≡◌, sym, ◌∙◌}
use mathlib.Core.List.{List}
use Prim.Native.Nat.{ℕ, ◌≤◌}
use lib.ListN.{length, take}
use lib.Seq.{length-take-le}
use Rattle.chip.specs.declared.Chip.{Chip}
use Rattle.chip.specs.Figures.{layout_of, block_len, from_len}
use Rattle.answers.specs.declared.Answer.TheVariants.{Accepted}
use Rattle.mapping.specs.declared.Mapping.{Mapping}
use Rattle.mapping.specs.declared.Outcome.{Outcome}
use Rattle.answers.specs.Answers.{number_of}
use Rattle.mapping.specs.Outcomes.{outcome}
use Rattle.answers.proofs.Numbers.{zero_accepted}
use Rattle.journal.specs.Steps.{steps1to6}
use Rattle.journal.specs.Opened.{OpenedAs}
use Rattle.journal.proofs.Accepted.{accepted_as}
use Rattle.tickets.specs.Tickets.{Lies, LiesIn}
use Rattle.tickets.proofs.Fitting.{apart_lies}

-- the mapping that steps 1 to 6 find in an image's block zero
pub found_lies
    : (image : List ℕ) (m : Mapping)
    → block_len ≤ length image
    → outcome Accepted m ≡ steps1to6 (take block_len image) (length image)
    → LiesIn m image
found_lies image m h e = record { lies = lies }
  where
    found : OpenedAs (length image) m
    found = accepted_as (take block_len image) (length image) (length-take-le block_len image h) m (sym e)

    lies : (k : Chip) → from_len (length image) ≡ Some k → Lies (layout_of k) m image
    lies k q =
        let d : Some k ≡ Some found.chip = sym q ∙ found.known in
        let c : found.chip ≡ k = cc in
        rw (← c) (apart_lies image m found.chip found.opened.numbers found.known)

-- the outcome of steps 1 to 6 on an image's block zero, where its number is 0
pub accepted_lies
    : (image : List ℕ) (o : Outcome)
    → block_len ≤ length image
    → o ≡ steps1to6 (take block_len image) (length image)
    → number_of o.answer ≡ 0
    → LiesIn o.mapping image
accepted_lies image o h e n = found_lies image o.mapping h (sym (λ i. outcome (zero_accepted o.answer n i) o.mapping) ∙ e)
