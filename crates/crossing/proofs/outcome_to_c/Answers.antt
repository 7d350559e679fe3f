-- An accepted answer is the one whose number is 0.
use Rattle.std.proofs.Common.{rules, ◌≡◌, ◌∙◌}
use Rattle.answers.specs.declared.Answer.TheVariants.{Accepted}
use Rattle.crossing.proofs.outcome_to_c.Goals as goal

pub returns-then-eq : goal.returns-then-eq
returns-then-eq c =
    let e : c.args.o.answer ≡ Accepted = search rules in
    c.answered.ensures ∙ rw (e, c.from.ensures)
