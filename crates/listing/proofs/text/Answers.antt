-- The first lines, and behind them the list of an accepted image; a refusal's text is found without an answer.
use Rattle.std.proofs.Common.{◌≡◌, rules}
use Rattle.answers.specs.declared.Answer.TheVariants.{Accepted}
use Rattle.listing.specs.Lines.{text_of}
use Rattle.listing.proofs.Growing.{written_then}
use Rattle.listing.proofs.text.Goals as goal

pub returns : goal.returns
unfolding text_of
returns c =
    let e : c.report-o.result.answer ≡ Accepted = search rules in
    let first = rw e at c.first_lines.ensures.grown.written in
    rw (← c.report-o.ensures, e) (search (rules, written_then first c.list.ensures.grown.written))
