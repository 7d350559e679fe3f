-- Each way out by whether the condition bytes are conditions; the records by `into`, each as the closure gives it.
use Rattle.std.proofs.Common.{rules, sym, ◌∙◌}
use Rattle.crossing.specs.Crossing.{from_c}
use Rattle.crossing.proofs.Mapped.{into}
use Rattle.crossing.proofs.MappingFromCMapping.from.Goals as goal

pub returns-then-not-is_known : goal.returns-then-not-is_known
unfolding from_c
returns-then-not-is_known c = c.blank.ensures ∙ rw (sym c.if-not-is_known.ensures)

pub returns : goal.returns
unfolding from_c
returns c =
    let e = into c.args.c c.from_fn-blocks.ensures.items (search rules) (λ i y q k. search rules) in
    c.new.ensures ∙ rw (sym c.if-not-is_known.ensures, e)
