-- `Mapping::high_count_on` meets its contract: the chain finds what a walk over the first V blocks finds.
use Rattle.std.proofs.Common.{◌∙◌, sym, rules, tests}
use Rattle.std.proofs.lemmas.Iterator.{YieldsList-from_slice}
use Rattle.std.proofs.lemmas.Iterator.Search.{position_from_yields_List}
use lib.Dec.{leb}
use Rattle.chip.specs.Figures.{in_use_bit}
use Rattle.mapping.proofs.Highs.{high_found}
use Rattle.mapping.proofs.Mapping.high_count_on.Goals as goal

pub returns : goal.returns
returns c =
    let v = c.virtual_blocks-v in
    high_found _ c.args.self v.result c.position.result (sym c.is_large.ensures ∙ c.if-not-is_large.false) v.ensures.value (search rules)
    (position_from_yields_List (λ b. leb in_use_bit b.count) _ _ _ c.position.ensures.ran
    (YieldsList-from_slice _ c.iter.ensures.rest) (λ x b q k. search (rules, tests)))
