-- `Mapping::each_once` meets its contract: at the loop's end `ok` is the flags' test, and that is the definition.
use Rattle.std.proofs.Common.{◌≡◌, ◌+◌, ◌-◌, refl, ◌∙◌, length, rules, arith}
use Rattle.lists.proofs.Tests.{all_more}
use Rattle.lists.proofs.Windows.{length-window}
use Rattle.lists.specs.Words.{all}
use Rattle.chip.specs.Figures.{layout_of}
use Rattle.chip.proofs.Layouts.{sound}
use Rattle.mapping.proofs.Onto.{flags_from_one}
use Rattle.mapping.proofs.Mapping.each_once.Goals as goal

pub loop-s-init : goal.loop-s-init
unfolding all
loop-s-init c = refl

pub loop-s-preserved : goal.loop-s-preserved
loop-s-preserved c = all_more _ c.loop-s.s-index c.loop-s.ok c.loop-s.invariant

pub returns : goal.returns
returns c =
    let l = c.loop-s in
    let kind = c.args.kind in
    let v = c.virtual_blocks-v in
    let n : v.result + 1 - 1 ≡ v.result = omega arith in
    let seen : length c.seen_numbers-seen.result ≡ 256 = search rules in
    let e : l.s-index ≡ v.result = omega (arith, length-window 1 v.result c.seen_numbers-seen.result (omega arith), n) in
    l.invariant
    ∙ rw (n, e, v.ensures.value, c.seen_numbers-seen.ensures)
    (flags_from_one c.args.self (layout_of kind) (omega (arith, (sound kind).some)) (omega (arith, (sound kind).few)))
