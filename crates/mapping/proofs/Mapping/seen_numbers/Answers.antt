-- `Mapping::seen_numbers` meets its contract: a turn raises the flag of the next block's number.
use Rattle.std.proofs.Common.{◌≡◌, ◌<◌, get_or-take, rules}
use Rattle.chip.specs.Figures.{records}
use Rattle.mapping.specs.Blocks.{number_at}
use Rattle.mapping.proofs.Onto.{seen_none, seen_more}
use Rattle.mapping.proofs.Mapping.seen_numbers.Goals as goal

pub loop-b-init : goal.loop-b-init
loop-b-init c = seen_none c.args.self

pub loop-b-preserved : goal.loop-b-preserved
loop-b-preserved c =
    let l = c.loop-b in
    let m = c.args.self in
    let e : c.from.result ≡ number_at m l.b-index = search (rules, get_or-take) in
    let h : number_at m l.b-index < records = search rules in
    rw (l.invariant, e) (seen_more m l.b-index h)

pub returns : goal.returns
returns c =
    let e : c.loop-b.b-index ≡ c.virtual_blocks-v.result = search rules in
    rw (← c.virtual_blocks-v.ensures.value, ← e) c.loop-b.invariant
