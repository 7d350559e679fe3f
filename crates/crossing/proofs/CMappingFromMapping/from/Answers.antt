-- The records by `out`, each as the closure gives it, and the rest as it is.
use Rattle.std.proofs.Common.{rules}
use Rattle.crossing.specs.Crossing.{to_c}
use Rattle.crossing.proofs.Mapped.{out}
use Rattle.crossing.proofs.CMappingFromMapping.from.Goals as goal

pub returns : goal.returns
unfolding to_c
returns c =
    let e = out c.args.m c.from_fn-blocks.ensures.items (search rules) (λ i y q k. search rules) in
    cc (c.image_len-len.ensures, e)
