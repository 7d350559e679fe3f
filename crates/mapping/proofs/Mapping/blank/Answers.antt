-- `Mapping::blank` meets its contract: the default block is zero and free, field by field, and the rest computes.
use Rattle.std.proofs.Common.{◌≡◌, ap, replicate}
use Rattle.lists.specs.Words.{rep}
use Rattle.mapping.specs.Blocks.{block_of, no_block, mapping_of, blank}
use Rattle.mapping.proofs.Mapping.blank.Goals as goal

pub returns : goal.returns
unfolding blank
returns c =
    let d = c.default.ensures in
    let e : c.default.result ≡ no_block = λ i. block_of (d.0 i) (d.1.0 i) (d.1.1 i) in
    ap (λ b. mapping_of 0 (replicate 256 b) (rep 2048 0)) e
