-- std's `copy_from_slice` stores a part of one slice over an equally long part of the other, which is a splice.
use Rattle.std.proofs.Common.{◌≡◌, ◌+◌, ◌-◌, length, ap, ◌∙◌, arith}
use Rattle.std.proofs.Math.Seq.{slice}
use Rattle.lists.specs.Words.{splice}
use Rattle.lists.proofs.Splice.{part_back}
use Rattle.lists.proofs.Windows.{length-window, take-drop}
use Rattle.slices.proofs.copy.Goals as goal

pub returns : goal.returns
returns c =
    let a = c.args in
    let s = a.src.now in
    let z : a.from + a.n - a.from ≡ a.n = omega arith in
    let k = c.copy_from_slice.ensures.after in
    let e : c.copy_from_slice.new.self ≡ slice a.from (a.from + a.n) s = k ∙ rw z (take-drop a.from a.n s) in
    part_back a.dst.now a.at a.n c.copy_from_slice.new.self (ap length k ∙ rw z (length-window a.from a.n s (omega arith)))
    ∙ ap (splice a.dst.now a.at) e
