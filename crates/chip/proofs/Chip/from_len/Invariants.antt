-- The chip is among those that are left.
use Rattle.std.proofs.Common.{◌≡◌, drop}
use Rattle.chip.specs.Figures.{chips, among, from_len}
use Rattle.chip.proofs.Chip.from_len.Given as goal

abbrev pub invariant-loop-kind : goal.invariant-loop-kind
invariant-loop-kind l = among l.len (drop l.kind-index chips) ≡ from_len l.len
