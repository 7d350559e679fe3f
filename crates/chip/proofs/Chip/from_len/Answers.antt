-- A turn looks at the first of the chips that are left.
use Rattle.std.proofs.Common.{refl}
use Rattle.chip.specs.Figures.{from_len}
use Rattle.chip.proofs.Chip.from_len.Goals as goal

pub loop-kind-init : goal.loop-kind-init
unfolding from_len
loop-kind-init c = refl
