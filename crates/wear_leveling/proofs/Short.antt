-- An image of less than a block has no chip's length, so that step 1 refuses it.
use Rattle.std.proofs.Common.{◌≡◌, ℕ, ◌<◌, List, length}
use Rattle.chip.specs.Figures.{block_len}
use Rattle.chip.proofs.Layouts.{from_short}
use Rattle.answers.specs.declared.Answer.TheVariants.{WrongLength}
use Rattle.mapping.specs.Outcomes.{refused}
use Rattle.journal.specs.Steps.{steps1to6}
use Rattle.wear_leveling.specs.Open.{open_of}

pub open_short : (image : List ℕ) → length image < block_len → refused WrongLength ≡ open_of image
unfolding open_of steps1to6
open_short image h = rw (from_short _ h)
