-- Opening an image (01, "Opening, in this order"): steps 1 to 6 on block zero and the length, which journal/Steps sets out one
-- by one, and then step 7. It gives number, place and mapping for every list of bytes; the image is not stored to, which
-- the type of `open` says. Assumes nothing.
use Rattle.std.specs.Prelude.{List, ℕ, length, take}
use Rattle.chip.specs.Figures.{block_len}
use Rattle.mapping.specs.declared.Outcome.{Outcome}
use Rattle.mapping.specs.Outcomes.{and_then}
use Rattle.journal.specs.Steps.{steps1to6}
use Rattle.tickets.specs.Tickets.{tickets_of}

-- 1 to 6, then 7
unfoldable pub open_of : List ℕ → Outcome
open_of image = and_then (steps1to6 (take block_len image) (length image)) (tickets_of image)
