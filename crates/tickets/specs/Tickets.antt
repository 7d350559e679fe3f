-- Step 7 of opening (01): the tickets of a small chip's sectors. It goes by a function that tells the ticket of a sector of a
-- physical block, so that it can be said of an image and of gathered sums alike. Assumes nothing.
use Rattle.std.specs.Prelude.{◌≡◌, Bool, not, ◌&&◌, List, ℕ, ◌+◌, ◌*◌, ◌/◌, ◌%◌, ◌<◌, ◌≤◌, eqb, length, get_or, take, drop, Option, Some, None}
use Rattle.lists.specs.Words.{pick}
use Rattle.crc16.specs.Crc.{crc16, ticket_of}
use Rattle.chip.specs.declared.Chip.{Chip}
use Rattle.chip.specs.Figures.{Layout, layout_of, from_len, virtuals, block_len, sector_len, sectors, by_chip}
use Rattle.mapping.specs.declared.Block.{Block}
use Rattle.mapping.specs.declared.Mapping.{Mapping}
use Rattle.mapping.specs.Blocks.{is_free, block_at, number_at}
use Rattle.answers.specs.Search.{first_of}
use Rattle.answers.specs.declared.Answer.TheVariants.{Accepted, WrongLength, WrongTicket}
use Rattle.mapping.specs.declared.Outcome.{Outcome}
use Rattle.mapping.specs.Outcomes.{outcome, refused, unless_found}

-- where sector j of physical block n stands in an image
abbrev pub sector_place : ℕ → ℕ → ℕ
sector_place n j = n * block_len + j * sector_len

-- the ticket of sector j of physical block n
unfoldable pub ticket_in : List ℕ → ℕ → ℕ → ℕ
ticket_in image n j = ticket_of (crc16 (take sector_len (drop (sector_place n j) image)))

-- sector j of an in-use block whose ticket is not the stored one
unfoldable pub sector_fails : (ℕ → ℕ → ℕ) → Block → ℕ → ℕ → Bool
sector_fails ticket_at b j stored = not (is_free b.condition) && not (eqb (ticket_at b.physical.0 j) stored)

-- the same of sector s, which is "8 × block + sector"
unfoldable pub fails_at : (ℕ → ℕ → ℕ) → Mapping → ℕ → Bool
fails_at ticket_at m s = sector_fails ticket_at (block_at m (s / sectors)) (s % sectors) (get_or m.tickets s 0)

-- "small chips: for each in-use block going up, each sector going up": the first that fails
unfoldable pub bad_ticket : Layout → (ℕ → ℕ → ℕ) → Mapping → Option ℕ
bad_ticket l ticket_at m = pick l.large None (first_of (fails_at ticket_at m) (virtuals l * sectors))

-- 7 on an image of this layout: "the ticket fits"
abbrev pub step7 : Layout → List ℕ → Mapping → Outcome
step7 l image m = unless_found (bad_ticket l (ticket_in image) m) WrongTicket (outcome Accepted m)

-- 7 on an image of any length
unfoldable pub tickets_of : List ℕ → Mapping → Outcome
tickets_of image m = by_chip (from_len (length image)) (λ k. step7 (layout_of k) image m) (refused WrongLength)

-- the virtual blocks of the mapping lie in an image
pub record Lies (l : Layout) (m : Mapping) (image : List ℕ) : Type 0 where
  pub within : (v : ℕ) → v < virtuals l → number_at m v * block_len + block_len ≤ length image

-- the same, where the image's length names the layout
pub record LiesIn (m : Mapping) (image : List ℕ) : Type 0 where
  pub lies : (k : Chip) → from_len (length image) ≡ Some k → Lies (layout_of k) m image
