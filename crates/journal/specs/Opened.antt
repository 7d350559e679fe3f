-- What a mapping that opening accepts keeps to: the numbers of 01, "Opening", step 3, its length and its two arrays; that
-- no block has changed yet; and that free blocks, records past V and large chips are without tickets. Assumes nothing.
use Rattle.std.specs.Prelude.{◌≡◌, true, ℕ, ◌+◌, ◌*◌, ◌≤◌, ◌<◌, length, get_or, Some}
use Rattle.chip.specs.declared.Chip.{Chip}
use Rattle.chip.specs.Figures.{Layout, layout_of, virtuals, sectors, image_len, from_len, records}
use Rattle.mapping.specs.declared.Condition.TheVariants.{Changed}
use Rattle.mapping.specs.declared.Mapping.{Mapping}
use Rattle.mapping.specs.Blocks.{no_block, block_at, free_at}
use Rattle.mapping.specs.Fits.{fits_as, Apart}

pub record Opened (l : Layout) (m : Mapping) : Type 0 where
  -- the length is the image's, and there are records and tickets for as many blocks as a byte can name
  pub image : m.len ≡ image_len l
  pub blocks_length : length m.blocks ≡ records
  pub tickets_length : length m.tickets ≡ records * sectors
  -- "its first V physical numbers [are] 1..P−1 each once"
  pub numbers : Apart m (virtuals l)
  -- each block is free or clean
  pub unchanged : (v : ℕ) → v < virtuals l → (block_at m v).condition ≡ Changed → ⊥
  -- "entries past V are zero, free and without tickets"
  pub past_blocks : (u : ℕ) → virtuals l ≤ u → block_at m u ≡ no_block
  pub past_tickets : (j : ℕ) → virtuals l * sectors ≤ j → get_or m.tickets j 0 ≡ 0
  -- a free block has tickets of zero, and so has each block of a large chip
  pub free_tickets
      : (v j : ℕ) → v < virtuals l → free_at m v ≡ true → j < sectors → get_or m.tickets (v * sectors + j) 0 ≡ 0
  pub large_tickets : l.large ≡ true → (j : ℕ) → get_or m.tickets j 0 ≡ 0

-- the mapping of an image of n bytes, one of the three lengths, fits it and is in good order
pub record OpenedAs (n : ℕ) (m : Mapping) : Type 0 where
  pub chip : Chip
  pub known : from_len n ≡ Some chip
  pub opened : Opened (layout_of chip) m
  pub fitting : fits_as (layout_of chip) m ≡ true
