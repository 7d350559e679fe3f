-- What the reading of a save asks for, and what it reads of one block. Assumes nothing.
use Rattle.std.specs.Prelude.{List, ℕ, ◌+◌, ◌*◌, ◌<◌, ◌≤◌, length, take, drop}
use Rattle.lists.specs.Words.{pick, rep}
use Rattle.chip.specs.Figures.{block_len, erased, records}
use Rattle.mapping.specs.declared.Block.{Block}
use Rattle.mapping.specs.declared.Mapping.{Mapping}
use Rattle.mapping.specs.Blocks.{is_free, number_at, len_of}

-- n bytes of the block b from `off` on: "a free block reads as 0xFF"
unfoldable pub block_part : List ℕ → Block → ℕ → ℕ → List ℕ
block_part image b off n =
    pick (is_free b.condition) (rep n erased) (take n (drop (b.physical.0 * block_len + off) image))

-- these bytes lie in the block, and the block in the image
pub record PartIn (image : List ℕ) (b : Block) (off n : ℕ) : Type 0 where
  pub in_block : off + n ≤ block_len
  pub in_image : b.physical.0 * block_len + block_len ≤ length image

-- n bytes from place on lie in the save, the save's blocks have records, and they lie in the image
pub record Readable (image : List ℕ) (m : Mapping) (place n : ℕ) : Type 0 where
  pub lies_in_save : place + n ≤ len_of m
  pub few : len_of m ≤ records * block_len
  pub lies : (v : ℕ) → v * block_len < len_of m → number_at m v * block_len + block_len ≤ length image
