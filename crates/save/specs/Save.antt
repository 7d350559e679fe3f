-- The save that an image and a mapping hold (01, "Working on an open image"). Assumes nothing.
use Rattle.std.specs.Prelude.{List, ℕ, ◌+◌, ◌*◌, ◌/◌, ◌%◌, get_or}
use Rattle.lists.specs.Words.{pick, tabulate}
use Rattle.chip.specs.Figures.{block_len, erased}
use Rattle.mapping.specs.declared.Mapping.{Mapping}
use Rattle.mapping.specs.Blocks.{free_at, number_at, len_of}

-- byte i of the save: "a free block reads as 0xFF"
unfoldable pub byte_at : List ℕ → Mapping → ℕ → ℕ
byte_at image m i =
    pick (free_at m (i / block_len)) erased (get_or image (number_at m (i / block_len) * block_len + i % block_len) 0)

-- "the save's bytes"
unfoldable pub save_bytes : List ℕ → Mapping → List ℕ
save_bytes image m = tabulate (byte_at image m) (len_of m)
