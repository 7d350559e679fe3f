-- The map of block zero, read: items, tickets, the sum of step 2 and the numbers of step 3 (01, "The three chips" and
-- "Opening"). `z` is block zero or any list that begins with it. Assumes nothing.
use Rattle.std.specs.Prelude.{Bool, not, ◌&&◌, List, ℕ, ◌+◌, ◌*◌, ◌/◌, ◌%◌, eqb, leb, get_or, take, Option}
use Rattle.lists.specs.Words.{pick, up_to, tabulate}
use Rattle.crc16.specs.Crc.{crc16}
use Rattle.chip.specs.Figures.{Layout, virtuals, sectors, image_len, header_len, in_use_bit, item_len, map_len, records}
use Rattle.mapping.specs.declared.Block.{Block}
use Rattle.mapping.specs.declared.Condition.{Condition}
use Rattle.mapping.specs.declared.Condition.TheVariants.{Free, Clean}
use Rattle.mapping.specs.declared.Mapping.{Mapping}
use Rattle.mapping.specs.Blocks.{block_of, no_block, mapping_of}
use Rattle.answers.specs.Search.{first_of}
use Rattle.mapping.specs.Fits.{placed}

-- "8 header bytes, then V items": where item i stands
abbrev pub item_at : Layout → ℕ → ℕ
item_at l i = header_len + i * item_len l

-- the in-use bit of an item's first byte
abbrev pub item_condition : ℕ → Condition
item_condition a = pick (leb in_use_bit a) Clean Free

-- small: "byte 0 is the in-use bit plus the physical number, byte 1 the count"; large: "byte 0 is the in-use bit plus a
-- 7-bit count, byte 1 the physical number"
unfoldable pub decoded : Layout → ℕ → ℕ → Block
decoded l a b = pick l.large (block_of b (a % in_use_bit) (item_condition a)) (block_of (a % in_use_bit) b (item_condition a))

-- item i as a block's record
unfoldable pub item_block : Layout → List ℕ → ℕ → Block
item_block l z i = decoded l (get_or z (item_at l i) 0) (get_or z (item_at l i + 1) 0)

-- only an in-use block of a small chip has tickets in the map: "a free block starts with tickets of zero whatever the map
-- holds"
abbrev pub has_tickets : Layout → List ℕ → ℕ → Bool
has_tickets l z i = not l.large && leb in_use_bit (get_or z (item_at l i) 0)

-- ticket j, which is the (j % 8)th of block j / 8
unfoldable pub item_ticket : Layout → List ℕ → ℕ → ℕ
item_ticket l z j = pick (has_tickets l z (j / sectors)) (get_or z (item_at l (j / sectors) + 2 + j % sectors) 0) 0

-- the records of the map; "entries past V are zero, free and without tickets"
abbrev pub block_entry : Layout → List ℕ → ℕ → Block
block_entry l z = up_to (virtuals l) (item_block l z) no_block

abbrev pub ticket_entry : Layout → List ℕ → ℕ → ℕ
ticket_entry l z = up_to (virtuals l * sectors) (item_ticket l z) 0

-- the mapping that the map holds
unfoldable pub loaded : Layout → List ℕ → Mapping
loaded l z = mapping_of (image_len l) (tabulate (block_entry l z) records) (tabulate (ticket_entry l z) (records * sectors))

-- step 2: "the stored sum equals the map's"; "the 16-bit sum of the whole map follows, low byte first"
unfoldable pub sum_holds : Layout → List ℕ → Bool
sum_holds l z = eqb (crc16 (take (map_len l) z)) (get_or z (map_len l) 0 + 256 * get_or z (map_len l + 1) 0)

-- step 3: "going up through the virtual blocks", the first whose number is outside or repeated
unfoldable pub bad_number : Layout → Mapping → Option ℕ
bad_number l m = first_of (λ v. not (placed l.p m v)) (virtuals l)
