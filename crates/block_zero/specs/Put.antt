-- Block zero as format and commit store it (01, "Working on an open image"): items, sum and an erased journal, each put in
-- the place of what stood there, so that everything else stays. `z` is a whole image or its block zero. Assumes nothing.
use Rattle.std.specs.Prelude.{Bool, not, ◌&&◌, List, [], ◌∷◌, ◌++◌, ℕ, zero, suc, ◌+◌, ◌-◌, ◌*◌, ◌/◌, ◌%◌, get_or, take, drop}
use Rattle.lists.specs.Words.{pick, up_to, tabulate, splice, rep}
use Rattle.crc16.specs.Crc.{crc16}
use Rattle.chip.specs.Figures.{Layout, virtuals, block_len, sectors, image_len, header_len, in_use_bit, erased, map_len, journal_at, records}
use Rattle.mapping.specs.declared.Block.{Block}
use Rattle.mapping.specs.declared.Condition.{Condition}
use Rattle.mapping.specs.declared.Condition.TheVariants.{Free, Clean}
use Rattle.mapping.specs.declared.Mapping.{Mapping}
use Rattle.mapping.specs.Blocks.{is_free, block_of, no_block, mapping_of, block_at, number_at, count_at, free_at}

-- an item's first byte: seven bits of a number, and the in-use bit
abbrev pub head_byte : Condition → ℕ → ℕ
head_byte d n = n % in_use_bit + pick (is_free d) 0 in_use_bit

-- the two bytes of an item
unfoldable pub item_pair : Layout → Block → List ℕ
item_pair l b =
    pick l.large (head_byte b.condition b.count ∷ b.physical.0 ∷ [])
    (head_byte b.condition b.physical.0 ∷ b.count ∷ [])

-- the bytes of item i, where t are the tickets of all blocks; "on small chips all tickets too"
unfoldable pub item_of : Layout → Block → List ℕ → ℕ → List ℕ
item_of l b t i = item_pair l b ++ pick l.large [] (take sectors (drop (i * sectors) t))

abbrev pub item_bytes : Layout → Mapping → ℕ → List ℕ
item_bytes l m i = item_of l (block_at m i) m.tickets i

-- the first n items, one after the other
unfoldable pub items : Layout → Mapping → ℕ → List ℕ
items l m zero = []
items l m (suc n) = items l m n ++ item_bytes l m n

-- "every item is rewritten from the mapping"
unfoldable pub with_items : Layout → Mapping → List ℕ → List ℕ
with_items l m z = splice z header_len (items l m (virtuals l))

-- a 16-bit number, "low byte first"
abbrev pub low_first : ℕ → List ℕ
low_first n = n % 256 ∷ n / 256 ∷ []

-- "the sum is rewritten"
unfoldable pub with_sum : Layout → List ℕ → List ℕ
with_sum l z = splice z (map_len l) (low_first (crc16 (take (map_len l) z)))

-- "the whole journal area becomes 0xFF"
unfoldable pub with_journal : Layout → List ℕ → List ℕ
with_journal l z = splice z (journal_at l) (rep (block_len - journal_at l) erased)

-- block zero from a mapping
unfoldable pub put_map : Layout → Mapping → List ℕ → List ℕ
put_map l m z = with_journal l (with_sum l (with_items l m z))

-- what the map keeps of a mapping: that a block was changed is forgotten, and so are the tickets of free blocks and all
-- tickets of a large chip
abbrev pub settled_block : Mapping → ℕ → Block
settled_block m v = block_of (number_at m v) (count_at m v) (pick (free_at m v) Free Clean)

abbrev pub keeps_tickets : Layout → Mapping → ℕ → Bool
keeps_tickets l m v = not l.large && not (free_at m v)

abbrev pub settled_ticket : Layout → Mapping → ℕ → ℕ
settled_ticket l m j = pick (keeps_tickets l m (j / sectors)) (get_or m.tickets j 0) 0

-- the mapping that a map put from m holds
unfoldable pub settled : Layout → Mapping → Mapping
settled l m =
    mapping_of (image_len l) (tabulate (up_to (virtuals l) (settled_block m) no_block) records)
    (tabulate (up_to (virtuals l * sectors) (settled_ticket l m) 0) (records * sectors))

-- "item i free with physical number i + 1, count 0"
abbrev pub fresh_entry : Layout → ℕ → Block
fresh_entry l = up_to (virtuals l) (λ i. block_of (i + 1) 0 Free) no_block

-- the mapping of a formatted image; "tickets zero"
unfoldable pub fresh : Layout → Mapping
fresh l = mapping_of (image_len l) (tabulate (fresh_entry l) records) (rep (records * sectors) 0)

-- format: "header zero", "padding zero", and block zero from the fresh mapping
unfoldable pub formatted : Layout → List ℕ → List ℕ
formatted l z = put_map l (fresh l) (splice z 0 (rep (map_len l) 0))
