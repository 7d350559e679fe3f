-- The figures of a chip, from 01, "The three chips". A layout, P and whether it is large, carries them all, so that what
-- holds of small chips can be said of every P; the kinds of chip name three layouts. Assumes nothing.
use Rattle.std.specs.Prelude.{Bool, true, false, List, [], ◌∷◌, ℕ, ◌+◌, ◌-◌, ◌*◌, ◌/◌, eqb, Option, Some, None}
use Rattle.lists.specs.Words.{pick}
use Rattle.chip.specs.declared.Chip.{Chip}
use Rattle.chip.specs.declared.Chip.TheVariants.{Kib128, Kib512, Mib1}

-- "P physical blocks"; "the first two are small, the third large"
pub record Layout : Type 0 where
  pub p : ℕ
  pub large : Bool

abbrev pub layout_of : Chip → Layout
layout_of Kib128 = record { p = 32; large = false }
layout_of Kib512 = record { p = 128; large = false }
layout_of Mib1 = record { p = 256; large = true }

-- "blocks of 0x1000 bytes", "sectors of 0x200"
abbrev pub block_len : ℕ
block_len = 0x1000

abbrev pub sector_len : ℕ
sector_len = 0x200

-- "a block has 8 sectors"
abbrev pub sectors : ℕ
sectors = block_len / sector_len

-- as many block records as a byte can name
abbrev pub records : ℕ
records = 256

-- "V = P − 1 virtual blocks"
abbrev pub virtuals : Layout → ℕ
virtuals l = l.p - 1

-- "the last virtual block (V − 1) reserved"
abbrev pub reserved : Layout → ℕ
reserved l = virtuals l - 1

abbrev pub image_len : Layout → ℕ
image_len l = l.p * block_len

-- "8 header bytes, then V items"
abbrev pub header_len : ℕ
header_len = 8

-- "the in-use bit 0x80"
abbrev pub in_use_bit : ℕ
in_use_bit = 0x80

-- "journal area 0xFF", "a free block reads as 0xFF"
abbrev pub erased : ℕ
erased = 0xFF

-- two bytes, and on large chips "no tickets"; on small ones "then 8 tickets"
abbrev pub large_item : ℕ
large_item = 2

abbrev pub small_item : ℕ
small_item = 2 + sectors

abbrev pub item_len : Layout → ℕ
item_len l = pick l.large large_item small_item

-- header and items; on large chips "the bytes from 0x206 to 0x3FD are padding"
abbrev pub map_len : Layout → ℕ
map_len l = pick l.large 0x3FE (header_len + virtuals l * small_item)

-- "the 16-bit sum of the whole map follows", and then the journal
abbrev pub journal_at : Layout → ℕ
journal_at l = map_len l + 2

-- "slots of 0x20 bytes"
abbrev pub slot_len : ℕ
slot_len = 0x20

-- as many slots as block zero has room for
abbrev pub slot_count : Layout → ℕ
slot_count l = (block_len - journal_at l) / slot_len

-- "the save has (V − 1) × 0x1000 bytes"
abbrev pub save_len : Layout → ℕ
save_len l = (virtuals l - 1) * block_len

-- the chips whose lengths are "one of the three"
abbrev pub chips : List Chip
chips = Kib128 ∷ Kib512 ∷ Mib1 ∷ []

-- the first of some chips that has this length
abbrev pub among : ℕ → List Chip → Option Chip
among len [] = None
among len (k ∷ ks) = pick (eqb len (image_len (layout_of k))) (Some k) (among len ks)

-- the chip of a length
unfoldable pub from_len : ℕ → Option Chip
from_len len = among len chips

-- a value for the chip, or another where there is none
abbrev pub by_chip {ℓ} : {X : Type ℓ} → Option Chip → (Chip → X) → X → X
by_chip (Some k) f x = f k
by_chip None f x = x
