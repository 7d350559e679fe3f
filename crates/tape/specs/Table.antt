-- The tables of 01, row by row and in their own figures: "The three chips", and "Numbers handed back", which number and which
-- place open, format, read, write and commit answer. Open's rows say of each step what it refuses once those before it hold,
-- and that 0 is given when all hold. Assumes nothing.
use Rattle.std.specs.Prelude.{◌≡◌, true, false, List, ◌∷◌, ℕ, ◌+◌, ◌-◌, ◌*◌, ◌/◌, ◌%◌, ◌<◌, ◌≤◌, length, get_or}
use Rattle.chip.specs.declared.Chip.{Chip}
use Rattle.chip.specs.declared.Chip.TheVariants.{Kib128, Kib512, Mib1}
use Rattle.chip.specs.Figures.{Layout, layout_of, virtuals, block_len, image_len, map_len, item_len, journal_at, slot_count, save_len}
use Rattle.answers.specs.declared.Answer.TheVariants.{Accepted}
use Rattle.answers.specs.Answers.{number_of}
use Rattle.mapping.specs.declared.Condition.TheVariants.{Free, Clean}
use Rattle.mapping.specs.declared.Mapping.{Mapping}
use Rattle.mapping.specs.Blocks.{blank, block_of, block_at, number_at, free_at, len_of}
use Rattle.mapping.specs.Fitted.{Fitted}
use Rattle.mapping.specs.Outcomes.{outcome}
use Rattle.block_map.specs.Items.{decoded, loaded}
use Rattle.journal.specs.Entries.{slot_at}
use Rattle.tickets.specs.Tickets.{ticket_in}
use Rattle.save.specs.Save.{save_bytes}
use Rattle.wear_leveling.specs.Open.{open_of}
use Rattle.wear_leveling.specs.Read.{admission}
use Rattle.wear_leveling.specs.Commit.{commit_answer}
use Rattle.wear_leveling.specs.Format.{format_answer, after_format}
use Rattle.tape.specs.Handed.{Gives, Refusal}
use Rattle.tape.specs.Demand.{Refuses}
use Rattle.tape.specs.Cases.{slot_of, formatted_with, steps_on, entry_g, Sized, Eight}
use Rattle.tape.specs.Opening.{NoChip, zeroth, SumRight, Placed, SameCopies, entered, HoldsEntry, RuleAt, Reaches, Ends, TicketRight, FirstWrong}

-- a row of the table of chips: image bytes, P, V, map bytes, item, journal at, slots and save bytes; the sum is at the map's end
pub record Row (l : Layout) (image p v map item journal slots save : ℕ) : Type 0 where
  pub image_is : image_len l ≡ image
  pub p_is : l.p ≡ p
  pub v_is : virtuals l ≡ v
  pub map_is : map_len l ≡ map
  pub item_is : item_len l ≡ item
  pub journal_is : journal_at l ≡ journal
  pub slots_is : slot_count l ≡ slots
  pub save_is : save_len l ≡ save

-- "The three chips"
pub record Chips : Type 0 where
  pub kib_128 : Row (layout_of Kib128) 0x20000 32 31 0x13E 10 0x140 118 122880
  pub kib_512 : Row (layout_of Kib512) 0x80000 128 127 0x4FE 10 0x500 88 516096
  pub mib_1 : Row (layout_of Mib1) 0x100000 256 255 0x3FE 2 0x400 96 1040384
  -- "small item: byte 0 is the in-use bit 0x80 plus the physical number (7 bits), byte 1 the count"; a large one is in case K
  pub small_item_is : (l : Layout) → l.large ≡ false → decoded l 0x85 7 ≡ block_of 5 7 Clean

-- ---- numbers and places

-- the entry that puts block v in use, on the physical block of block 0
abbrev pub entry_onto : ℕ → List ℕ → List ℕ
entry_onto v t = v ∷ 0 ∷ 1 ∷ (v + 1) ∷ 1 ∷ 0 ∷ t

-- a formatted image with that entry for its last virtual block v
abbrev pub LastInUse : Chip → ℕ → Type 0
LastInUse k v = (z t : List ℕ) → Sized k z → Eight t → Refusal (open_of (formatted_with k z (slot_of (entry_onto v t)))) 6 v

pub record Table : Type 0 where
  pub open_1 : (image : List ℕ) → NoChip (length image) → Refusal (open_of image) 1 0
  pub format_1 : (z : List ℕ) → NoChip (length z) → Gives (format_answer (length z)) 1 0 × (after_format z ≡ z)
  pub format_0 : (k : Chip) (z : List ℕ) → Sized k z → Gives (format_answer (length z)) 0 0
  pub open_2 : (k : Chip) (image : List ℕ) → Sized k image → (SumRight (layout_of k) (zeroth image) → ⊥) → Refusal (open_of image) 2 0
  pub open_3
      : (k : Chip) (image : List ℕ) (v : ℕ) → Sized k image → SumRight (layout_of k) (zeroth image)
      → v < virtuals (layout_of k)
      → ((u : ℕ) → u < v → Placed (layout_of k) (loaded (layout_of k) (zeroth image)) u)
      → (Placed (layout_of k) (loaded (layout_of k) (zeroth image)) v → ⊥)
      → Refusal (open_of image) 3 v
  pub open_4
      : (k : Chip) (image : List ℕ) (j : ℕ) → Sized k image → Reaches (layout_of k) (zeroth image) j → j < slot_count (layout_of k)
      → (SameCopies (slot_at (layout_of k) (zeroth image) j) → ⊥)
      → Refusal (open_of image) 4 j
  pub open_5
      : (k : Chip) (image : List ℕ) (j : ℕ) → Sized k image → Reaches (layout_of k) (zeroth image) j → j < slot_count (layout_of k)
      → HoldsEntry (layout_of k) (zeroth image) j → (RuleAt (layout_of k) (zeroth image) j → ⊥)
      → Refusal (open_of image) 5 j
  pub open_6
      : (k : Chip) (image : List ℕ) (j : ℕ) → Sized k image → Reaches (layout_of k) (zeroth image) j → Ends (layout_of k) (zeroth image) j
      → free_at (entered (layout_of k) (zeroth image) j) (virtuals (layout_of k) - 1) ≡ false
      → Refusal (open_of image) 6 (virtuals (layout_of k) - 1)
  -- such images
  pub open_6_last : LastInUse Kib128 30 × LastInUse Kib512 126 × LastInUse Mib1 254
  -- steps 1 to 6 hold: every entry has been applied, one after the other
  pub steps_0
      : (k : Chip) (image : List ℕ) (j : ℕ) → Sized k image → Reaches (layout_of k) (zeroth image) j → Ends (layout_of k) (zeroth image) j
      → free_at (entered (layout_of k) (zeroth image) j) (virtuals (layout_of k) - 1) ≡ true
      → steps_on image ≡ outcome Accepted (entered (layout_of k) (zeroth image) j)
  pub open_7
      : (k : Chip) (image : List ℕ) (m : Mapping) (b s : ℕ) → (k ≡ Mib1 → ⊥) → Sized k image
      → steps_on image ≡ outcome Accepted m → FirstWrong k image m b s → Refusal (open_of image) 7 (8 * b + s)
  -- such an image: case G's entry on a small chip with a ticket that does not fit block 3's first sector
  pub open_7_first
      : (k : Chip) (z t : List ℕ) → (k ≡ Mib1 → ⊥) → Sized k z → Eight t
      → (ticket_in (formatted_with k z (slot_of (entry_g t))) 4 0 ≡ get_or t 0 0 → ⊥)
      → Refusal (open_of (formatted_with k z (slot_of (entry_g t)))) 7 24
  -- all steps hold
  pub open_0
      : (k : Chip) (image : List ℕ) (m : Mapping) → Sized k image → steps_on image ≡ outcome Accepted m
      → ((k ≡ Mib1 → ⊥) → (b s : ℕ) → b < virtuals (layout_of k) → s < 8 → free_at m b ≡ false → TicketRight image m b s)
      → (open_of image ≡ outcome Accepted m) × Gives (open_of image).answer 0 0
  -- "open's refusal returns the blank mapping"
  pub open_blank : (image : List ℕ) → (number_of (open_of image).answer ≡ 0 → ⊥) → (open_of image).mapping ≡ blank
  -- read and write
  pub range_8 : (n : ℕ) (m : Mapping) (place j : ℕ) → (Fitted n m → ⊥) → Gives (admission n m place j) 8 0
  pub range_9 : (n : ℕ) (m : Mapping) (place j : ℕ) → Fitted n m → len_of m < place + j → Gives (admission n m place j) 9 0
  pub range_0 : (n : ℕ) (m : Mapping) (place j : ℕ) → Fitted n m → place + j ≤ len_of m → Gives (admission n m place j) 0 0
  -- "a free block reads as 0xFF"
  pub read_free
      : (image : List ℕ) (m : Mapping) (i : ℕ) → i < len_of m → free_at m (i / block_len) ≡ true → get_or (save_bytes image m) i 0 ≡ 0xFF
  pub read_used
      : (image : List ℕ) (m : Mapping) (i : ℕ) → i < len_of m → free_at m (i / block_len) ≡ false
      → get_or (save_bytes image m) i 0 ≡ get_or image (number_at m (i / block_len) * block_len + i % block_len) 0
  -- commit: 8, and then 10 or 0 as demand 3 has it
  pub commit_8 : (n : ℕ) (m : Mapping) → (Fitted n m → ⊥) → Gives (commit_answer n m) 8 0
  pub commit_10 : (n : ℕ) (m : Mapping) (r : Fitted n m) → Refuses r.chip m (commit_answer n m)
  -- "the blank mapping: length 0, all numbers zero, all free; read, write and commit refuse it with 8"
  pub blank_len : blank.len ≡ 0
  pub blank_blocks : (v : ℕ) → block_at blank v ≡ block_of 0 0 Free
  pub blank_range : (n place j : ℕ) → Gives (admission n blank place j) 8 0
  pub blank_commit : (n : ℕ) → Gives (commit_answer n blank) 8 0
  -- "`len` gives the save bytes of the mapping's length, and 0 for a length that isn't one of the three"
  pub len_128 : (m : Mapping) → m.len ≡ 0x20000 → len_of m ≡ 122880
  pub len_512 : (m : Mapping) → m.len ≡ 0x80000 → len_of m ≡ 516096
  pub len_1024 : (m : Mapping) → m.len ≡ 0x100000 → len_of m ≡ 1040384
  pub len_0 : (m : Mapping) → NoChip m.len → len_of m ≡ 0
