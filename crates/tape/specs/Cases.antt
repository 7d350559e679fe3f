-- The bench cases A to L of 01, as one table: a name each, and what is claimed under it. E to H and L are claims about images
-- whose journal begins with some bytes; z is whatever stood in the image before it was formatted. Assumes nothing.
use Rattle.std.specs.Prelude.{◌≡◌, true, false, List, [], ◌∷◌, ◌++◌, ℕ, ◌+◌, ◌-◌, ◌<◌, ◌≤◌, length, get_or, take}
use Rattle.lists.specs.Words.{splice, rep}
use Rattle.crc16.specs.Crc.{crc16, ticket_of}
use Rattle.chip.specs.declared.Chip.{Chip}
use Rattle.chip.specs.declared.Chip.TheVariants.{Kib128, Mib1}
use Rattle.chip.specs.Figures.{Layout, layout_of, virtuals, reserved, block_len, sectors, image_len, erased, in_use_bit, journal_at, slot_len}
use Rattle.answers.specs.declared.Answer.TheVariants.{Accepted}
use Rattle.mapping.specs.declared.Condition.TheVariants.{Free, Clean, Changed}
use Rattle.mapping.specs.declared.Mapping.{Mapping}
use Rattle.mapping.specs.declared.Outcome.{Outcome}
use Rattle.mapping.specs.Blocks.{block_of, block_at, number_at, count_at, free_at, with_block}
use Rattle.mapping.specs.Fits.{fits, reserved_free}
use Rattle.mapping.specs.Outcomes.{outcome}
use Rattle.block_map.specs.Items.{item_at, decoded}
use Rattle.block_zero.specs.Put.{fresh, put_map}
use Rattle.journal.specs.Entries.{twins}
use Rattle.journal.specs.Opened.{Opened}
use Rattle.journal.specs.Steps.{steps1to6}
use Rattle.save.specs.Visits.{state}
use Rattle.wear_leveling.specs.Open.{open_of}
use Rattle.wear_leveling.specs.Read.{admission}
use Rattle.wear_leveling.specs.Write.{after_write}
use Rattle.wear_leveling.specs.Commit.{commit_answer}
use Rattle.wear_leveling.specs.Format.{after_format}
use Rattle.tape.specs.Handed.{Gives, Refusal}

-- the bytes of an entry, twice, and the rest of its slot
abbrev pub slot_of : List ℕ → List ℕ
slot_of e = e ++ (e ++ rep 4 erased)

-- an image whose journal begins with these bytes
abbrev pub with_slots : Layout → List ℕ → List ℕ → List ℕ
with_slots l image ss = splice image (journal_at l) ss

-- what format leaves of z, with such a journal
abbrev pub formatted_with : Chip → List ℕ → List ℕ → List ℕ
formatted_with k z ss = with_slots (layout_of k) (after_format z) ss

-- steps 1 to 6 on an image
abbrev pub steps_on : List ℕ → Outcome
steps_on image = steps1to6 (take block_len image) (length image)

-- E's entry: v 0, w 30, p 31, q 1, c 1, d 0, and tickets t
abbrev pub entry_e : List ℕ → List ℕ
entry_e t = 0 ∷ 30 ∷ 31 ∷ 1 ∷ 1 ∷ 0 ∷ t

-- G's: v = w = 3, p = q = 4, c 1, d 0
abbrev pub entry_g : List ℕ → List ℕ
entry_g t = 3 ∷ 3 ∷ 4 ∷ 4 ∷ 1 ∷ 0 ∷ t

-- E: "block 0 is physical 31, count 1, in use; block 30 is physical 1, count 0, free"
pub record AsE (o : Outcome) : Type 0 where
  pub accepted : Gives o.answer 0 0
  pub block_0 : block_at o.mapping 0 ≡ block_of 31 1 Clean
  pub block_30 : block_at o.mapping 30 ≡ block_of 1 0 Free

-- G: "step 5 accepts it, block 3 in use"
pub record AsG (o : Outcome) : Type 0 where
  pub accepted : Gives o.answer 0 0
  pub block_3 : block_at o.mapping 3 ≡ block_of 4 1 Clean

-- I, of mappings of an image of n bytes whose save has s: "at 122,879 of length 1 accepted, at 122,880 refused, at 122,880
-- of length 0 accepted"; and so is the whole save
pub record AsI (n s : ℕ) : Type 0 where
  pub last : (m : Mapping) → fits n m ≡ true → Gives (admission n m (s - 1) 1) 0 0
  pub beyond : (m : Mapping) → fits n m ≡ true → Gives (admission n m s 1) 9 0
  pub nothing : (m : Mapping) → fits n m ≡ true → Gives (admission n m s 0) 0 0
  pub whole : (m : Mapping) → fits n m ≡ true → Gives (admission n m 0 s) 0 0
  -- there is such a mapping
  pub some : (m : Mapping) × (fits n m ≡ true)

-- J, with the mapping that opens the image: "an empty write at 1 puts block 0 in use, at 0 and at 512 does nothing"; all
-- three are accepted
pub record AsJ (image : List ℕ) (m : Mapping) : Type 0 where
  pub opens : open_of image ≡ outcome Accepted m
  pub accepted : (place : ℕ) → place ≤ 512 → Gives (admission (length image) m place 0) 0 0
  pub at_1 : block_at (after_write image m 1 []).mapping 0 ≡ block_of 1 1 Changed
  pub at_0 : after_write image m 0 [] ≡ state image m
  pub at_512 : after_write image m 512 [] ≡ state image m

-- a mapping of which block zero of a 1 MiB image can be put, with a free block w of count 127
pub record BeforeL (m : Mapping) (w : ℕ) : Type 0 where
  pub opened : Opened (layout_of Mib1) m
  pub counts : (v : ℕ) → v < virtuals (layout_of Mib1) → count_at m v < in_use_bit
  pub reserved_is_free : reserved_free (layout_of Mib1) m ≡ true
  pub below : w < virtuals (layout_of Mib1)
  pub free : free_at m w ≡ true
  pub count : count_at m w ≡ 127

-- such a mapping is the fresh one with a count of 127 at block 254, whose item is then 7F FF
abbrev pub near_l : Mapping
near_l = with_block (fresh (layout_of Mib1)) 254 (block_of 255 127 Free)

-- the entry that moves block v onto w's physical block and brings its count to 128
abbrev pub entry_l : Mapping → ℕ → ℕ → List ℕ → List ℕ
entry_l m v w t = v ∷ w ∷ number_at m w ∷ number_at m v ∷ 128 ∷ count_at m v ∷ t

-- L: "opens, and commit answers 10", at v
pub record AsL (v : ℕ) (o : Outcome) : Type 0 where
  pub accepted : Gives o.answer 0 0
  pub block_v : count_at o.mapping v ≡ 128
  pub commit : Gives (commit_answer (image_len (layout_of Mib1)) o.mapping) 10 v

-- an image of this chip
abbrev pub Sized : Chip → List ℕ → Type 0
Sized k z = length z ≡ image_len (layout_of k)

-- 8 tickets
abbrev pub Eight : List ℕ → Type 0
Eight t = length t ≡ sectors

-- the table's names
pub data Case : Type 0 where
  A : Case
  B : Case
  C : Case
  D : Case
  E : Case
  F : Case
  G : Case
  H : Case
  I : Case
  J : Case
  K : Case
  L : Case

-- what is claimed under each
abbrev pub Claim : Case → Type 0
-- the sum of no bytes, of FF, and of 00 with its ticket
Claim A = crc16 [] ≡ 0xFFFF
Claim B = crc16 (0xFF ∷ []) ≡ 0x00FF
Claim C = (crc16 (0 ∷ []) ≡ 0x40BF) × (ticket_of (crc16 (0 ∷ [])) ≡ 0xFF)
-- item 254 of a formatted 1 MiB image is 00 FF
Claim D =
    (z : List ℕ) → Sized Mib1 z
    → (get_or (after_format z) (item_at (layout_of Mib1) 254) 0 ≡ 0x00)
    × (get_or (after_format z) (item_at (layout_of Mib1) 254 + 1) 0 ≡ 0xFF)
-- a formatted 128 KiB image with E's entry, after steps 1 to 6, whatever its tickets
Claim E = (z t : List ℕ) → Sized Kib128 z → Eight t → AsE (steps_on (formatted_with Kib128 z (slot_of (entry_e t))))
-- after E every second slot s with w = 0 that does not end the journal: 5 at slot 1
Claim F =
    (z t s : List ℕ) → Sized Kib128 z → Eight t
    → length s ≡ slot_len → twins s ≡ true → (get_or s 0 0 ≡ erased → ⊥) → get_or s 1 0 ≡ 0
    → Refusal (open_of (formatted_with Kib128 z (slot_of (entry_e t) ++ s))) 5 1
-- a formatted image of every chip with G's entry, after steps 1 to 6
Claim G = (k : Chip) (z t : List ℕ) → Sized k z → Eight t → AsG (steps_on (formatted_with k z (slot_of (entry_g t))))
-- a formatted image of every chip whose slot 0 begins FF but has two copies that differ: 4 at slot 0
Claim H =
    (k : Chip) (z s : List ℕ) → Sized k z
    → length s ≡ slot_len → get_or s 0 0 ≡ erased → twins s ≡ false
    → Refusal (open_of (formatted_with k z s)) 4 0
-- every mapping that fits a 128 KiB image; and the same on the other two, whose saves have 516,096 and 1,040,384 bytes
Claim I = AsI 0x20000 122880 × AsI 0x80000 516096 × AsI 0x100000 1040384
-- every chip's formatted image, with the mapping that opens it
Claim J = (k : Chip) (z : List ℕ) → Sized k z → AsJ (after_format z) (fresh (layout_of k))
-- the large item FF 05: physical 5, count 127, in use
Claim K = decoded (layout_of Mib1) 0xFF 0x05 ≡ block_of 5 127 Clean
-- there is such a mapping; and every 1 MiB block zero put from one opens with an entry that brings any block v but the
-- reserved one to 128, and commit then answers 10 at v
Claim L =
    BeforeL near_l 254
    × ((m : Mapping) (v w : ℕ) (z t : List ℕ) → BeforeL m w → v < reserved (layout_of Mib1) → Sized Mib1 z → Eight t
    → AsL v (open_of (with_slots (layout_of Mib1) (put_map (layout_of Mib1) m z) (slot_of (entry_l m v w t)))))
