-- The steps of opening (01, "Opening, in this order") as facts, in words that no code shares; Table says by them which answer
-- each step gives. z is block zero. Assumes nothing.
use Rattle.std.specs.Prelude.{◌≡◌, false, List, ℕ, zero, suc, ◌+◌, ◌-◌, ◌*◌, ◌<◌, ◌≤◌, get_or, take}
use Rattle.crc16.specs.Crc.{crc16}
use Rattle.chip.specs.declared.Chip.{Chip}
use Rattle.chip.specs.Figures.{Layout, layout_of, virtuals, block_len, map_len, slot_count}
use Rattle.mapping.specs.declared.Condition.TheVariants.{Free}
use Rattle.mapping.specs.declared.Mapping.{Mapping}
use Rattle.mapping.specs.Blocks.{block_at, number_at, count_at, free_at}
use Rattle.block_map.specs.Items.{loaded}
use Rattle.journal.specs.declared.Entry.{Entry}
use Rattle.journal.specs.Entries.{slot_at, entry_of, applied}
use Rattle.tickets.specs.Tickets.{ticket_in}

-- 1: a length that isn't one of the three
pub record NoChip (n : ℕ) : Type 0 where
  pub not_128 : n ≡ 0x20000 → ⊥
  pub not_512 : n ≡ 0x80000 → ⊥
  pub not_1024 : n ≡ 0x100000 → ⊥

-- block zero
abbrev pub zeroth : List ℕ → List ℕ
zeroth image = take block_len image

-- 2: "the stored sum equals the map's", low byte first
abbrev pub SumRight : Layout → List ℕ → Type 0
SumRight l z = crc16 (take (map_len l) z) ≡ get_or z (map_len l) 0 + 256 * get_or z (map_len l + 1) 0

-- 3: block v's physical number "lies in 1..P−1 and has not appeared before"
pub record Placed (l : Layout) (m : Mapping) (v : ℕ) : Type 0 where
  pub low : 1 ≤ number_at m v
  pub high : number_at m v < l.p
  pub new : (u : ℕ) → u < v → number_at m u ≡ number_at m v → ⊥

-- 4: "bytes 0..13 must equal bytes 14..27"
abbrev pub SameCopies : List ℕ → Type 0
SameCopies s = (i : ℕ) → i < 14 → get_or s i 0 ≡ get_or s (14 + i) 0

-- the mapping after the entries of the first j slots of block zero
unfoldable pub entered : Layout → List ℕ → ℕ → Mapping
entered l z zero = loaded l z
entered l z (suc j) = applied l (entered l z j) (entry_of (slot_at l z j))

-- 5: "v < V; w < V; 1 ≤ p < P; 1 ≤ q < P; v's physical number is q; w's is p; w is free; v's count is d; c is at least 1; w's
-- count is c − 1"
pub record Rule (l : Layout) (m : Mapping) (e : Entry) : Type 0 where
  pub v_below : e.v.0 < virtuals l
  pub w_below : e.w.0 < virtuals l
  pub p_low : 1 ≤ e.p.0
  pub p_high : e.p.0 < l.p
  pub q_low : 1 ≤ e.q.0
  pub q_high : e.q.0 < l.p
  pub v_number : number_at m e.v.0 ≡ e.q.0
  pub w_number : number_at m e.w.0 ≡ e.p.0
  pub w_free : (block_at m e.w.0).condition ≡ Free
  pub v_count : count_at m e.v.0 ≡ e.d
  pub c_low : 1 ≤ e.c
  pub w_count : count_at m e.w.0 ≡ e.c - 1

-- slot j holds an entry
pub record HoldsEntry (l : Layout) (z : List ℕ) (j : ℕ) : Type 0 where
  pub same : SameCopies (slot_at l z j)
  pub goes_on : get_or (slot_at l z j) 0 0 ≡ 0xFF → ⊥

-- and the entry keeps step 5
abbrev pub RuleAt : Layout → List ℕ → ℕ → Type 0
RuleAt l z j = Rule l (entered l z j) (entry_of (slot_at l z j))

-- steps 2 and 3 hold, and each of the first j slots holds an entry that step 5 allows
pub record Reaches (l : Layout) (z : List ℕ) (j : ℕ) : Type 0 where
  pub sum : SumRight l z
  pub numbers : (v : ℕ) → v < virtuals l → Placed l (loaded l z) v
  pub holds : (i : ℕ) → i < j → HoldsEntry l z i
  pub allows : (i : ℕ) → i < j → RuleAt l z i
  pub slots : j ≤ slot_count l

-- "if byte 0 is 0xFF the journal ends [...]. A journal with no such slot is accepted"
pub data Ends (l : Layout) (z : List ℕ) (j : ℕ) : Type 0 where
  no_end : j ≡ slot_count l → Ends l z j
  end_at : j < slot_count l → SameCopies (slot_at l z j) → get_or (slot_at l z j) 0 0 ≡ 0xFF → Ends l z j

-- 7: "the ticket fits", of sector s of block b
abbrev pub TicketRight : List ℕ → Mapping → ℕ → ℕ → Type 0
TicketRight image m b s = ticket_in image (number_at m b) s ≡ get_or m.tickets (8 * b + s) 0

-- sector s of block b is the first of an in-use block whose ticket does not fit
pub record FirstWrong (k : Chip) (image : List ℕ) (m : Mapping) (b s : ℕ) : Type 0 where
  pub block : b < virtuals (layout_of k)
  pub sector : s < 8
  pub in_use : free_at m b ≡ false
  pub wrong : TicketRight image m b s → ⊥
  pub before : (c r : ℕ) → r < 8 → 8 * c + r < 8 * b + s → free_at m c ≡ false → TicketRight image m c r
