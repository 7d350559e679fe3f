-- A journal slot and the rule that its entry has to keep (01, "Opening", steps 4 and 5). Assumes nothing.
use Rattle.std.specs.Prelude.{Bool, ◌&&◌, List, ℕ, ◌+◌, ◌-◌, ◌*◌, eqb, leb, ltb, get_or, take, drop}
use Rattle.lists.specs.Words.{pick, all, rep}
use Rattle.chip.specs.Figures.{Layout, virtuals, sectors, erased, journal_at, slot_len}
use Rattle.mapping.specs.declared.Mapping.{Mapping}
use Rattle.mapping.specs.declared.Block.{Block}
use Rattle.mapping.specs.declared.Condition.TheVariants.{Free, Clean}
use Rattle.mapping.specs.Blocks.{is_free, block_of, block_at, with_block, with_tickets}
use Rattle.mapping.specs.Fits.{inside}
use Rattle.journal.specs.declared.Entry.{Entry}

-- "v, w, p, q, c, d and 8 tickets": the bytes before the tickets, and all
abbrev pub entry_head : ℕ
entry_head = 6

abbrev pub entry_len : ℕ
entry_len = entry_head + sectors

-- slot k: "slots of 0x20 bytes, going up"
abbrev pub slot_at : Layout → List ℕ → ℕ → List ℕ
slot_at l z k = take slot_len (drop (journal_at l + k * slot_len) z)

-- step 4: "bytes 0..13 must equal bytes 14..27"
unfoldable pub twins : List ℕ → Bool
twins s = all (λ i. eqb (get_or s i 0) (get_or s (entry_len + i) 0)) entry_len

-- step 5: "if byte 0 is 0xFF the journal ends"
abbrev pub ends : List ℕ → Bool
ends s = eqb (get_or s 0 0) erased

-- the entry of a slot, from its first copy
unfoldable pub entry_of : List ℕ → Entry
entry_of s =
    record {
      v = record { 0 = get_or s 0 0 };
      w = record { 0 = get_or s 1 0 };
      p = record { 0 = get_or s 2 0 };
      q = record { 0 = get_or s 3 0 };
      c = get_or s 4 0;
      d = get_or s 5 0;
      tickets = take sectors (drop entry_head s);
    }

-- "c is at least 1; w's count is c − 1"
abbrev pub count_before : ℕ → ℕ → Bool
count_before k c = leb 1 c && eqb k (c - 1)

-- step 5's tests, where a and b are the records of v and w: "v < V; w < V; 1 ≤ p < P; 1 ≤ q < P; v's physical number is q;
-- w's is p; w is free; v's count is d;" and the test of counts
unfoldable pub allowed : Layout → Block → Block → Entry → Bool
allowed l a b e =
    (ltb e.v.0 (virtuals l) && ltb e.w.0 (virtuals l))
    && (inside l.p e.p.0 && inside l.p e.q.0)
    && (eqb a.physical.0 e.q.0 && eqb b.physical.0 e.p.0)
    && is_free b.condition
    && (eqb a.count e.d && count_before b.count e.c)

unfoldable pub entry_ok : Layout → Mapping → Entry → Bool
entry_ok l m e = allowed l (block_at m e.v.0) (block_at m e.w.0) e

-- tickets of block v, which a large chip has none of
unfoldable pub ticketed : Layout → Mapping → ℕ → List ℕ → Mapping
ticketed l m v t = pick l.large m (with_tickets m v t)

-- "then w gets number q, count d, free, tickets zero"
unfoldable pub freed : Layout → Mapping → Entry → Mapping
freed l m e = ticketed l (with_block m e.w.0 (block_of e.q.0 e.d Free)) e.w.0 (rep sectors 0)

-- "after that v gets number p, count c, in use, and on small chips the entry's tickets"
unfoldable pub kept : Layout → Mapping → Entry → Mapping
kept l m e = ticketed l (with_block m e.v.0 (block_of e.p.0 e.c Clean)) e.v.0 e.tickets

-- what an allowed entry makes of the mapping
unfoldable pub applied : Layout → Mapping → Entry → Mapping
applied l m e = kept l (freed l m e) e
