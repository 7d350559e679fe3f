-- The mapping, its parts and its setters, from 01, "Opening", last paragraph. A record that is read past the 256 is the
-- blank one, which is the checker's reading of an array too. Assumes nothing.
use Rattle.std.specs.Prelude.{Bool, true, false, not, List, ℕ, ◌*◌, get_or, set, replicate}
use Rattle.lists.specs.Words.{splice, rep, how_many}
use Rattle.chip.specs.Figures.{layout_of, virtuals, sectors, save_len, from_len, by_chip, records}
use Rattle.mapping.specs.declared.Block.{Block}
use Rattle.mapping.specs.declared.Condition.{Condition}
use Rattle.mapping.specs.declared.Condition.TheVariants.{Free, Clean, Changed}
use Rattle.mapping.specs.declared.Mapping.{Mapping}

-- "one of three conditions: free, clean, or changed since the last commit"
abbrev pub is_free : Condition → Bool
is_free Free = true
is_free Clean = false
is_free Changed = false

-- "for each block, a physical number, a count and one of three conditions"
abbrev pub block_of : ℕ → ℕ → Condition → Block
block_of n k d = record { physical = record { 0 = n }; count = k; condition = d }

-- zero, and free
abbrev pub no_block : Block
no_block = block_of 0 0 Free

-- a mapping from its three parts
abbrev pub mapping_of : ℕ → List Block → List ℕ → Mapping
mapping_of n bs ts = record { len = n; blocks = bs; tickets = ts }

-- "the blank mapping: length 0, all numbers zero, all free"
unfoldable pub blank : Mapping
blank = mapping_of 0 (replicate records no_block) (rep (records * sectors) 0)

-- the record of virtual block v, and its parts
abbrev pub block_at : Mapping → ℕ → Block
block_at m v = get_or m.blocks v no_block

abbrev pub number_at : Mapping → ℕ → ℕ
number_at m v = (block_at m v).physical.0

abbrev pub count_at : Mapping → ℕ → ℕ
count_at m v = (block_at m v).count

abbrev pub free_at : Mapping → ℕ → Bool
free_at m v = is_free (block_at m v).condition

-- block v becomes b
unfoldable pub with_block : Mapping → ℕ → Block → Mapping
with_block m v b = mapping_of m.len (set m.blocks v b) m.tickets

-- the tickets of block v become t
unfoldable pub with_tickets : Mapping → ℕ → List ℕ → Mapping
with_tickets m v t = mapping_of m.len m.blocks (splice m.tickets (v * sectors) t)

-- "`len` gives the save bytes of the mapping's length, and 0 for a length that isn't one of the three"
unfoldable pub len_of : Mapping → ℕ
len_of m = by_chip (from_len m.len) (λ k. save_len (layout_of k)) 0

-- the number of in-use blocks among the first V
unfoldable pub in_use_of : Mapping → ℕ
in_use_of m = by_chip (from_len m.len) (λ k. how_many (λ v. not (free_at m v)) (virtuals (layout_of k))) 0
