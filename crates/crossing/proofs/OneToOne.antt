-- The crossing is one to one on the conditions 0 to 2: out and in again is the mapping that went out, and in and out again the
-- struct that came in, where its condition bytes are conditions. Both record by record. Assumes nothing.
use mathlib.Core.Path.{◌≡◌, refl, ap, sym, ◌∙◌}
use mathlib.Core.Bool.{true, false}
use mathlib.Core.List.{List, [], ◌∷◌, map}
use Prim.Native.Nat.{ℕ, zero, suc, ◌≤◌, ◌<◌}
use native.Mathlib.Omega.{arith}
use borrow.Author.Tests.{leb-true, le-leb}
use lib.Dec.{leb}
use lib.ListN.{length, get_or, get_or-map}
use Rattle.lists.proofs.Tests.{all_at, all_by}
use Rattle.chip.specs.Figures.{records}
use Rattle.mapping.specs.declared.Block.{Block}
use Rattle.mapping.specs.declared.Condition.{Condition}
use Rattle.mapping.specs.declared.Condition.TheVariants.{Free, Clean, Changed}
use Rattle.mapping.specs.declared.Mapping.{Mapping}
use Rattle.mapping.specs.Blocks.{no_block, len_of, blank}
use Rattle.crossing.specs.declared.CBlock.{CBlock}
use Rattle.crossing.specs.declared.CMapping.{CMapping}
use Rattle.crossing.specs.Crossing.{condition_no, condition_of, block_c, block_from_c, to_c, from_c, no_block_c, known_at, known, len_c}

-- a condition out and in again
condition_back : (d : Condition) → condition_of (condition_no d) ≡ d
condition_back Free = refl
condition_back Clean = refl
condition_back Changed = refl

-- a block's record out and in again, and all of them
block_back : (b : Block) → block_from_c (block_c b) ≡ b
block_back b = λ i. record { physical = b.physical; count = b.count; condition = condition_back b.condition i }

blocks_back : (bs : List Block) → map block_from_c (map block_c bs) ≡ bs
blocks_back [] = refl
blocks_back (b ∷ bs) = λ i. block_back b i ∷ blocks_back bs i

-- every condition byte that goes out is a condition
number_low : (d : Condition) → condition_no d ≤ condition_no Changed
number_low Free = omega arith
number_low Clean = omega arith
number_low Changed = omega arith

pub sent_known : (m : Mapping) → known (to_c m).blocks ≡ true
unfolding known to_c
sent_known m =
    all_by (known_at (to_c m).blocks) records
    (λ v l. ap (λ (b : CBlock). leb b.condition (condition_no Changed)) (get_or-map block_c m.blocks v no_block)
    ∙ le-leb _ _ (number_low (get_or m.blocks v no_block).condition))

-- a mapping out and in again
pub back : (m : Mapping) → from_c (to_c m) ≡ m
unfolding from_c to_c
back m = rw (sent_known m) (λ i. record { len = m.len; blocks = blocks_back m.blocks i; tickets = m.tickets })

-- so two mappings that go out as the same struct are the same
pub apart : (m n : Mapping) → to_c m ≡ to_c n → m ≡ n
apart m n e = sym (back m) ∙ ap from_c e ∙ back n

-- a condition byte in and out again
condition_there : (n : ℕ) → n ≤ condition_no Changed → condition_no (condition_of n) ≡ n
condition_there zero h = refl
condition_there (suc zero) h = refl
condition_there (suc (suc zero)) h = refl
condition_there (suc (suc (suc n))) h = absurd (omega arith)

-- a block's record in and out again, and all of them
block_there : (b : CBlock) → b.condition ≤ condition_no Changed → block_c (block_from_c b) ≡ b
block_there b h = λ i. record { physical = b.physical; count = b.count; condition = condition_there b.condition h i }

blocks_there
    : (bs : List CBlock)
    → ((v : ℕ) → v < length bs → (get_or bs v no_block_c).condition ≤ condition_no Changed)
    → map block_c (map block_from_c bs) ≡ bs
blocks_there [] h = refl
blocks_there (b ∷ bs) h = λ i. block_there b (h 0 (omega arith)) i ∷ blocks_there bs (λ v l. h (suc v) (omega arith)) i

-- a struct in and out again
pub there : (c : CMapping) → length c.blocks ≡ records → known c.blocks ≡ true → to_c (from_c c) ≡ c
unfolding from_c to_c known
there c n k = rw k (λ i. record { len = c.len; blocks = kept i; tickets = c.tickets })
  where
    kept : map block_c (map block_from_c c.blocks) ≡ c.blocks
    kept =
        blocks_there c.blocks
        (λ v l. leb-true (get_or c.blocks v no_block_c).condition (condition_no Changed) (all_at (known_at c.blocks) records v k (omega (arith, n))))

-- `lw_len` gives what `len` gives of the mapping that comes in
pub len_same : (c : CMapping) → known c.blocks ≡ true → len_c c ≡ len_of (from_c c)
unfolding len_c len_of from_c
len_same c k = rw k

-- a struct with a byte that is no condition comes in as the blank mapping
pub unknown_blank : (c : CMapping) → known c.blocks ≡ false → from_c c ≡ blank
unfolding from_c
unknown_blank c k = rw k
