-- Facts about the map that the code's tests need: a large chip has no tickets, a record of zeros is the blank one, and the
-- tests on a number and on the flags are those of step 3. Assumes nothing.
use mathlib.Core.Path.{◌≡◌, refl, sym, ◌∙◌}
use mathlib.Core.Bool.{Bool, true, false, not, ◌&&◌, ◌||◌, or-true}
use mathlib.Core.List.{List}
use Prim.Native.Nat.{ℕ, ◌+◌, ◌*◌, ◌<◌, ◌≤◌}
use borrow.Author.Tests.{lt-ltb, le-ltb, le-leb, lt-leb}
use lib.Dec.{leb, ltb}
use lib.ListN.{get_or, set}
use Rattle.lists.specs.Words.{pick, tabulate, rep}
use Rattle.lists.proofs.Orders.{split}
use Rattle.lists.proofs.Tabulate.{get_or-tabulate, tabulate_same}
use Rattle.chip.specs.Figures.{Layout, virtuals, sectors, records}
use Rattle.mapping.specs.declared.Block.{Block}
use Rattle.mapping.specs.declared.Condition.TheVariants.{Free}
use Rattle.mapping.specs.declared.Mapping.{Mapping}
use Rattle.mapping.specs.Blocks.{number_at, no_block}
use Rattle.mapping.specs.Fits.{inside, appeared, placed}
use Rattle.mapping.proofs.Onto.{seen_more}
use Rattle.block_map.specs.Items.{item_ticket, ticket_entry}

pub no_tickets : (l : Layout) (z : List ℕ) (j : ℕ) → l.large ≡ true → ticket_entry l z j ≡ 0
unfolding item_ticket
no_tickets l z j e = rw e (go (ltb j (virtuals l * sectors)))
  where
    go : (t : Bool) → ◌≡◌ {A = ℕ} (pick t 0 0) 0
    go true = refl
    go false = refl

-- so a table of them is zeros
pub bare
    : (l : Layout) (z : List ℕ) (b : Bool)
    → b ≡ l.large → b ≡ true → rep (records * sectors) 0 ≡ tabulate (ticket_entry l z) (records * sectors)
bare l z b e t =
    tabulate_same {A = ℕ} (ticket_entry l z) (records * sectors) 0 (λ j h. no_tickets l z j (sym e ∙ t))

-- what `Block::default` ensures, field by field
pub blank_block : (b : Block) → (b.physical.0 ≡ 0) × ((b.count ≡ 0) × (b.condition ≡ Free)) → b ≡ no_block
blank_block b h = λ i. record { physical = record { 0 = h.0 i }; count = h.1.0 i; condition = h.1.1 i }

-- n is the number of block i, and the flags are those of the blocks before it
module _ (m : Mapping) (i n : ℕ) (seen : List Bool) (is : n ≡ number_at m i) (fits : n < records) (flags : seen ≡ tabulate (appeared m i) records) where
  pub flag_more : set seen n true ≡ tabulate (appeared m (i + 1)) records
  flag_more = rw (flags, is) (seen_more m i (rw is at fits))

  module _ (p : ℕ) where
    -- below 1 or at least p, or seen before: not placed
    tests : (ltb n 1 || leb p n || get_or seen n false) ≡ not (placed p m i)
    unfolding placed
    tests = rw (← is, flags, get_or-tabulate (appeared m i) records n false fits) (go (appeared m i n))
      where
        low : leb 1 n ≡ not (ltb n 1)
        low = split 1 n (λ q. rw (le-leb 1 n q, le-ltb n 1 q)) (λ q. rw (lt-leb 1 n q, lt-ltb n 1 q))

        high : ltb n p ≡ not (leb p n)
        high = split p n (λ q. rw (le-leb p n q, le-ltb n p q)) (λ q. rw (lt-leb p n q, lt-ltb n p q))

        negated : (a b c : Bool) → (a || b || c) ≡ not (not a && not b && not c)
        negated true b c = refl
        negated false true c = refl
        negated false false true = refl
        negated false false false = refl

        go : (c : Bool) → (ltb n 1 || leb p n || c) ≡ not (inside p n && not c)
        go c = negated (ltb n 1) (leb p n) c ∙ rw (low, high)

    pub bad_low : n < 1 → not (placed p m i) ≡ true
    bad_low q = sym tests ∙ rw (lt-ltb n 1 q)

    pub bad_high : p ≤ n → not (placed p m i) ≡ true
    bad_high q = sym tests ∙ rw (le-leb p n q, or-true (ltb n 1))

    pub bad_again : get_or seen n false ≡ true → not (placed p m i) ≡ true
    bad_again q = sym tests ∙ rw (q, or-true (ltb n 1 || leb p n))

    pub good : 1 ≤ n → n < p → get_or seen n false ≡ false → not (placed p m i) ≡ false
    good a b c = sym tests ∙ rw (le-ltb n 1 a, lt-leb p n b, c)

-- so of the number that block i has: below 1 or at least p, or seen before, it is not placed
pub test_placed
    : (m : Mapping) (p i : ℕ) (seen : List Bool)
    → seen ≡ tabulate (appeared m i) records
    → number_at m i < records
    → (ltb (number_at m i) 1 || leb p (number_at m i) || get_or seen (number_at m i) false) ≡ not (placed p m i)
test_placed m p i seen e h = tests m i (number_at m i) seen refl h e p
