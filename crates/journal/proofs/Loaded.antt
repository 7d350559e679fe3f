-- The mapping that the map holds is in good order once step 3 finds no bad number: a search that finds nothing means that
-- each number is placed, and a table's elements are the items, of which none is changed and no free one has tickets. Past
-- V the table holds blank records. Assumes nothing.
use Rattle.std.specs.Prelude.{None}
use mathlib.Core.Path.{◌≡◌, refl, sym, ap, ◌∙◌}
use mathlib.Core.Bool.{Bool, true, false, not, and-false}
use mathlib.Core.List.{List}
use Prim.Native.Nat.{ℕ, ◌+◌, ◌*◌, ◌/◌, ◌<◌}
use native.Mathlib.Omega.{arith}
use borrow.Author.Tests.{lt-ltb, le-ltb, not-false}
use lib.Dec.{leb, ltb}
use lib.ListN.{length, get_or, get_or-eq_default}
use Rattle.lists.specs.Words.{pick}
use Rattle.lists.proofs.Orders.{split, by_test, not_both}
use Rattle.lists.proofs.Tests.{all_by}
use Rattle.lists.proofs.Tabulate.{length-tabulate, get_or-tabulate}
use Rattle.chip.specs.Figures.{Layout, virtuals, sectors, in_use_bit, records}
use Rattle.chip.proofs.Layouts.{Sound}
use Rattle.mapping.specs.declared.Block.{Block}
use Rattle.mapping.specs.declared.Condition.TheVariants.{Free, Clean, Changed}
use Rattle.mapping.specs.declared.Mapping.{Mapping}
use Rattle.mapping.specs.Blocks.{is_free, no_block, block_at}
use Rattle.mapping.specs.Fits.{placed, each_once}
use Rattle.answers.proofs.Searches.{first_none}
use Rattle.mapping.proofs.Onto.{once_apart}
use Rattle.block_map.specs.Items.{item_at, item_condition, decoded, item_block, item_ticket, block_entry, ticket_entry, loaded, bad_number}
use Rattle.block_map.proofs.Maps.{no_tickets}
use Rattle.journal.specs.Opened.{Opened}

-- step 3 finds no number where all are placed
none_once : (l : Layout) (m : Mapping) → bad_number l m ≡ None → each_once l m ≡ true
unfolding bad_number
none_once l m e =
    all_by (placed l.p m) (virtuals l)
    (λ v h. not-false _ (first_none (λ u. not (placed l.p m u)) 0 (virtuals l) e v (omega arith) (omega arith)))

-- an item's condition is its in-use bit
decoded_condition : (l : Layout) (a b : ℕ) → (decoded l a b).condition ≡ item_condition a
unfolding decoded
decoded_condition l a b = by_test l.large (λ t. simp t) (λ t. simp t)

not_changed : (t : Bool) → pick t Clean Free ≡ Changed → ⊥
not_changed true e = let x : ◌≡◌ {A = ℕ} 0 1 = cc in omega arith
not_changed false e = let x : ◌≡◌ {A = ℕ} 0 1 = cc in omega arith

free_bit : (t : Bool) → is_free (pick t Clean Free) ≡ true → t ≡ false
free_bit true e = absurd (not_both e refl)
free_bit false e = refl

module _ (l : Layout) (s : Sound l) (z : List ℕ) where
  few : virtuals l < records
  few = omega (arith, s.some, s.few)

  abbrev used : ℕ → Bool
  used v = leb in_use_bit (get_or z (item_at l v) 0)

  table_block : (v : ℕ) → v < records → block_at (loaded l z) v ≡ block_entry l z v
  unfolding loaded
  table_block v h = get_or-tabulate (block_entry l z) records v no_block h

  table_ticket : (j : ℕ) → j < records * sectors → get_or (loaded l z).tickets j 0 ≡ ticket_entry l z j
  unfolding loaded
  table_ticket j h = get_or-tabulate (ticket_entry l z) (records * sectors) j 0 h

  blocks_size : length (loaded l z).blocks ≡ records
  unfolding loaded
  blocks_size = length-tabulate (block_entry l z) records

  tickets_size : length (loaded l z).tickets ≡ records * sectors
  unfolding loaded
  tickets_size = length-tabulate (ticket_entry l z) (records * sectors)

  -- below V a record is its item's, with the item's in-use bit
  loaded_item : (v : ℕ) → v < virtuals l → block_at (loaded l z) v ≡ item_block l z v
  loaded_item v h = table_block v (omega (arith, few)) ∙ rw (lt-ltb v (virtuals l) h)

  loaded_condition : (v : ℕ) → v < virtuals l → (block_at (loaded l z) v).condition ≡ pick (used v) Clean Free
  unfolding item_block
  loaded_condition v h =
      ap (λ (b : Block). b.condition) (loaded_item v h)
      ∙ decoded_condition l (get_or z (item_at l v) 0) (get_or z (item_at l v + 1) 0)

  -- the tickets of a free item are not read
  free_zero : (v i : ℕ) → i / sectors ≡ v → used v ≡ false → ticket_entry l z i ≡ 0
  unfolding item_ticket
  free_zero v i e f =
      rw (e, f, and-false (not l.large)) (go (ltb i (virtuals l * sectors)))
    where
      go : (t : Bool) → ◌≡◌ {A = ℕ} (pick t 0 0) 0
      go true = refl
      go false = refl

  -- step 3 accepts only mappings in good order
  pub loaded_opened : bad_number l (loaded l z) ≡ None → Opened l (loaded l z)
  unfolding loaded
  loaded_opened e =
      record {
        image = refl;
        blocks_length = blocks_size;
        tickets_length = tickets_size;
        numbers = once_apart (loaded l z) l (omega (arith, s.some)) (none_once l (loaded l z) e);
        unchanged = λ v h c. not_changed (used v) (sym (loaded_condition v h) ∙ c);
        past_blocks = λ u h.
            split records u
            (λ p. get_or-eq_default (loaded l z).blocks no_block (omega (arith, blocks_size)))
            (λ p. table_block u p ∙ rw (le-ltb u (virtuals l) h));
        past_tickets = λ j h.
            split (records * sectors) j
            (λ p. get_or-eq_default (loaded l z).tickets 0 (omega (arith, tickets_size)))
            (λ p. table_ticket j p ∙ rw (le-ltb j (virtuals l * sectors) h));
        free_tickets = λ v j h f b.
            table_ticket (v * sectors + j) (omega (arith, few))
            ∙ free_zero v (v * sectors + j) (omega arith) (free_bit (used v) (sym (ap is_free (loaded_condition v h)) ∙ f));
        large_tickets = λ t j.
            split (records * sectors) j
            (λ p. get_or-eq_default (loaded l z).tickets 0 (omega (arith, tickets_size)))
            (λ p. table_ticket j p ∙ no_tickets l z j t);
      }
