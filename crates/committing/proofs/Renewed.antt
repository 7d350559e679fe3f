-- The tables of a commit, below a loop's end as it puts them and from there on as they came, are those of the definition: on a
-- small chip the two tests that decide on a new ticket are one, and on a large chip none is decided on. The lists that the loops
-- end with are these tables, entry by entry. Assumes nothing.
use mathlib.Core.Path.{◌≡◌, refl, sym, ◌∙◌}
use mathlib.Core.Bool.{Bool, true, false, ◌&&◌}
use mathlib.Core.List.{List}
use Prim.Native.Nat.{ℕ, ◌+◌, ◌-◌, ◌*◌, ◌/◌, ◌%◌, ◌<◌, ◌≤◌}
use native.Mathlib.Omega.{arith}
use borrow.Author.Tests.{lt-ltb, le-ltb}
use lib.Dec.{ltb}
use lib.ListN.{length, get_or, take, drop}
use Rattle.std.specs.Prelude.{◌++◌}
use Rattle.std.proofs.lemmas.List.{length-take-le, length-append, length-drop, get_or_append_left, get_or-append_right, get_or-drop}
use Rattle.lists.proofs.Orders.{split}
use Rattle.lists.specs.Words.{pick, tabulate}
use Rattle.lists.proofs.Tabulate.{front, tabulate_ext, tabulate_list}
use Rattle.chip.specs.Figures.{Layout, virtuals, sectors, records}
use Rattle.mapping.specs.declared.Block.{Block}
use Rattle.mapping.specs.declared.Mapping.{Mapping}
use Rattle.mapping.specs.Blocks.{no_block, block_at, number_at}
use Rattle.tickets.specs.Tickets.{ticket_in}
use Rattle.committing.specs.Committed.{is_changed, cleaned, summed, settled_record, new_ticket}

-- the ticket that sector s of a small chip's blocks has after a commit
abbrev pub ticket_over : List ℕ → Mapping → ℕ → ℕ
ticket_over image m s =
    pick (is_changed (block_at m (s / sectors)).condition) (ticket_in image (number_at m (s / sectors)) (s % sectors)) (get_or m.tickets s 0)

-- the table of the loop over the records is the commit's
pub new_records
    : (l : Layout) (m : Mapping)
    → tabulate (front (virtuals l) (λ v. cleaned (block_at m v)) (block_at m)) records ≡ tabulate (settled_record l m) records
unfolding settled_record
new_records l m = refl

-- a part that has been gone through, i records and so all, and the records after it are the table of the commit
pub records_settled
    : (l : Layout) (m : Mapping) (part : List Block) (v i : ℕ)
    → length m.blocks ≡ records → v ≡ virtuals l → v ≤ records → length part ≡ length (take v m.blocks) → length (take v m.blocks) ≤ i
    → ((k : ℕ) → k < i → get_or part k no_block ≡ cleaned (block_at m k))
    → part ++ drop v m.blocks ≡ tabulate (settled_record l m) records
records_settled l m part v i n e h p q at =
    let t : length (take v m.blocks) ≡ v = length-take-le v m.blocks (omega arith) in
    sym (tabulate_list (front (virtuals l) (λ u. cleaned (block_at m u)) (block_at m)) records (part ++ drop v m.blocks) no_block
    (simp (length-append, length-drop) (omega arith))
    (λ j r.
    split v j
    (λ s.
    let d : v + (j - v) ≡ j = omega arith in
    rw (← e, le-ltb j v s, get_or-append_right part (drop v m.blocks) v j no_block (omega arith) s, get_or-drop, d))
    (λ s. rw (← e, lt-ltb j v s) (sym (get_or_append_left part (drop v m.blocks) no_block j (omega arith) ∙ at j (omega arith))))))
    ∙ new_records l m

-- one of two values by two tests
nested : (t u : Bool) (a b : ℕ) → pick t (pick u a b) b ≡ pick (t && u) a b
nested true u a b = refl
nested false u a b = refl

module _ (l : Layout) (image : List ℕ) (m : Mapping) where
  -- on a small chip the loop's table is the commit's
  pub new_small
      : l.large ≡ false
      → tabulate {A = ℕ} (front (virtuals l * sectors) (ticket_over image m) (λ i. get_or m.tickets i 0)) (records * sectors)
      ≡ tabulate (new_ticket l image m) (records * sectors)
  unfolding new_ticket summed
  new_small e =
      tabulate_ext {A = ℕ} (front (virtuals l * sectors) (ticket_over image m) (λ i. get_or m.tickets i 0)) (new_ticket l image m) (records * sectors)
      (λ i h. rw e (nested (ltb i (virtuals l * sectors)) (is_changed (block_at m (i / sectors)).condition) _ _))

  -- and so the tickets that a loop has gone through up to the last are that table
  pub tickets_renewed
      : (tickets : List ℕ) (n : ℕ)
      → l.large ≡ false → length tickets ≡ records * sectors → n ≡ virtuals l * sectors
      → ((k : ℕ) → k < n → get_or tickets k 0 ≡ ticket_over image m k)
      → ((k : ℕ) → n ≤ k → get_or tickets k 0 ≡ get_or m.tickets k 0)
      → tickets ≡ tabulate (new_ticket l image m) (records * sectors)
  tickets_renewed tickets n f size e below above =
      sym (tabulate_list {A = ℕ} (front (virtuals l * sectors) (ticket_over image m) (λ i. get_or m.tickets i 0)) (records * sectors)
      tickets 0 size
      (λ i h. rw (← e)
      (split n i
      (λ q. rw (le-ltb i n q) (sym (above i q)))
      (λ q. rw (lt-ltb i n q) (sym (below i q))))))
      ∙ new_small f

  -- on a large chip every ticket stays
  pub new_large : l.large ≡ true → (s : ℕ) → new_ticket l image m s ≡ get_or m.tickets s 0
  unfolding new_ticket summed
  new_large e s = rw e

  -- and so the tickets as they came are the table
  pub kept_large
      : (tickets : List ℕ)
      → l.large ≡ true → length tickets ≡ records * sectors → ((k : ℕ) → get_or tickets k 0 ≡ get_or m.tickets k 0)
      → tickets ≡ tabulate (new_ticket l image m) (records * sectors)
  kept_large tickets e size same =
      sym (tabulate_list (new_ticket l image m) (records * sectors) tickets 0 size (λ i h. new_large e i ∙ sym (same i)))
