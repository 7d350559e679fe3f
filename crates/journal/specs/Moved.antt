-- What an applied entry changes, said a second time and not as stores: each block and each ticket of the mapping n, as the
-- entry e makes it of m. For v ≠ w two blocks change and for v = w one; all others stay. Assumes nothing.
use Rattle.std.specs.Prelude.{◌≡◌, true, false, ℕ, ◌+◌, ◌*◌, ◌<◌, length, get_or}
use Rattle.chip.specs.Figures.{Layout, sectors, records}
use Rattle.mapping.specs.declared.Condition.TheVariants.{Free, Clean}
use Rattle.mapping.specs.declared.Mapping.{Mapping}
use Rattle.mapping.specs.Blocks.{block_of, block_at}
use Rattle.journal.specs.declared.Entry.{Entry}

-- ticket j of block u
abbrev pub ticket_at : Mapping → ℕ → ℕ → ℕ
ticket_at m u j = get_or m.tickets (u * sectors + j) 0

-- neither v nor w
pub record Other (e : Entry) (u : ℕ) : Type 0 where
  pub below : u < records
  pub not_v : u ≡ e.v.0 → ⊥
  pub not_w : u ≡ e.w.0 → ⊥

pub record Moved (l : Layout) (m : Mapping) (e : Entry) (n : Mapping) : Type 0 where
  -- the image is the same one, and there are as many records and tickets
  pub image : n.len ≡ m.len
  pub blocks_length : length n.blocks ≡ length m.blocks
  pub tickets_length : length n.tickets ≡ length m.tickets
  -- every block but v and w, with its tickets
  pub other_blocks : (u : ℕ) → Other e u → block_at n u ≡ block_at m u
  pub other_tickets : (u j : ℕ) → Other e u → j < sectors → ticket_at n u j ≡ ticket_at m u j
  -- "v gets number p, count c, in use, and on small chips the entry's tickets"
  pub v_block : block_at n e.v.0 ≡ block_of e.p.0 e.c Clean
  pub v_tickets : l.large ≡ false → (j : ℕ) → j < sectors → ticket_at n e.v.0 j ≡ get_or e.tickets j 0
  -- "w gets number q, count d, free, tickets zero", where it is not v, which comes after it
  pub w_block : (e.w.0 ≡ e.v.0 → ⊥) → block_at n e.w.0 ≡ block_of e.q.0 e.d Free
  pub w_tickets : l.large ≡ false → (e.w.0 ≡ e.v.0 → ⊥) → (j : ℕ) → j < sectors → ticket_at n e.w.0 j ≡ 0
  -- a large chip has no tickets, and none change
  pub large_tickets : l.large ≡ true → n.tickets ≡ m.tickets
