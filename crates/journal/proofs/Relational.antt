-- `applied` is what `Moved` says of each block and ticket, and nothing else is: the stores' laws give each part of it, and
-- two mappings of which it holds agree at each index. Assumes nothing.
use mathlib.Core.Path.{◌≡◌, refl, sym, ap, subst, ◌∙◌}
use mathlib.Core.Bool.{true, false}
use mathlib.Core.List.{List}
use Prim.Native.Nat.{ℕ, ◌+◌, ◌*◌, ◌/◌, ◌%◌, ◌≤◌, ◌<◌}
use native.Mathlib.Decide.{ℕ_discrete}
use native.Mathlib.Omega.{arith}
use lib.ListN.{length, get_or, set, length-set, get_or-replicate}
use lib.Seq.{ext_get_or, get_or-set_same, get_or-set_other}
use Rattle.lists.specs.Words.{splice, rep}
use Rattle.lists.proofs.Orders.{by_test, not_both}
use Rattle.lists.proofs.Splice.{length-splice, get_or-splice_in, get_or-splice_out}
use Rattle.chip.specs.Figures.{Layout, sectors, records}
use Rattle.mapping.specs.declared.Block.{Block}
use Rattle.mapping.specs.declared.Condition.TheVariants.{Free, Clean}
use Rattle.mapping.specs.declared.Mapping.{Mapping}
use Rattle.mapping.specs.Blocks.{no_block, block_of, block_at, with_tickets}
use Rattle.journal.specs.declared.Entry.{Entry}
use Rattle.journal.specs.Entries.{applied}
use Rattle.journal.specs.Moved.{ticket_at, Other, Moved}
use Rattle.journal.proofs.Slots.{stored, applied_large, applied_small}

-- the tickets of one block, put among all
module _ (ts : List ℕ) (v : ℕ) (t : List ℕ) (size : length ts ≡ records * sectors) (eight : length t ≡ sectors) (hv : v < records) where
  room : v * sectors + length t ≤ length ts
  room = omega arith

  put_length : length (splice ts (v * sectors) t) ≡ records * sectors
  put_length = length-splice ts (v * sectors) t room ∙ size

  put_in : (j : ℕ) → j < sectors → get_or (splice ts (v * sectors) t) (v * sectors + j) 0 ≡ get_or t j 0
  put_in j h = get_or-splice_in ts (v * sectors) t j 0 room (omega arith)

  put_out
      : (u j : ℕ) → (u ≡ v → ⊥) → j < sectors
      → get_or (splice ts (v * sectors) t) (u * sectors + j) 0 ≡ get_or ts (u * sectors + j) 0
  put_out u j d h = get_or-splice_out ts (v * sectors) t (u * sectors + j) 0 room (λ a b. d (omega arith))

-- what v and w become
abbrev kept_v : Entry → Block
kept_v e = block_of e.p.0 e.c Clean

abbrev freed_w : Entry → Block
freed_w e = block_of e.q.0 e.d Free

module _
    (l : Layout) (m : Mapping) (e : Entry)
    (mb : length m.blocks ≡ records) (mt : length m.tickets ≡ records * sectors)
    (hv : e.v.0 < records) (hw : e.w.0 < records) where
  -- two mappings of which it holds are one
  pub moved_unique : (n o : Mapping) → Moved l m e n → Moved l m e o → n ≡ o
  moved_unique n o p q =
      λ i. record { len = (p.image ∙ sym q.image) i; blocks = blocks i; tickets = tickets i }
    where
      block : (u : ℕ) → u < records → Dec (u ≡ e.v.0) → Dec (u ≡ e.w.0) → block_at n u ≡ block_at o u
      block u h (yes d) w = rw d (p.v_block ∙ sym q.v_block)
      block u h (no c) (yes d) =
          let c2 : e.w.0 ≡ e.v.0 → ⊥ = λ f. c (d ∙ f) in
          rw d (p.w_block c2 ∙ sym (q.w_block c2))
      block u h (no c) (no d) =
          let k : Other e u = record { below = h; not_v = c; not_w = d } in
          p.other_blocks u k ∙ sym (q.other_blocks u k)

      ticket
          : l.large ≡ false → (u j : ℕ) → u < records → j < sectors → Dec (u ≡ e.v.0) → Dec (u ≡ e.w.0)
          → ticket_at n u j ≡ ticket_at o u j
      ticket f u j h k (yes d) w = rw d (p.v_tickets f j k ∙ sym (q.v_tickets f j k))
      ticket f u j h k (no c) (yes d) =
          let c2 : e.w.0 ≡ e.v.0 → ⊥ = λ g. c (d ∙ g) in
          rw d (p.w_tickets f c2 j k ∙ sym (q.w_tickets f c2 j k))
      ticket f u j h k (no c) (no d) =
          let x : Other e u = record { below = h; not_v = c; not_w = d } in
          p.other_tickets u j x k ∙ sym (q.other_tickets u j x k)

      blocks : n.blocks ≡ o.blocks
      blocks =
          ext_get_or no_block n.blocks o.blocks (p.blocks_length ∙ sym q.blocks_length)
          (λ u h. block u (omega (arith, p.blocks_length)) (ℕ_discrete u e.v.0) (ℕ_discrete u e.w.0))

      tickets : n.tickets ≡ o.tickets
      tickets =
          by_test l.large
          (λ t. p.large_tickets t ∙ sym (q.large_tickets t))
          (λ t.
          ext_get_or 0 n.tickets o.tickets (p.tickets_length ∙ sym q.tickets_length)
          (λ i h.
          let u : i / sectors < records = omega (arith, p.tickets_length) in
          let d : i ≡ i / sectors * sectors + i % sectors = omega arith in
          ap (λ (k : ℕ). get_or n.tickets k 0) d
          ∙ ticket t (i / sectors) (i % sectors) u (omega arith) (ℕ_discrete (i / sectors) e.v.0) (ℕ_discrete (i / sectors) e.w.0)
          ∙ ap (λ (k : ℕ). get_or o.tickets k 0) (sym d)))

  -- the blocks after both stores, w's and then v's
  abbrev after : List Block
  after = set (set m.blocks e.w.0 (freed_w e)) e.v.0 (kept_v e)

  after_length : length after ≡ length m.blocks
  after_length = length-set (set m.blocks e.w.0 (freed_w e)) e.v.0 (kept_v e) ∙ length-set m.blocks e.w.0 (freed_w e)

  after_v : get_or after e.v.0 no_block ≡ kept_v e
  after_v = get_or-set_same (set m.blocks e.w.0 (freed_w e)) e.v.0 (kept_v e) no_block (simp length-set (omega arith))

  after_w : (e.w.0 ≡ e.v.0 → ⊥) → get_or after e.w.0 no_block ≡ freed_w e
  after_w d =
      get_or-set_other (set m.blocks e.w.0 (freed_w e)) e.v.0 e.w.0 (kept_v e) no_block d
      ∙ get_or-set_same m.blocks e.w.0 (freed_w e) no_block (omega arith)

  after_other : (u : ℕ) → Other e u → get_or after u no_block ≡ block_at m u
  after_other u o =
      get_or-set_other (set m.blocks e.w.0 (freed_w e)) e.v.0 u (kept_v e) no_block o.not_v
      ∙ get_or-set_other m.blocks e.w.0 u (freed_w e) no_block o.not_w

  -- on a large chip no tickets change
  moved_large : l.large ≡ true → Moved l m e (stored l m e (freed_w e) (kept_v e) refl refl)
  moved_large t =
      record {
        image = refl;
        blocks_length = after_length;
        tickets_length = refl;
        other_blocks = after_other;
        other_tickets = λ u j o h. refl;
        v_block = after_v;
        v_tickets = λ f. absurd (not_both t f);
        w_block = after_w;
        w_tickets = λ f. absurd (not_both t f);
        large_tickets = λ f. refl;
      }

  module _ (et : length e.tickets ≡ sectors) where
    -- on a small chip w's tickets are stored and then v's
    moved_small
        : l.large ≡ false
        → Moved l m e
        (with_tickets (with_tickets (stored l m e (freed_w e) (kept_v e) refl refl) e.w.0 (rep sectors 0)) e.v.0
        e.tickets)
    unfolding with_tickets
    moved_small t =
        let zeros : length (rep sectors 0) ≡ sectors = refl in
        let ts : List ℕ = splice m.tickets (e.w.0 * sectors) (rep sectors 0) in
        let size : length ts ≡ records * sectors = put_length m.tickets e.w.0 (rep sectors 0) mt zeros hw in
        record {
          image = refl;
          blocks_length = after_length;
          tickets_length = put_length ts e.v.0 e.tickets size et hv ∙ sym mt;
          other_blocks = after_other;
          other_tickets = λ u j o h.
              put_out ts e.v.0 e.tickets size et hv u j o.not_v h
              ∙ put_out m.tickets e.w.0 (rep sectors 0) mt zeros hw u j o.not_w h;
          v_block = after_v;
          v_tickets = λ f j h. put_in ts e.v.0 e.tickets size et hv j h;
          w_block = after_w;
          w_tickets = λ f d j h.
              put_out ts e.v.0 e.tickets size et hv e.w.0 j d h
              ∙ put_in m.tickets e.w.0 (rep sectors 0) mt zeros hw j h
              ∙ get_or-replicate sectors j 0 0 h;
          large_tickets = λ f. absurd (not_both f t);
        }

    pub applied_moved : Moved l m e (applied l m e)
    applied_moved =
        by_test l.large
        (λ t. subst (λ (n : Mapping). Moved l m e n) (applied_large l m e (freed_w e) (kept_v e) refl refl t) (moved_large t))
        (λ t. subst (λ (n : Mapping). Moved l m e n) (applied_small l m e (freed_w e) (kept_v e) refl refl t) (moved_small t))

    pub moved_applied : (n : Mapping) → Moved l m e n → n ≡ applied l m e
    moved_applied n p = moved_unique n (applied l m e) p applied_moved
