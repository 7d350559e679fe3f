-- An allowed entry leaves a mapping in good order. Its numbers are the old ones with those of v and w exchanged, and an
-- exchange is its own inverse, so that they stay apart; v is clean afterwards and w free without tickets; both lie below V,
-- and every other record stays. Assumes nothing.
use mathlib.Core.Path.{◌≡◌, sym, ap, ◌∙◌}
use mathlib.Core.Bool.{Bool, true, ◌&&◌}
use mathlib.Core.List.{List}
use Prim.Native.Nat.{ℕ, ◌+◌, ◌*◌, ◌/◌, ◌%◌, ◌≤◌, ◌<◌}
use native.Mathlib.Decide.{ℕ_discrete}
use native.Mathlib.Omega.{arith}
use borrow.Author.Tests.{eqb-true, eq-eqb, ne_eqb, ltb-true}
use lib.Dec.{eqb, ltb}
use lib.ListN.{length, get_or, get_or-eq_default}
use Rattle.lists.specs.Words.{pick}
use Rattle.lists.proofs.Orders.{split, by_test, not_both}
use Rattle.lists.proofs.Tests.{and_left, and_right}
use Rattle.chip.specs.Figures.{Layout, virtuals, sectors, records}
use Rattle.mapping.specs.declared.Block.{Block}
use Rattle.mapping.specs.declared.Condition.{Condition}
use Rattle.mapping.specs.declared.Condition.TheVariants.{Free, Clean, Changed}
use Rattle.mapping.specs.declared.Mapping.{Mapping}
use Rattle.mapping.specs.Blocks.{is_free, no_block, block_at, number_at, free_at}
use Rattle.mapping.specs.Fits.{inside, Apart}
use Rattle.journal.specs.declared.Entry.{Entry}
use Rattle.journal.specs.Entries.{count_before, allowed, entry_ok, applied}
use Rattle.journal.specs.Moved.{Other, Moved}
use Rattle.journal.specs.Opened.{Opened}
use Rattle.journal.proofs.Relational.{applied_moved}

-- u with v and w exchanged
unfoldable swap : ℕ → ℕ → ℕ → ℕ
swap v w u = pick (eqb u v) w (pick (eqb u w) v u)

module _ (v w : ℕ) where
  swap_v : (u : ℕ) → u ≡ v → swap v w u ≡ w
  unfolding swap
  swap_v u e = rw (eq-eqb u v e)

  swap_w : (u : ℕ) → u ≡ w → swap v w u ≡ v
  unfolding swap
  swap_w u e = by_test (eqb u v) (λ t. rw t (sym e ∙ eqb-true u v t)) (λ t. rw (t, eq-eqb u w e))

  swap_other : (u : ℕ) → (u ≡ v → ⊥) → (u ≡ w → ⊥) → swap v w u ≡ u
  unfolding swap
  swap_other u c d = rw (ne_eqb u v c, ne_eqb u w d)

  -- twice is once back
  swap_twice : (u : ℕ) → swap v w (swap v w u) ≡ u
  swap_twice u = go (ℕ_discrete u v) (ℕ_discrete u w)
    where
      go : Dec (u ≡ v) → Dec (u ≡ w) → swap v w (swap v w u) ≡ u
      go (yes c) d = swap_w (swap v w u) (swap_v u c) ∙ sym c
      go (no c) (yes d) = swap_v (swap v w u) (swap_w u d) ∙ sym d
      go (no c) (no d) = ap (swap v w) (swap_other u c d) ∙ swap_other u c d

  swap_below : (n u : ℕ) → v < n → w < n → u < n → swap v w u < n
  swap_below n u hv hw hu = go (ℕ_discrete u v) (ℕ_discrete u w)
    where
      go : Dec (u ≡ v) → Dec (u ≡ w) → swap v w u < n
      go (yes c) d = rw (swap_v u c) hw
      go (no c) (yes d) = rw (swap_w u d) hv
      go (no c) (no d) = rw (swap_other u c d) hu

-- parts of a record
abbrev number : Block → ℕ
number b = b.physical.0

abbrev state : Block → Condition
state b = b.condition

abbrev vacant : Block → Bool
vacant b = is_free b.condition

clean_changed : Clean ≡ Changed → ⊥
clean_changed c = let x : ◌≡◌ {A = ℕ} 0 1 = cc in omega arith

free_changed : Free ≡ Changed → ⊥
free_changed c = let x : ◌≡◌ {A = ℕ} 0 1 = cc in omega arith

-- what step 5 asks, as facts
record Allowed (l : Layout) (a b : Block) (e : Entry) : Type 0 where
  v_below : e.v.0 < virtuals l
  w_below : e.w.0 < virtuals l
  v_number : a.physical.0 ≡ e.q.0
  w_number : b.physical.0 ≡ e.p.0

-- the nine parts of its test
pub record Nine (a b c d f g h i j : Bool) : Type 0 where
  pub first : a ≡ true
  pub second : b ≡ true
  pub third : c ≡ true
  pub fourth : d ≡ true
  pub fifth : f ≡ true
  pub sixth : g ≡ true
  pub seventh : h ≡ true
  pub eighth : i ≡ true
  pub ninth : j ≡ true

pub nine : (a b c d f g h i j : Bool) → ((a && b) && (c && d) && (f && g) && h && (i && j)) ≡ true → Nine a b c d f g h i j
nine a b c d f g h i j e =
    let m = and_left ((a && b) && (c && d) && (f && g) && h) (i && j) e in
    let n = and_left ((a && b) && (c && d) && (f && g)) h m in
    let k = and_left ((a && b) && (c && d)) (f && g) n in
    let r = and_right ((a && b) && (c && d)) (f && g) n in
    let x = and_left (a && b) (c && d) k in
    let y = and_right (a && b) (c && d) k in
    let z = and_right ((a && b) && (c && d) && (f && g) && h) (i && j) e in
    record {
      first = and_left a b x;
      second = and_right a b x;
      third = and_left c d y;
      fourth = and_right c d y;
      fifth = and_left f g r;
      sixth = and_right f g r;
      seventh = and_right ((a && b) && (c && d) && (f && g)) h m;
      eighth = and_left i j z;
      ninth = and_right i j z;
    }

allowed_facts : (l : Layout) (a b : Block) (e : Entry) → allowed l a b e ≡ true → Allowed l a b e
unfolding allowed
allowed_facts l a b e ok =
    let t = nine (ltb e.v.0 (virtuals l)) (ltb e.w.0 (virtuals l)) (inside l.p e.p.0)
    (inside l.p e.q.0) (eqb a.physical.0 e.q.0) (eqb b.physical.0 e.p.0)
    (is_free b.condition) (eqb a.count e.d) (count_before b.count e.c) ok in
    record {
      v_below = ltb-true _ _ t.first;
      w_below = ltb-true _ _ t.second;
      v_number = eqb-true _ _ t.fifth;
      w_number = eqb-true _ _ t.sixth;
    }

-- a record that is there has a number, so that V is at most 256
few : (l : Layout) (m : Mapping) → Opened l m → virtuals l ≤ records
few l m o =
    split (virtuals l) records (λ h. h)
    (λ h.
    let e : block_at m records ≡ no_block = get_or-eq_default m.blocks no_block (omega (arith, o.blocks_length)) in
    let d : number_at m records ≡ 0 = ap number e in
    absurd (omega (arith, o.numbers.low records h)))

-- a record below 256 is v's, or w's where that is another, or neither's
by_place {ℓ}
    : {X : Type ℓ} (e : Entry) (u : ℕ) → u < records
    → (u ≡ e.v.0 → X) → (u ≡ e.w.0 → (e.w.0 ≡ e.v.0 → ⊥) → X) → (Other e u → X) → X
by_place {X = X} e u h f g k = go (ℕ_discrete u e.v.0) (ℕ_discrete u e.w.0)
  where
    go : Dec (u ≡ e.v.0) → Dec (u ≡ e.w.0) → X
    go (yes c) d = f c
    go (no c) (yes d) = g d (λ x. c (d ∙ x))
    go (no c) (no d) = k (record { below = h; not_v = c; not_w = d })

module _
    (l : Layout) (m : Mapping) (e : Entry)
    (o : Opened l m)
    (a : Allowed l (block_at m e.v.0) (block_at m e.w.0) e) where
  -- v and w lie below V
  past_other : (u : ℕ) → virtuals l ≤ u → u < records → Other e u
  past_other u h b =
      record { below = b; not_v = λ c. omega (arith, a.v_below); not_w = λ c. omega (arith, a.w_below) }

  -- n is what the entry makes of m
  module _ (n : Mapping) (p : Moved l m e n) where
    -- the numbers of v and w are exchanged
    moved_number : (u : ℕ) → u < records → number_at n u ≡ number_at m (swap e.v.0 e.w.0 u)
    moved_number u h =
        by_place e u h
        (λ c. rw (swap_v e.v.0 e.w.0 u c, c) (ap number p.v_block ∙ sym a.w_number))
        (λ c d. rw (swap_w e.v.0 e.w.0 u c, c) (ap number (p.w_block d) ∙ sym a.v_number))
        (λ k. rw (swap_other e.v.0 e.w.0 u k.not_v k.not_w) (ap number (p.other_blocks u k)))

    moved_apart : Apart n (virtuals l)
    moved_apart =
        let sw : ℕ → ℕ = swap e.v.0 e.w.0 in
        let at : (u : ℕ) → u < virtuals l → number_at n u ≡ number_at m (sw u) =
        λ u h. moved_number u (omega (arith, few l m o)) in
        let in_v : (u : ℕ) → u < virtuals l → sw u < virtuals l =
        λ u h. swap_below e.v.0 e.w.0 (virtuals l) u a.v_below a.w_below h in
        record {
          low = λ u h. omega (arith, at u h, o.numbers.low (sw u) (in_v u h));
          high = λ u h. omega (arith, at u h, o.numbers.high (sw u) (in_v u h));
          apart = λ u t hu ht c.
              let s : number_at m (sw u) ≡ number_at m (sw t) = sym (at u hu) ∙ c ∙ at t ht in
              let d : sw u ≡ sw t = o.numbers.apart (sw u) (sw t) (in_v u hu) (in_v t ht) s in
              sym (swap_twice e.v.0 e.w.0 u) ∙ ap sw d ∙ swap_twice e.v.0 e.w.0 t;
        }

    moved_unchanged : (u : ℕ) → u < virtuals l → (block_at n u).condition ≡ Changed → ⊥
    moved_unchanged u h c =
        by_place e u (omega (arith, few l m o))
        (λ d. clean_changed (sym (ap state (ap (block_at n) d ∙ p.v_block)) ∙ c))
        (λ d k. free_changed (sym (ap state (ap (block_at n) d ∙ p.w_block k)) ∙ c))
        (λ k. o.unchanged u h (sym (ap state (p.other_blocks u k)) ∙ c))

    moved_past : (u : ℕ) → virtuals l ≤ u → block_at n u ≡ no_block
    moved_past u h =
        split records u
        (λ b. get_or-eq_default n.blocks no_block (omega (arith, p.blocks_length, o.blocks_length)))
        (λ b. p.other_blocks u (past_other u h b) ∙ o.past_blocks u h)

    moved_past_tickets : (j : ℕ) → virtuals l * sectors ≤ j → get_or n.tickets j 0 ≡ 0
    moved_past_tickets j h =
        split (records * sectors) j
        (λ b. get_or-eq_default n.tickets 0 (omega (arith, p.tickets_length, o.tickets_length)))
        (λ b.
        let d : j ≡ j / sectors * sectors + j % sectors = omega arith in
        let k : Other e (j / sectors) = past_other (j / sectors) (omega arith) (omega arith) in
        ap (λ (i : ℕ). get_or n.tickets i 0) d
        ∙ p.other_tickets (j / sectors) (j % sectors) k (omega arith)
        ∙ ap (λ (i : ℕ). get_or m.tickets i 0) (sym d)
        ∙ o.past_tickets j h)

    moved_large : l.large ≡ true → (j : ℕ) → get_or n.tickets j 0 ≡ 0
    moved_large t j = ap (λ (ts : List ℕ). get_or ts j 0) (p.large_tickets t) ∙ o.large_tickets t j

    moved_free
        : (u j : ℕ) → u < virtuals l → free_at n u ≡ true → j < sectors → get_or n.tickets (u * sectors + j) 0 ≡ 0
    moved_free u j h f b =
        by_test l.large
        (λ t. moved_large t (u * sectors + j))
        (λ t.
        by_place e u (omega (arith, few l m o))
        (λ d. absurd (not_both f (ap vacant (ap (block_at n) d ∙ p.v_block))))
        (λ d k. rw d (p.w_tickets t k j b))
        (λ k.
        p.other_tickets u j k b ∙ o.free_tickets u j h (sym (ap vacant (p.other_blocks u k)) ∙ f) b))

    moved_opened : Opened l n
    moved_opened =
        record {
          image = p.image ∙ o.image;
          blocks_length = p.blocks_length ∙ o.blocks_length;
          tickets_length = p.tickets_length ∙ o.tickets_length;
          numbers = moved_apart;
          unchanged = moved_unchanged;
          past_blocks = moved_past;
          past_tickets = moved_past_tickets;
          free_tickets = moved_free;
          large_tickets = moved_large;
        }

-- an allowed entry keeps a mapping in good order
pub applied_opened
    : (l : Layout) (m : Mapping) (e : Entry)
    → Opened l m → entry_ok l m e ≡ true → length e.tickets ≡ sectors → Opened l (applied l m e)
unfolding entry_ok
applied_opened l m e o ok et =
    let a = allowed_facts l (block_at m e.v.0) (block_at m e.w.0) e ok in
    let hv : e.v.0 < records = omega (arith, a.v_below, few l m o) in
    let hw : e.w.0 < records = omega (arith, a.w_below, few l m o) in
    moved_opened l m e o a (applied l m e)
    (applied_moved l m e o.blocks_length o.tickets_length hv hw et)
