-- Mappings of which a map keeps everything: each is its own settled form, and the fresh mapping is one, so that a formatted
-- block zero reads back as the fresh mapping. Assumes nothing.
use mathlib.Core.Path.{◌≡◌, refl, sym, ap, ◌∙◌}
use mathlib.Core.Bool.{Bool, true, false}
use mathlib.Core.List.{List}
use Prim.Native.Nat.{ℕ, ◌+◌, ◌*◌, ◌/◌, ◌<◌, ◌≤◌}
use native.Mathlib.Omega.{arith}
use borrow.Author.Tests.{lt-ltb, le-ltb}
use lib.ListN.{length, take, drop, get_or, length-replicate, get_or-replicate}
use lib.Seq.{ext_get_or, get_or-take, length-take-le}
use Rattle.lists.specs.Words.{pick, up_to, tabulate, splice, rep}
use Rattle.lists.proofs.Orders.{split, by_test}
use Rattle.lists.proofs.Tabulate.{length-tabulate, get_or-tabulate, tabulate_list}
use Rattle.lists.proofs.Splice.{length-splice, get_or-splice_at, get_or-splice_out}
use Rattle.lists.proofs.Windows.{drop_ext}
use Rattle.chip.specs.Figures.{Layout, virtuals, block_len, sectors, image_len, header_len, small_item, map_len, records}
use Rattle.chip.proofs.Layouts.{Sound, map_fits}
use Rattle.mapping.specs.declared.Block.{Block}
use Rattle.mapping.specs.declared.Condition.{Condition}
use Rattle.mapping.specs.declared.Condition.TheVariants.{Free, Clean, Changed}
use Rattle.mapping.specs.declared.Mapping.{Mapping}
use Rattle.mapping.specs.Blocks.{is_free, block_of, no_block, block_at, number_at, count_at}
use Rattle.block_map.specs.Items.{loaded, sum_holds}
use Rattle.block_zero.specs.Put.{settled_block, keeps_tickets, settled_ticket, settled, fresh_entry, fresh, formatted}
use Rattle.block_zero.proofs.Puts.{items_fit}
use Rattle.block_zero.proofs.RoundTrip.{put_length, put_behind, put_header, put_padding, put_loaded, put_sum}

-- nothing in it that a map would not keep
pub record Settled (l : Layout) (m : Mapping) : Type 0 where
  pub len : m.len ≡ image_len l
  pub blocks : length m.blocks ≡ records
  pub tickets : length m.tickets ≡ records * sectors
  pub unchanged : (v : ℕ) → v < virtuals l → (block_at m v).condition ≡ Changed → ⊥
  pub blank : (v : ℕ) → virtuals l ≤ v → v < records → block_at m v ≡ no_block
  pub bare : (j : ℕ) → j < virtuals l * sectors → keeps_tickets l m (j / sectors) ≡ false → get_or m.tickets j 0 ≡ 0
  pub none : (j : ℕ) → virtuals l * sectors ≤ j → j < records * sectors → get_or m.tickets j 0 ≡ 0

condition_same : (d : Condition) → (d ≡ Changed → ⊥) → pick (is_free d) Free Clean ≡ d
condition_same Free h = refl
condition_same Clean h = refl
condition_same Changed h = absurd (h refl)

free_unchanged : Free ≡ Changed → ⊥
free_unchanged e = let z : ◌≡◌ {A = ℕ} 0 1 = cc in omega arith

module _ (l : Layout) (m : Mapping) (s : Settled l m) where
  block_same : (v : ℕ) → v < records → up_to (virtuals l) (settled_block m) no_block v ≡ block_at m v
  block_same v h =
      split (virtuals l) v
      (λ p. rw (le-ltb v (virtuals l) p) (sym (s.blank v p h)))
      (λ p.
      rw (lt-ltb v (virtuals l) p)
      (ap (λ (d : Condition). block_of (number_at m v) (count_at m v) d) (condition_same (block_at m v).condition (s.unchanged v p))))

  ticket_same : (j : ℕ) → j < records * sectors → up_to (virtuals l * sectors) (settled_ticket l m) 0 j ≡ get_or m.tickets j 0
  ticket_same j h =
      split (virtuals l * sectors) j
      (λ p. rw (le-ltb j (virtuals l * sectors) p) (sym (s.none j p h)))
      (λ p.
      rw (lt-ltb j (virtuals l * sectors) p)
      (by_test (keeps_tickets l m (j / sectors)) (λ e. rw e) (λ e. rw e (sym (s.bare j p e)))))

  pub settled_same : settled l m ≡ m
  unfolding settled
  settled_same =
      let p : image_len l ≡ m.len = sym s.len in
      let q : tabulate (up_to (virtuals l) (settled_block m) no_block) records ≡ m.blocks =
      tabulate_list (up_to (virtuals l) (settled_block m) no_block) records m.blocks no_block s.blocks block_same in
      let r : tabulate (up_to (virtuals l * sectors) (settled_ticket l m) 0) (records * sectors) ≡ m.tickets =
      tabulate_list {A = ℕ} (up_to (virtuals l * sectors) (settled_ticket l m) 0) (records * sectors) m.tickets 0 s.tickets ticket_same in
      λ i. record { len = p i; blocks = q i; tickets = r i }

module _ (l : Layout) (s : Sound l) where
  fresh_tickets : length (fresh l).tickets ≡ records * sectors
  unfolding fresh
  fresh_tickets = length-replicate {A = ℕ} (records * sectors) 0

  fresh_at : (v : ℕ) → v < records → block_at (fresh l) v ≡ fresh_entry l v
  unfolding fresh
  fresh_at v h = get_or-tabulate (fresh_entry l) records v no_block h

  pub fresh_in : (v : ℕ) → v < virtuals l → block_at (fresh l) v ≡ block_of (v + 1) 0 Free
  fresh_in v h = fresh_at v (omega (arith, s.few)) ∙ rw (lt-ltb v (virtuals l) h)

  fresh_ticket : (j : ℕ) → j < records * sectors → get_or (fresh l).tickets j 0 ≡ 0
  unfolding fresh
  fresh_ticket j h = get_or-replicate {A = ℕ} (records * sectors) j 0 0 h

  pub fresh_is : Settled l (fresh l)
  unfolding fresh
  fresh_is = record {
    len = refl;
    blocks = length-tabulate (fresh_entry l) records;
    tickets = fresh_tickets;
    unchanged = λ v h e. free_unchanged (sym (ap (λ (b : Block). b.condition) (fresh_in v h)) ∙ e);
    blank = λ v h k. fresh_at v k ∙ rw (le-ltb v (virtuals l) h);
    bare = λ j h e. fresh_ticket j (omega (arith, s.few));
    none = λ j h k. fresh_ticket j k;
  }

  pub fresh_settled : settled l (fresh l) ≡ fresh l
  fresh_settled = settled_same l (fresh l) fresh_is

  module _ (z : List ℕ) (long : block_len ≤ length z) where
    cleared : List ℕ
    cleared = splice z 0 (rep (map_len l) 0)

    length_zeros : length (rep (map_len l) 0) ≡ map_len l
    length_zeros = length-replicate {A = ℕ} (map_len l) 0

    length_cleared : length cleared ≡ length z
    unfolding cleared
    length_cleared = length-splice {A = ℕ} z 0 (rep (map_len l) 0) (omega (arith, length_zeros, map_fits l s))

    cleared_at : (i : ℕ) → i < map_len l → get_or cleared i 0 ≡ 0
    unfolding cleared
    cleared_at i h =
        get_or-splice_at {A = ℕ} z 0 (rep (map_len l) 0) i i 0 (omega (arith, length_zeros, map_fits l s)) (omega (arith, length_zeros)) (omega arith)
        ∙ get_or-replicate {A = ℕ} (map_len l) i 0 0 h

    long_cleared : block_len ≤ length cleared
    long_cleared = omega (arith, length_cleared)

    pub formatted_loaded : loaded l (formatted l z) ≡ fresh l
    unfolding formatted cleared
    formatted_loaded =
        put_loaded l s (fresh l) fresh_tickets cleared long_cleared
        (λ v h e.
        let n : number_at (fresh l) v ≡ v + 1 = ap (λ (b : Block). b.physical.0) (fresh_in v h) in
        omega (arith, s.small e))
        (λ v h e. let n : count_at (fresh l) v ≡ 0 = ap (λ (b : Block). b.count) (fresh_in v h) in omega arith)
        ∙ fresh_settled

    pub formatted_sum : sum_holds l (formatted l z) ≡ true
    unfolding formatted cleared
    formatted_sum = put_sum l s (fresh l) fresh_tickets cleared long_cleared

    pub formatted_length : length (formatted l z) ≡ length z
    unfolding formatted cleared
    formatted_length = put_length l s (fresh l) fresh_tickets cleared long_cleared ∙ length_cleared

    -- all behind block zero stays
    pub formatted_behind : drop block_len (formatted l z) ≡ drop block_len z
    unfolding formatted cleared
    formatted_behind =
        put_behind l s (fresh l) fresh_tickets cleared long_cleared
        ∙ drop_ext 0 block_len cleared z length_cleared
        (λ i h.
        get_or-splice_out {A = ℕ} z 0 (rep (map_len l) 0) i 0 (omega (arith, length_zeros, map_fits l s))
        (λ p q. omega (arith, length_zeros, map_fits l s)))

    -- "header zero"
    pub formatted_header : take header_len (formatted l z) ≡ rep header_len 0
    unfolding formatted cleared
    formatted_header =
        put_header l s (fresh l) fresh_tickets cleared long_cleared
        ∙ ext_get_or 0 (take header_len cleared) (rep header_len 0) (length-take-le header_len cleared (omega (arith, long_cleared)))
        (λ i h.
        let k : i < header_len = rw (length-take-le header_len cleared (omega (arith, long_cleared))) at h in
        get_or-take header_len cleared i 0 k
        ∙ cleared_at i (omega (arith, items_fit l s (virtuals l) (omega arith)))
        ∙ sym (get_or-replicate {A = ℕ} header_len i 0 0 k))

    -- "padding zero"
    pub formatted_padding
        : l.large ≡ true → (i : ℕ) → header_len + virtuals l * 2 ≤ i → i < 0x3FE → get_or (formatted l z) i 0 ≡ 0
    unfolding formatted cleared
    formatted_padding e i p q =
        let n : map_len l ≡ 0x3FE = ap (λ (x : Bool). pick x 0x3FE (header_len + virtuals l * small_item)) e in
        put_padding l s (fresh l) fresh_tickets cleared long_cleared e i p q ∙ cleared_at i (omega arith)
