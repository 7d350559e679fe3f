-- Block zero put from a mapping in good order, with some bytes at the start of its journal: steps 2 and 3 go as before, and
-- steps 4 and 5 meet those bytes. One entry, a refused second one, and a first slot that is torn. Assumes nothing.
use mathlib.Core.Path.{◌≡◌, refl, sym, ap, ◌∙◌}
use mathlib.Core.Bool.{Bool, true, false}
use mathlib.Core.List.{List, ◌++◌}
use Prim.Native.Nat.{ℕ, suc, ◌+◌, ◌-◌, ◌*◌, ◌/◌, ◌%◌, ◌<◌, ◌≤◌}
use native.Mathlib.Nat.{suc-mul}
use native.Mathlib.Omega.{arith}
use borrow.Author.Tests.{eq-eqb}
use lib.ListN.{length, get_or, take, drop, length-append, get_or-append}
use lib.Seq.{take-take, get_or-take, get_or-append-add, length-take-le}
use Rattle.lists.specs.Words.{pick, rep}
use Rattle.lists.proofs.Orders.{split, by_test}
use Rattle.lists.proofs.Tests.{all_by}
use Rattle.lists.proofs.Splice.{length-splice, take-splice, get_or-splice_at, get_or-splice_above}
use Rattle.lists.proofs.Tabulate.{tabulate_ext, up_to_ext}
use Rattle.lists.proofs.Windows.{length-window, get_or-window, window_ext}
use Rattle.chip.specs.Figures.{Layout, virtuals, block_len, sectors, image_len, in_use_bit, erased, large_item, small_item, item_len, map_len, journal_at, slot_len, slot_count, records}
use Rattle.chip.proofs.Layouts.{Sound}
use Rattle.answers.specs.declared.Answer.TheVariants.{Accepted, CopiesDiffer, BadEntry}
use Rattle.mapping.specs.declared.Mapping.{Mapping}
use Rattle.mapping.specs.Blocks.{no_block, count_at}
use Rattle.mapping.specs.Outcomes.{outcome, refused, and_then}
use Rattle.block_map.specs.Items.{item_at, item_block, item_ticket, block_entry, ticket_entry, loaded, sum_holds}
use Rattle.block_zero.specs.Put.{put_map}
use Rattle.block_zero.proofs.Puts.{items_fit}
use Rattle.block_zero.proofs.RoundTrip.{put_length, put_journal, put_sum, put_loaded}
use Rattle.block_zero.proofs.Settled.{settled_same}
use Rattle.journal.specs.declared.Entry.{Entry}
use Rattle.journal.specs.Entries.{slot_at, entry_len, twins, entry_of, entry_ok, applied}
use Rattle.journal.specs.Opened.{Opened}
use Rattle.journal.specs.Replay.{journal_from, journal_of}
use Rattle.journal.specs.Steps.{step6, steps2to6}
use Rattle.journal.proofs.Slots.{slot_torn, slot_ends, slot_refused, slot_passed, slots_end}
use Rattle.tape.specs.Cases.{slot_of, with_slots}
use Rattle.tape.proofs.FreshOpen.{good_settled, numbers_good, small_fits}

-- ---- map and sum depend on nothing behind them

module _ (l : Layout) (s : Sound l) (a b : List ℕ) (same : take (journal_at l) a ≡ take (journal_at l) b) where
  same_byte : (i : ℕ) → i < journal_at l → get_or a i 0 ≡ get_or b i 0
  same_byte i h =
      sym (get_or-take (journal_at l) a i 0 h) ∙ ap (λ (x : List ℕ). get_or x i 0) same ∙ get_or-take (journal_at l) b i 0 h

  same_sum : sum_holds l a ≡ sum_holds l b
  unfolding sum_holds
  same_sum =
      let e : take (map_len l) a ≡ take (map_len l) b =
      sym (take-take (map_len l) (journal_at l) a (omega arith)) ∙ ap (take (map_len l)) same
      ∙ take-take (map_len l) (journal_at l) b (omega arith) in
      rw (e, same_byte (map_len l) (omega arith), same_byte (map_len l + 1) (omega arith))

  item_end : (v : ℕ) → v < virtuals l → item_at l v + item_len l ≤ map_len l
  item_end v h = omega (arith, items_fit l s (suc v) h, suc-mul v (item_len l))

  wide : 2 ≤ item_len l
  wide = by_test l.large (λ e. rw e (omega arith)) (λ e. rw e (omega arith))

  same_first : (v : ℕ) → v < virtuals l → get_or a (item_at l v) 0 ≡ get_or b (item_at l v) 0
  same_first v h = same_byte (item_at l v) (omega (arith, item_end v h, wide))

  same_block : (v : ℕ) → v < virtuals l → item_block l a v ≡ item_block l b v
  unfolding item_block
  same_block v h = rw (same_first v h, same_byte (item_at l v + 1) (omega (arith, item_end v h, wide)))

  same_ticket : (j : ℕ) → j < virtuals l * sectors → item_ticket l a j ≡ item_ticket l b j
  unfolding item_ticket
  same_ticket j h =
      by_test l.large
      (λ e. rw e)
      (λ e.
      let w : item_len l ≡ 10 = ap (λ (x : Bool). pick x large_item small_item) e in
      let v : ℕ = j / sectors in
      let n : item_at l v + 2 + j % sectors < journal_at l = omega (arith, item_end v (omega arith)) in
      rw (same_first v (omega arith), same_byte (item_at l v + 2 + j % sectors) n))

  same_loaded : loaded l a ≡ loaded l b
  unfolding loaded
  same_loaded =
      rw (
        tabulate_ext (block_entry l a) (block_entry l b) records
            (λ i h. up_to_ext (item_block l a) (item_block l b) (virtuals l) no_block same_block i),
        tabulate_ext {A = ℕ} (ticket_entry l a) (ticket_entry l b) (records * sectors)
            (λ i h. up_to_ext {A = ℕ} (item_ticket l a) (item_ticket l b) (virtuals l * sectors) 0 same_ticket i),
      )

-- ---- one entry's slot

module _ (e : List ℕ) (size : length e ≡ entry_len) where
  pub slot_length : length (slot_of e) ≡ slot_len
  slot_length = omega (arith, length-append e (e ++ rep 4 erased), length-append e (rep 4 erased))

  pub slot_twins : twins (slot_of e) ≡ true
  unfolding twins
  slot_twins =
      all_by _ entry_len
      (λ i h.
      let r : List ℕ = rep 4 erased in
      let p : get_or (e ++ (e ++ r)) i 0 ≡ get_or e i 0 = get_or-append e (e ++ r) 0 i (omega arith) in
      let q : get_or (e ++ (e ++ r)) (length e + i) 0 ≡ get_or (e ++ r) i 0 = get_or-append-add e (e ++ r) i 0 in
      let n : entry_len + i ≡ length e + i = omega arith in
      eq-eqb _ _ (p ∙ sym (ap (λ (x : ℕ). get_or (e ++ (e ++ r)) x 0) n ∙ q ∙ get_or-append e r 0 i (omega arith))))

-- ---- block zero with a journal

module _
    (l : Layout) (s : Sound l) (m : Mapping) (o : Opened l m)
    (counts : (v : ℕ) → v < virtuals l → l.large ≡ true → count_at m v < in_use_bit)
    (z : List ℕ) (long : length z ≡ image_len l)
    (ss : List ℕ) (room : journal_at l + length ss ≤ block_len)
  where
    whole : block_len ≤ length z
    whole = omega (arith, s.some)

    size : length (put_map l m z) ≡ length z
    size = put_length l s m o.tickets_length z whole

    abbrev image : List ℕ
    image = with_slots l (put_map l m z) ss

    pub length_image : length image ≡ image_len l
    length_image = length-splice (put_map l m z) (journal_at l) ss (omega (arith, size, whole)) ∙ size ∙ long

    same_map : take (journal_at l) (take block_len image) ≡ take (journal_at l) (put_map l m z)
    same_map =
        take-take (journal_at l) block_len image (omega arith)
        ∙ take-splice (put_map l m z) (journal_at l) ss (omega (arith, size, whole))

    -- steps 2 and 3 hold, and 4 to 6 decide
    pub journal_decides : steps2to6 l (take block_len image) ≡ and_then (journal_of l m (take block_len image)) (step6 l)
    unfolding steps2to6
    journal_decides =
        let k : length m.tickets ≡ records * sectors = o.tickets_length in
        rw (
          same_sum l s (take block_len image) (put_map l m z) same_map,
          put_sum l s m k z whole,
          same_loaded l s (take block_len image) (put_map l m z) same_map,
          put_loaded l s m k z whole (small_fits l s m o) counts,
          settled_same l m (good_settled l s m o),
          numbers_good l s m o,
        )

    -- a slot that lies in the bytes
    slot_is : (k : ℕ) → k * slot_len + slot_len ≤ length ss → take slot_len (drop (k * slot_len) ss) ≡ slot_at l (take block_len image) k
    slot_is k h =
        let n : length (take block_len image) ≡ block_len = length-take-le block_len image (omega (arith, length_image, s.some)) in
        window_ext 0 (journal_at l + k * slot_len) slot_len (take block_len image) (take slot_len (drop (k * slot_len) ss))
        (omega arith) (length-window (k * slot_len) slot_len ss h)
        (λ i b.
        get_or-window (k * slot_len) slot_len ss i 0 b
        ∙ sym
        (get_or-take block_len image (journal_at l + k * slot_len + i) 0 (omega arith)
        ∙ get_or-splice_at (put_map l m z) (journal_at l) ss (journal_at l + k * slot_len + i) (k * slot_len + i) 0
        (omega (arith, size, whole)) (omega arith) (omega arith)))

    -- a byte of a slot behind them
    slot_blank
        : (k i : ℕ) → length ss ≤ k * slot_len → k < slot_count l → i < slot_len
        → get_or (slot_at l (take block_len image) k) i 0 ≡ erased
    slot_blank k i h b c =
        let n : journal_at l + k * slot_len + i < block_len = omega arith in
        get_or-window (journal_at l + k * slot_len) slot_len (take block_len image) i 0 c
        ∙ get_or-take block_len image (journal_at l + k * slot_len + i) 0 n
        ∙ get_or-splice_above (put_map l m z) (journal_at l) ss (journal_at l + k * slot_len + i) 0 (omega (arith, size, whole)) (omega arith)
        ∙ put_journal l s m o.tickets_length z whole (journal_at l + k * slot_len + i) (omega arith) n

    from_first : journal_of l m (take block_len image) ≡ journal_from l m (take block_len image) 0 (slot_count l - 0)
    unfolding journal_of
    from_first = let e : slot_count l - 0 ≡ slot_count l = omega arith in rw e

    -- the copies of the first slot differ
    pub first_torn
        : slot_len ≤ length ss → twins (take slot_len ss) ≡ false → journal_of l m (take block_len image) ≡ refused (CopiesDiffer 0)
    first_torn h t =
        from_first
        ∙ sym (slot_torn l m (take block_len image) (take slot_len ss) 0 (slot_count l) (slot_is 0 h) (omega arith) t)

    -- the first slot holds the entry x, which is allowed
    module _
        (e : List ℕ) (fourteen : length e ≡ entry_len) (h : slot_len ≤ length ss) (first : take slot_len ss ≡ slot_of e)
        (x : Entry) (d : x ≡ entry_of (slot_of e)) (going : get_or e 0 0 ≡ erased → ⊥) (ok : entry_ok l m x ≡ true)
      where
        passed
            : journal_of l m (take block_len image)
            ≡ journal_from l (applied l m x) (take block_len image) 1 (slot_count l - 1)
        unfolding entry_ok
        passed =
            from_first
            ∙ slot_passed l m (take block_len image) (slot_of e) 0 (slot_count l) (sym first ∙ slot_is 0 h) (omega arith) x d
            (slot_twins e fourteen) (λ q. going (sym (get_or-append e (e ++ rep 4 erased) 0 0 (omega arith)) ∙ q)) ok

        blank_twins : length ss ≤ slot_len → 1 < slot_count l → twins (slot_at l (take block_len image) 1) ≡ true
        unfolding twins
        blank_twins n c =
            all_by _ entry_len
            (λ i b.
            eq-eqb _ _
            (slot_blank 1 i (omega arith) c (omega arith) ∙ sym (slot_blank 1 (entry_len + i) (omega arith) c (omega arith))))

        -- and it is the only one
        pub one_entry : length ss ≤ slot_len → journal_of l m (take block_len image) ≡ outcome Accepted (applied l m x)
        one_entry n =
            passed
            ∙ sym
            (split (slot_count l) 1
            (λ p. slots_end l (applied l m x) (take block_len image) 1 (slot_count l) p)
            (λ p.
            slot_ends l (applied l m x) (take block_len image) (slot_at l (take block_len image) 1) 1 (slot_count l) refl p
            (blank_twins n p) (slot_blank 1 0 (omega arith) p (omega arith))))

        -- and the second holds one that is not allowed
        pub second_refused
            : (t : List ℕ) → slot_len + slot_len ≤ length ss → take slot_len (drop slot_len ss) ≡ t → twins t ≡ true
            → (get_or t 0 0 ≡ erased → ⊥) → entry_ok l (applied l m x) (entry_of t) ≡ false
            → journal_of l m (take block_len image) ≡ refused (BadEntry 1)
        unfolding entry_ok
        second_refused t n second u end bad =
            passed
            ∙ sym
            (slot_refused l (applied l m x) (take block_len image) t 1 (slot_count l) (sym second ∙ slot_is 1 (omega arith)) (omega arith)
            (entry_of t) refl u end bad)
