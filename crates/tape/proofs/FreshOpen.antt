-- Block zero put from a mapping in good order opens again with exactly that mapping. Step 1 by the length, 2 by the sum that
-- was put, 3 by the numbers, 4 and 5 by the erased journal, 6 by the reserved block, 7 because no data block was stored to.
-- Assumes nothing.
use Rattle.std.specs.Prelude.{None}
use mathlib.Core.Path.{◌≡◌, sym, ap, ◌∙◌}
use mathlib.Core.Bool.{true, false, not}
use mathlib.Core.List.{List}
use Prim.Native.Nat.{ℕ, ◌+◌, ◌-◌, ◌*◌, ◌/◌, ◌%◌, ◌<◌, ◌≤◌}
use native.Mathlib.Omega.{arith}
use borrow.Author.Tests.{not-false}
use lib.ListN.{length, get_or, take, drop, length-replicate}
use lib.Seq.{take-take, drop-drop, length-take-le}
use Rattle.lists.specs.Words.{rep}
use Rattle.lists.proofs.Orders.{by_test}
use Rattle.lists.proofs.Tests.{all_at}
use Rattle.lists.proofs.Windows.{take-splice_in}
use Rattle.crc16.specs.Crc.{crc16}
use Rattle.chip.specs.declared.Chip.{Chip}
use Rattle.chip.specs.Figures.{Layout, layout_of, virtuals, block_len, sectors, image_len, header_len, item_len, map_len, journal_at, erased, in_use_bit, records}
use Rattle.chip.proofs.Layouts.{Sound, sound, map_fits, slot_fits, from_own}
use Rattle.answers.specs.declared.Answer.TheVariants.{Accepted}
use Rattle.mapping.specs.declared.Mapping.{Mapping}
use Rattle.mapping.specs.Blocks.{number_at, count_at, free_at}
use Rattle.mapping.specs.Fits.{placed, reserved_free}
use Rattle.mapping.specs.Outcomes.{outcome}
use Rattle.mapping.proofs.Onto.{apart_once}
use Rattle.answers.proofs.Searches.{first_misses, first_ext}
use Rattle.block_map.specs.Items.{bad_number}
use Rattle.block_zero.specs.Put.{items, low_first, with_items, with_sum, with_journal, put_map, keeps_tickets}
use Rattle.block_zero.proofs.Puts.{items_fit, length_items}
use Rattle.block_zero.proofs.Frames.{length-with_items, length_sum}
use Rattle.block_zero.proofs.RoundTrip.{put_length, put_behind, put_journal, put_sum, put_loaded}
use Rattle.block_zero.proofs.Settled.{Settled, settled_same}
use Rattle.journal.specs.Opened.{Opened}
use Rattle.journal.specs.Steps.{step6, steps2to6, steps1to6}
use Rattle.tickets.specs.Tickets.{sector_place, ticket_in, sector_fails, fails_at, bad_ticket, tickets_of}
use Rattle.wear_leveling.specs.Open.{open_of}
use Rattle.tape.proofs.Erased.{erased_journal}

-- ---- what is put into block zero of a longer list is put into its block zero

module _ (l : Layout) (s : Sound l) where
  sum_take : (z : List ℕ) → block_len ≤ length z → take block_len (with_sum l z) ≡ with_sum l (take block_len z)
  unfolding with_sum
  sum_take z h =
      rw (take-take (map_len l) block_len z (omega (arith, map_fits l s)))
      (take-splice_in 0 block_len z (map_len l) (low_first (crc16 (take (map_len l) z))) (map_fits l s) h)

  journal_take : (z : List ℕ) → block_len ≤ length z → take block_len (with_journal l z) ≡ with_journal l (take block_len z)
  unfolding with_journal
  journal_take z h =
      let n : length (rep (block_len - journal_at l) erased) ≡ block_len - journal_at l = length-replicate {A = ℕ} (block_len - journal_at l) erased in
      take-splice_in 0 block_len z (journal_at l) (rep (block_len - journal_at l) erased) (omega (arith, slot_fits l s)) h

  module _ (m : Mapping) (tickets : length m.tickets ≡ records * sectors) where
    items_take : (z : List ℕ) → block_len ≤ length z → take block_len (with_items l m z) ≡ with_items l m (take block_len z)
    unfolding with_items
    items_take z h =
        let n : length (items l m (virtuals l)) ≡ virtuals l * item_len l = length_items l m tickets (virtuals l) (omega (arith, s.few)) in
        take-splice_in 0 block_len z header_len (items l m (virtuals l)) (omega (arith, items_fit l s (virtuals l) (omega arith), map_fits l s)) h

    put_take : (z : List ℕ) → block_len ≤ length z → take block_len (put_map l m z) ≡ put_map l m (take block_len z)
    unfolding put_map
    put_take z h =
        let a : length (with_items l m z) ≡ length z = length-with_items l m tickets s z h in
        let b : length (with_sum l (with_items l m z)) ≡ length (with_items l m z) = length_sum l s (with_items l m z) (omega arith) in
        journal_take (with_sum l (with_items l m z)) (omega arith)
        ∙ ap (with_journal l) (sum_take (with_items l m z) (omega arith) ∙ ap (with_sum l) (items_take z h))

-- ---- a mapping in good order

module _ (l : Layout) (s : Sound l) (m : Mapping) (o : Opened l m) where
  -- nothing in the mapping that a map would not keep
  pub good_settled : Settled l m
  good_settled =
      record {
        len = o.image;
        blocks = o.blocks_length;
        tickets = o.tickets_length;
        unchanged = o.unchanged;
        blank = λ v h k. o.past_blocks v h;
        bare = bare;
        none = λ j h k. o.past_tickets j h;
      }
    where
      bare : (j : ℕ) → j < virtuals l * sectors → keeps_tickets l m (j / sectors) ≡ false → get_or m.tickets j 0 ≡ 0
      bare j h e =
          by_test l.large (λ t. o.large_tickets t j)
          (λ t.
          let f : free_at m (j / sectors) ≡ true = not-false _ (rw t at e) in
          let d : j / sectors * sectors + j % sectors ≡ j = omega arith in
          rw d at (o.free_tickets (j / sectors) (j % sectors) (omega arith) f (omega arith)))

  pub numbers_good : bad_number l m ≡ None
  unfolding bad_number
  numbers_good =
      first_misses (λ v. not (placed l.p m v)) 0 (virtuals l)
      (λ v a b. rw (all_at (placed l.p m) (virtuals l) v (apart_once m l (omega (arith, s.some)) o.numbers) (omega arith)))

  pub small_fits : (v : ℕ) → v < virtuals l → l.large ≡ false → number_at m v < in_use_bit
  small_fits v h e = omega (arith, o.numbers.high v h, s.small e)

  module _
      (counts : (v : ℕ) → v < virtuals l → l.large ≡ true → count_at m v < in_use_bit)
      (free : reserved_free l m ≡ true)
      (z : List ℕ) (long : length z ≡ image_len l)
    where
      whole : block_len ≤ length z
      whole = omega (arith, s.some)

      -- steps 2 to 6
      pub put_steps : steps2to6 l (take block_len (put_map l m z)) ≡ outcome Accepted m
      unfolding steps2to6 step6
      put_steps =
          let b : List ℕ = take block_len z in
          let n : block_len ≤ length b = omega (arith, length-take-le block_len z whole) in
          let k : length m.tickets ≡ records * sectors = o.tickets_length in
          rw (
            put_take l s m o.tickets_length z whole,
            put_sum l s m k b n,
            put_loaded l s m k b n small_fits counts,
            settled_same l m good_settled,
            numbers_good,
            erased_journal l s (put_map l m b) (put_journal l s m k b n) m,
            free,
          )

      -- a data block is as it was, and so are its tickets
      pub ticket_same : (n j : ℕ) → 1 ≤ n → ticket_in (put_map l m z) n j ≡ ticket_in z n j
      unfolding ticket_in
      ticket_same n j h =
          let e : block_len + (sector_place n j - block_len) ≡ sector_place n j = omega arith in
          let d : drop (sector_place n j) (put_map l m z) ≡ drop (sector_place n j) z =
          ap (λ (x : ℕ). drop x (put_map l m z)) (sym e)
          ∙ sym (drop-drop (sector_place n j - block_len) block_len (put_map l m z))
          ∙ ap (drop (sector_place n j - block_len)) (put_behind l s m o.tickets_length z whole)
          ∙ drop-drop (sector_place n j - block_len) block_len z
          ∙ ap (λ (x : ℕ). drop x z) e in
          rw d

      fails_same : (i : ℕ) → i < virtuals l * sectors → fails_at (ticket_in (put_map l m z)) m i ≡ fails_at (ticket_in z) m i
      unfolding fails_at sector_fails
      fails_same i h = rw (ticket_same (number_at m (i / sectors)) (i % sectors) (o.numbers.low (i / sectors) (omega arith)))

      tickets_same : bad_ticket l (ticket_in (put_map l m z)) m ≡ bad_ticket l (ticket_in z) m
      unfolding bad_ticket
      tickets_same =
          rw (first_ext (fails_at (ticket_in (put_map l m z)) m) (fails_at (ticket_in z) m) 0 (virtuals l * sectors) (λ i a b. fails_same i (omega arith)))

-- block zero put from a mapping in good order, into an image whose tickets fit: a fresh open gives exactly that mapping
pub put_opens
    : (k : Chip) (m : Mapping)
    → Opened (layout_of k) m
    → ((v : ℕ) → v < virtuals (layout_of k) → (layout_of k).large ≡ true → count_at m v < in_use_bit)
    → reserved_free (layout_of k) m ≡ true
    → (z : List ℕ)
    → length z ≡ image_len (layout_of k)
    → bad_ticket (layout_of k) (ticket_in z) m ≡ None
    → open_of (put_map (layout_of k) m z) ≡ outcome Accepted m
unfolding open_of steps1to6 tickets_of
put_opens k m o counts free z long fit =
    let l : Layout = layout_of k in
    let n : length (put_map l m z) ≡ image_len l = put_length l (sound k) m o.tickets_length z (omega (arith, (sound k).some)) ∙ long in
    rw (
      n,
      from_own k,
      put_steps l (sound k) m o counts free z long,
      tickets_same l (sound k) m o counts free z long,
      fit,
    )
