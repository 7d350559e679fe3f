-- What open answers, step by step: the length, the sum, the first bad number; slot after slot, each of which is passed by a
-- turn of the replay; the reserved block; the first sector whose ticket is wrong. Assumes nothing.
use Rattle.std.specs.Prelude.{Option, Some, None}
use mathlib.Core.Path.{◌≡◌, refl, sym, ap, ◌∙◌}
use mathlib.Core.Bool.{true, false, not}
use mathlib.Core.List.{List}
use Prim.Native.Nat.{ℕ, zero, suc, ◌+◌, ◌-◌, ◌*◌, ◌/◌, ◌%◌, ◌<◌, ◌≤◌}
use native.Mathlib.Numerals.{add-one}
use native.Mathlib.Omega.{arith}
use borrow.Author.Tests.{eq-eqb, ne_eqb, eqb-true, le-leb, leb-true, lt-ltb, ltb-true}
use lib.Dec.{eqb, leb, ltb}
use lib.ListN.{length, get_or}
use Rattle.lists.proofs.Orders.{by_test, not_both, test_false}
use Rattle.lists.proofs.Tests.{and_left, and_right, all_at, all_by}
use Rattle.chip.specs.declared.Chip.{Chip}
use Rattle.chip.specs.declared.Chip.TheVariants.{Kib128, Kib512, Mib1}
use Rattle.chip.specs.Figures.{Layout, layout_of, virtuals, reserved, block_len, sectors, image_len, journal_at, slot_count, from_len, by_chip}
use Rattle.chip.proofs.Layouts.{sound, slot_fits, from_own, from_none}
use Rattle.answers.specs.declared.Answer.{Answer}
use Rattle.answers.specs.declared.Answer.TheVariants.{Accepted, WrongLength, WrongMapSum, BadNumber, CopiesDiffer, BadEntry, ReservedInUse, WrongTicket}
use Rattle.answers.specs.Answers.{number_of}
use Rattle.answers.proofs.Searches.{first_finds, first_misses}
use Rattle.mapping.specs.declared.Block.{Block}
use Rattle.mapping.specs.declared.Mapping.{Mapping}
use Rattle.mapping.specs.declared.Outcome.{Outcome}
use Rattle.mapping.specs.Blocks.{is_free, number_at, count_at, free_at}
use Rattle.mapping.specs.Fits.{inside, placed}
use Rattle.mapping.specs.Outcomes.{outcome, refused, and_then}
use Rattle.mapping.proofs.Onto.{placed_inside, placed_new, placed_by}
use Rattle.mapping.proofs.Fitted.{is_free_lem}
use Rattle.block_map.specs.Items.{loaded, sum_holds, bad_number}
use Rattle.block_zero.specs.Put.{fresh}
use Rattle.journal.specs.declared.Entry.{Entry}
use Rattle.journal.specs.Entries.{slot_at, entry_len, twins, entry_of, count_before, allowed, entry_ok, applied}
use Rattle.journal.specs.Moved.{Moved}
use Rattle.journal.specs.Replay.{journal_from, journal_of}
use Rattle.journal.specs.Steps.{step6, steps2to6, steps1to6}
use Rattle.journal.proofs.Applied.{nine}
use Rattle.journal.proofs.Slots.{slot_torn, slot_ends, slot_refused, slot_passed, slots_end}
use Rattle.journal.proofs.Refusals.{Blanked, accepted_blanked, refused_blanked, then_blanked, found_blanked, blank_1to6}
use Rattle.tickets.specs.Tickets.{ticket_in, sector_fails, fails_at, bad_ticket, step7, tickets_of}
use Rattle.wear_leveling.specs.Open.{open_of}
use Rattle.tape.specs.Cases.{slot_of, formatted_with, steps_on, entry_g, Sized, Eight}
use Rattle.tape.specs.Opening.{NoChip, zeroth, SumRight, Placed, SameCopies, entered, Rule, HoldsEntry, RuleAt, Reaches, Ends, no_end, end_at, TicketRight, FirstWrong}
use Rattle.tape.specs.Table.{entry_onto}
use Rattle.tape.proofs.Formatted.{five, fresh_free}
use Rattle.tape.proofs.Journaled.{slot_length}
use Rattle.tape.proofs.Moves.{entry}
use Rattle.tape.proofs.OnFormatted.{length_formatted, journal_steps, refused_opens, fresh_moved, fresh_journal, fresh_steps}

-- ---- by the length

pub no_chip : (n : ℕ) → NoChip n → (k : Chip) → n ≡ image_len (layout_of k) → ⊥
no_chip n h Kib128 e = h.not_128 e
no_chip n h Kib512 e = h.not_512 e
no_chip n h Mib1 e = h.not_1024 e

pub wrong_length : (image : List ℕ) → NoChip (length image) → open_of image ≡ refused WrongLength
unfolding open_of steps1to6
wrong_length image h = rw (from_none (length image) (no_chip (length image) h))

-- ---- slots

copies_same : (s : List ℕ) → SameCopies s → twins s ≡ true
unfolding twins
copies_same s h = all_by _ entry_len (λ i b. eq-eqb _ _ (h i b))

copies_differ : (s : List ℕ) → (SameCopies s → ⊥) → twins s ≡ false
unfolding twins
copies_differ s ne = test_false _ (λ e. ne (λ i h. eqb-true _ _ (all_at _ entry_len i e h)))

-- step 5's test holds exactly when its rule does
module _ (l : Layout) (m : Mapping) (e : Entry) where
  rule_ok : Rule l m e → entry_ok l m e ≡ true
  unfolding entry_ok allowed
  rule_ok a =
      rw (
        lt-ltb _ _ a.v_below,
        lt-ltb _ _ a.w_below,
        le-leb _ _ a.p_low,
        lt-ltb _ _ a.p_high,
        le-leb _ _ a.q_low,
        lt-ltb _ _ a.q_high,
        eq-eqb _ _ a.v_number,
        eq-eqb _ _ a.w_number,
        ap is_free a.w_free,
        eq-eqb _ _ a.v_count,
        le-leb _ _ a.c_low,
        eq-eqb _ _ a.w_count,
      )

  ok_rule : entry_ok l m e ≡ true → Rule l m e
  unfolding entry_ok allowed
  ok_rule ok =
      let t = nine (ltb e.v.0 (virtuals l)) (ltb e.w.0 (virtuals l)) (inside l.p e.p.0) (inside l.p e.q.0)
      (eqb (number_at m e.v.0) e.q.0) (eqb (number_at m e.w.0) e.p.0) (free_at m e.w.0)
      (eqb (count_at m e.v.0) e.d) (count_before (count_at m e.w.0) e.c) ok in
      record {
        v_below = ltb-true _ _ t.first;
        w_below = ltb-true _ _ t.second;
        p_low = leb-true _ _ (and_left _ _ t.third);
        p_high = ltb-true _ _ (and_right (leb 1 e.p.0) _ t.third);
        q_low = leb-true _ _ (and_left _ _ t.fourth);
        q_high = ltb-true _ _ (and_right (leb 1 e.q.0) _ t.fourth);
        v_number = eqb-true _ _ t.fifth;
        w_number = eqb-true _ _ t.sixth;
        w_free = is_free_lem _ t.seventh;
        v_count = eqb-true _ _ t.eighth;
        c_low = leb-true _ _ (and_left _ _ t.ninth);
        w_count = eqb-true _ _ (and_right (leb 1 e.c) _ t.ninth);
      }

  rule_broken : (Rule l m e → ⊥) → entry_ok l m e ≡ false
  rule_broken ne = test_false (entry_ok l m e) (λ ok. ne (ok_rule ok))

-- what the journal makes of the slots from j on
abbrev from_slot : Layout → List ℕ → ℕ → Outcome
from_slot l z j = journal_from l (entered l z j) z j (slot_count l - j)

module _ (l : Layout) (z : List ℕ) where
  slots_passed
      : (j : ℕ) → j ≤ slot_count l → ((i : ℕ) → i < j → HoldsEntry l z i)
      → ((i : ℕ) → i < j → RuleAt l z i)
      → journal_of l (loaded l z) z ≡ from_slot l z j
  unfolding journal_of entered entry_ok
  slots_passed zero h t ok = let e : slot_count l - 0 ≡ slot_count l = omega arith in rw e refl
  slots_passed (suc j) h t ok =
      let s : List ℕ = slot_at l z j in
      slots_passed j (omega arith) (λ i b. t i (omega arith)) (λ i b. ok i (omega arith))
      ∙ slot_passed l (entered l z j) z s j (slot_count l) refl (omega arith) (entry_of s) refl (copies_same s (t j (omega arith)).same)
      (t j (omega arith)).goes_on (rule_ok l (entered l z j) (entry_of s) (ok j (omega arith)))
      ∙ rw (add-one j) refl

  slots_ended : (j : ℕ) → Ends l z j → from_slot l z j ≡ outcome Accepted (entered l z j)
  slots_ended j (no_end e) = sym (slots_end l (entered l z j) z j (slot_count l) (omega arith))
  slots_ended j (end_at h same e) =
      sym (slot_ends l (entered l z j) z (slot_at l z j) j (slot_count l) refl h (copies_same (slot_at l z j) same) e)

-- ---- on an image of a chip's length

module _ (k : Chip) (image : List ℕ) (long : Sized k image) where
  -- a refusal by steps 2 to 6 is open's
  open_by : (a : Answer) → eqb (number_of a) 0 ≡ false → steps2to6 (layout_of k) (zeroth image) ≡ refused a → open_of image ≡ refused a
  unfolding open_of steps1to6
  open_by a e j = rw (long, from_own k, j, e)

  pub wrong_sum : (SumRight (layout_of k) (zeroth image) → ⊥) → open_of image ≡ refused WrongMapSum
  unfolding steps2to6 sum_holds
  wrong_sum h = open_by WrongMapSum refl (rw (ne_eqb _ _ h))

  right_sum : SumRight (layout_of k) (zeroth image) → sum_holds (layout_of k) (zeroth image) ≡ true
  unfolding sum_holds
  right_sum h = eq-eqb _ _ h

  pub wrong_number
      : (v : ℕ) → SumRight (layout_of k) (zeroth image) → v < virtuals (layout_of k)
      → ((u : ℕ) → u < v → Placed (layout_of k) (loaded (layout_of k) (zeroth image)) u)
      → (Placed (layout_of k) (loaded (layout_of k) (zeroth image)) v → ⊥)
      → open_of image ≡ refused (BadNumber v)
  unfolding steps2to6 bad_number
  wrong_number v sum h fine bad =
      let l : Layout = layout_of k in
      let m : Mapping = loaded l (zeroth image) in
      let some : 1 ≤ l.p = omega (arith, (sound k).some) in
      let hit : placed l.p m v ≡ false =
      test_false (placed l.p m v)
      (λ e.
      bad (record { low = (placed_inside m l some v e).0; high = (placed_inside m l some v e).1; new = λ u b d. placed_new m l some v u e b d })) in
      let found : bad_number l m ≡ Some v =
      first_finds (λ u. not (placed l.p m u)) 0 (virtuals l) v (omega arith) (omega arith)
      (λ u a b. ap not (placed_by m l some u (fine u b).low (fine u b).high (fine u b).new)) (ap not hit) in
      open_by (BadNumber v) refl (rw (right_sum sum, found))

  -- steps 2 and 3 hold, and the first j slots are passed: the journal decides from there on
  module _ (j : ℕ) (r : Reaches (layout_of k) (zeroth image) j) where
    reached : journal_of (layout_of k) (loaded (layout_of k) (zeroth image)) (zeroth image) ≡ from_slot (layout_of k) (zeroth image) j
    reached = slots_passed (layout_of k) (zeroth image) j r.slots r.holds r.allows

    journal_decides : steps2to6 (layout_of k) (zeroth image) ≡ and_then (from_slot (layout_of k) (zeroth image) j) (step6 (layout_of k))
    unfolding steps2to6 bad_number
    journal_decides =
        let l : Layout = layout_of k in
        let m : Mapping = loaded l (zeroth image) in
        let some : 1 ≤ l.p = omega (arith, (sound k).some) in
        let none : bad_number l m ≡ None =
        first_misses (λ u. not (placed l.p m u)) 0 (virtuals l)
        (λ v a b.
        let p = r.numbers v (omega arith) in
        ap not (placed_by m l some v p.low p.high p.new)) in
        rw (right_sum r.sum, none, reached)

    pub wrong_copies
        : j < slot_count (layout_of k) → (SameCopies (slot_at (layout_of k) (zeroth image) j) → ⊥) → open_of image ≡ refused (CopiesDiffer j)
    wrong_copies h ne =
        let l : Layout = layout_of k in
        let e : from_slot l (zeroth image) j ≡ refused (CopiesDiffer j) =
        sym (slot_torn l (entered l (zeroth image) j) (zeroth image) (slot_at l (zeroth image) j) j (slot_count l) refl h (copies_differ _ ne)) in
        open_by (CopiesDiffer j) refl (journal_decides ∙ rw e)

    pub wrong_entry
        : j < slot_count (layout_of k) → HoldsEntry (layout_of k) (zeroth image) j → (RuleAt (layout_of k) (zeroth image) j → ⊥)
        → open_of image ≡ refused (BadEntry j)
    unfolding entry_ok
    wrong_entry h t bad =
        let l : Layout = layout_of k in
        let s : List ℕ = slot_at l (zeroth image) j in
        let e : from_slot l (zeroth image) j ≡ refused (BadEntry j) =
        sym (slot_refused l (entered l (zeroth image) j) (zeroth image) s j (slot_count l) refl h (entry_of s) refl (copies_same s t.same) t.goes_on
        (rule_broken l (entered l (zeroth image) j) (entry_of s) bad)) in
        open_by (BadEntry j) refl (journal_decides ∙ rw e)

    module _ (end : Ends (layout_of k) (zeroth image) j) where
      -- steps 2 to 5 hold
      all_entered : steps2to6 (layout_of k) (zeroth image) ≡ step6 (layout_of k) (entered (layout_of k) (zeroth image) j)
      all_entered = journal_decides ∙ rw (slots_ended (layout_of k) (zeroth image) j end)

      pub wrong_reserved
          : free_at (entered (layout_of k) (zeroth image) j) (virtuals (layout_of k) - 1) ≡ false
          → open_of image ≡ refused (ReservedInUse (virtuals (layout_of k) - 1))
      unfolding step6
      wrong_reserved e = open_by (ReservedInUse (virtuals (layout_of k) - 1)) refl (all_entered ∙ rw e)

      pub all_steps
          : free_at (entered (layout_of k) (zeroth image) j) (virtuals (layout_of k) - 1) ≡ true
          → steps_on image ≡ outcome Accepted (entered (layout_of k) (zeroth image) j)
      unfolding steps1to6 step6
      all_steps e = rw (long, from_own k) (all_entered ∙ rw e)

-- ---- an entry puts the reserved block in use

pub last_opens
    : (k : Chip) (z t : List ℕ) → Sized k z → Eight t
    → open_of (formatted_with k z (slot_of (entry_onto (reserved (layout_of k)) t))) ≡ refused (ReservedInUse (reserved (layout_of k)))
unfolding step6
last_opens k z t long eight =
    let l : Layout = layout_of k in
    let v : ℕ = reserved l in
    let hv : v < virtuals l = omega (arith, (sound k).some) in
    let hw : 0 < virtuals l = omega (arith, (sound k).some) in
    let room : journal_at l + length (slot_of (entry_onto v t)) ≤ block_len =
    omega (arith, slot_length (entry_onto v t) (omega arith), slot_fits l (sound k)) in
    let used : free_at (applied l (fresh l) (entry v 0 1 (v + 1) 1 0 t)) v ≡ false =
    ap (λ (x : Block). is_free x.condition) (fresh_moved k v 0 hv hw t eight).v_block in
    refused_opens k z long (slot_of (entry_onto v t)) room (ReservedInUse v) refl
    (journal_steps k z long (slot_of (entry_onto v t)) room ∙ rw (fresh_journal k v 0 hv hw t eight z long, used))

-- ---- by the tickets

small : (k : Chip) → (k ≡ Mib1 → ⊥) → (layout_of k).large ≡ false
small Kib128 n = refl
small Kib512 n = refl
small Mib1 n = absurd (n refl)

-- sector i, where its block is free or its ticket fits
sector_passes
    : (image : List ℕ) (m : Mapping) (i : ℕ)
    → (free_at m (i / 8) ≡ false → TicketRight image m (i / 8) (i % 8)) → fails_at (ticket_in image) m i ≡ false
unfolding fails_at sector_fails
sector_passes image m i right =
    by_test (free_at m (i / 8)) (λ f. rw f)
    (λ f.
    let e : 8 * (i / 8) + i % 8 ≡ i = omega arith in
    let t : ticket_in image (number_at m (i / 8)) (i % 8) ≡ get_or m.tickets i 0 = right f ∙ ap (λ (j : ℕ). get_or m.tickets j 0) e in
    rw (f, eq-eqb (ticket_in image (number_at m (i / 8)) (i % 8)) (get_or m.tickets i 0) t))

module _ (k : Chip) (image : List ℕ) (m : Mapping) (b s : ℕ) (w : FirstWrong k image m b s) where
  fails : fails_at (ticket_in image) m (8 * b + s) ≡ true
  unfolding fails_at sector_fails
  fails =
      let h : s < 8 = w.sector in
      let d : (8 * b + s) / 8 ≡ b = omega arith in
      let r : (8 * b + s) % 8 ≡ s = omega arith in
      rw (d, r, w.in_use, ne_eqb (ticket_in image (number_at m b) s) (get_or m.tickets (8 * b + s) 0) w.wrong)

  passes : (i : ℕ) → i < 8 * b + s → fails_at (ticket_in image) m i ≡ false
  passes i h = sector_passes image m i (w.before (i / 8) (i % 8) (omega arith) (omega arith))

  pub wrong_ticket
      : (k ≡ Mib1 → ⊥) → Sized k image → steps_on image ≡ outcome Accepted m → open_of image ≡ refused (WrongTicket (8 * b + s))
  unfolding open_of tickets_of bad_ticket
  wrong_ticket n long e =
      let h : 8 * b + s < virtuals (layout_of k) * sectors = omega (arith, w.sector, w.block) in
      let found = first_finds (fails_at (ticket_in image) m) 0 (virtuals (layout_of k) * sectors) (8 * b + s) (omega arith) (omega arith)
      (λ i a c. passes i c) fails in
      rw (e, long, from_own k, small k n, found)

-- no ticket is wrong
pub right_tickets
    : (k : Chip) (image : List ℕ) (m : Mapping) → Sized k image → steps_on image ≡ outcome Accepted m
    → ((k ≡ Mib1 → ⊥) → (b s : ℕ) → b < virtuals (layout_of k) → s < 8 → free_at m b ≡ false → TicketRight image m b s)
    → open_of image ≡ outcome Accepted m
unfolding open_of tickets_of bad_ticket
right_tickets k image m long e right = rw (e, long, from_own k) (go k right)
  where
    passes
        : (c : Chip) → ((b s : ℕ) → b < virtuals (layout_of c) → s < 8 → free_at m b ≡ false → TicketRight image m b s)
        → (i : ℕ) → i < virtuals (layout_of c) * sectors → fails_at (ticket_in image) m i ≡ false
    passes c r i h = sector_passes image m i (r (i / 8) (i % 8) (omega arith) (omega arith))

    go
        : (c : Chip) → ((c ≡ Mib1 → ⊥) → (b s : ℕ) → b < virtuals (layout_of c) → s < 8 → free_at m b ≡ false → TicketRight image m b s)
        → step7 (layout_of c) image m ≡ outcome Accepted m
    go Mib1 r = refl
    go Kib128 r =
        rw (first_misses (fails_at (ticket_in image) m) 0 (virtuals (layout_of Kib128) * sectors)
        (λ i a b. passes Kib128 (r (λ q. let z : ◌≡◌ {A = ℕ} 0 1 = cc in omega arith)) i b))
    go Kib512 r =
        rw (first_misses (fails_at (ticket_in image) m) 0 (virtuals (layout_of Kib512) * sectors)
        (λ i a b. passes Kib512 (r (λ q. let z : ◌≡◌ {A = ℕ} 0 1 = cc in omega arith)) i b))

-- case G's entry with a ticket that does not fit
pub wrong_first
    : (k : Chip) (z t : List ℕ) → (k ≡ Mib1 → ⊥) → Sized k z → Eight t
    → (ticket_in (formatted_with k z (slot_of (entry_g t))) 4 0 ≡ get_or t 0 0 → ⊥)
    → open_of (formatted_with k z (slot_of (entry_g t))) ≡ refused (WrongTicket 24)
wrong_first k z t n long eight ne =
    let l : Layout = layout_of k in
    wrong_ticket k (formatted_with k z (slot_of (entry_g t))) m 3 0
    (record {
      block = four;
      sector = omega arith;
      in_use = ap (λ (x : Block). is_free x.condition) moved.v_block;
      wrong = λ e. ne (sym (ap (λ (x : Block). ticket_in (formatted_with k z (slot_of (entry_g t))) x.physical.0 0) moved.v_block) ∙ e ∙ moved.v_tickets (small k n) 0 (omega arith));
      before = λ c r h b f. absurd (not_both (free c (omega arith)) f);
    })
    n
    (length_formatted k z long (slot_of (entry_g t)) (omega (arith, slot_length (entry_g t) (omega arith), slot_fits l (sound k))))
    (fresh_steps k 3 3 four four t eight z long (λ e. omega (arith, many)))
  where
    m : Mapping
    m = applied (layout_of k) (fresh (layout_of k)) (entry 3 3 4 4 1 0 t)

    many : 5 < virtuals (layout_of k)
    many = five k

    four : 3 < virtuals (layout_of k)
    four = omega (arith, many)

    moved : Moved (layout_of k) (fresh (layout_of k)) (entry 3 3 4 4 1 0 t) m
    moved = fresh_moved k 3 3 four four t eight

    free : (c : ℕ) → c < 3 → free_at m c ≡ true
    free c h =
        ap (λ (x : Block). is_free x.condition)
        (moved.other_blocks c (record { below = omega arith; not_v = λ e. omega arith; not_w = λ e. omega arith }))
        ∙ fresh_free (layout_of k) (sound k) c (omega (arith, many))

-- ---- open's refusals are blank

tickets_blanked : (image : List ℕ) (m : Mapping) → Blanked (tickets_of image m)
unfolding tickets_of
tickets_blanked image m = go (from_len (length image))
  where
    go : (o : Option Chip) → Blanked (by_chip o (λ k. step7 (layout_of k) image m) (refused WrongLength))
    go (Some k) = found_blanked (bad_ticket (layout_of k) (ticket_in image) m) WrongTicket (outcome Accepted m) (accepted_blanked m)
    go None = refused_blanked WrongLength

pub open_blanked : (image : List ℕ) → Blanked (open_of image)
unfolding open_of
open_blanked image =
    then_blanked (steps_on image) (tickets_of image) (blank_1to6 (zeroth image) (length image)) (tickets_blanked image)
