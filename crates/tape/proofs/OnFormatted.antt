-- A formatted image with some slots in its journal: steps 1 to 3 hold and the journal decides. One entry that moves block v
-- onto the physical block of w, and what a second slot makes of it. Assumes nothing.
use mathlib.Core.Path.{◌≡◌, refl, ap, ◌∙◌}
use mathlib.Core.Bool.{true, false}
use mathlib.Core.List.{List, ◌++◌}
use Prim.Native.Nat.{ℕ, ◌+◌, ◌<◌, ◌≤◌}
use native.Mathlib.Omega.{arith}
use lib.Dec.{eqb}
use lib.ListN.{length, get_or, take, drop, length-append}
use lib.Seq.{take_at, drop_at, take_all}
use Rattle.lists.specs.Words.{splice, rep}
use Rattle.chip.specs.declared.Chip.{Chip}
use Rattle.chip.specs.Figures.{Layout, layout_of, virtuals, reserved, block_len, erased, image_len, map_len, slot_len, journal_at}
use Rattle.chip.proofs.Layouts.{sound, slot_fits, from_own}
use Rattle.answers.specs.declared.Answer.{Answer}
use Rattle.answers.specs.declared.Answer.TheVariants.{Accepted, CopiesDiffer, BadEntry}
use Rattle.answers.specs.Answers.{number_of}
use Rattle.mapping.specs.Blocks.{count_at}
use Rattle.mapping.specs.Outcomes.{outcome, refused, and_then}
use Rattle.block_zero.specs.Put.{fresh, formatted, put_map}
use Rattle.journal.specs.declared.Entry.{Entry}
use Rattle.journal.specs.Entries.{twins, entry_of, entry_len, entry_ok, applied}
use Rattle.journal.specs.Moved.{Moved}
use Rattle.journal.specs.Replay.{journal_of}
use Rattle.journal.specs.Steps.{step6, steps1to6}
use Rattle.wear_leveling.specs.Open.{open_of}
use Rattle.wear_leveling.proofs.Formats.{format_leaves}
use Rattle.tape.specs.Cases.{slot_of, with_slots, formatted_with, steps_on, Sized, Eight}
use Rattle.tape.proofs.Formatted.{fresh_number, fresh_count, fresh_free, fresh_opened, fresh_low, fresh_reserved, length_cleared}
use Rattle.tape.proofs.Journaled.{slot_length, length_image, journal_decides, first_torn, one_entry, second_refused}
use Rattle.tape.proofs.Moves.{entry, bytes, entry_is, moves_ok, moves, moves_steps}

-- the image before block zero is put into it
abbrev cleared : Chip → List ℕ → List ℕ
cleared k z = splice z 0 (rep (map_len (layout_of k)) 0)

module _ (k : Chip) (z : List ℕ) (long : Sized k z) (ss : List ℕ) where
  -- what format leaves is block zero put from the fresh mapping
  is_put : formatted_with k z ss ≡ with_slots (layout_of k) (put_map (layout_of k) (fresh (layout_of k)) (cleared k z)) ss
  unfolding formatted
  is_put = ap (λ (y : List ℕ). with_slots (layout_of k) y ss) (format_leaves k z long)

  module _ (room : journal_at (layout_of k) + length ss ≤ block_len) where
    pub length_formatted : length (formatted_with k z ss) ≡ image_len (layout_of k)
    length_formatted =
        let l : Layout = layout_of k in
        ap length is_put
        ∙ length_image l (sound k) (fresh l) (fresh_opened l (sound k)) (fresh_low l (sound k)) (cleared k z) (length_cleared l (sound k) z long)
        ss room

    pub journal_steps
        : steps_on (formatted_with k z ss)
        ≡ and_then (journal_of (layout_of k) (fresh (layout_of k)) (take block_len (formatted_with k z ss))) (step6 (layout_of k))
    unfolding steps1to6
    journal_steps =
        let l : Layout = layout_of k in
        rw (length_formatted, from_own k, is_put)
        (journal_decides l (sound k) (fresh l) (fresh_opened l (sound k)) (fresh_low l (sound k)) (cleared k z)
        (length_cleared l (sound k) z long) ss room)

    -- a refusal by the steps up to 6 is open's
    pub refused_opens
        : (a : Answer) → eqb (number_of a) 0 ≡ false → steps_on (formatted_with k z ss) ≡ refused a
        → open_of (formatted_with k z ss) ≡ refused a
    unfolding open_of
    refused_opens a e j = rw (j, e)

    -- as is one by the journal
    journal_opens
        : (a : Answer) → eqb (number_of a) 0 ≡ false
        → journal_of (layout_of k) (fresh (layout_of k)) (take block_len (formatted_with k z ss)) ≡ refused a
        → open_of (formatted_with k z ss) ≡ refused a
    journal_opens a e j = refused_opens a e (journal_steps ∙ rw (j, e))

-- the copies of the first slot differ
pub torn_opens
    : (k : Chip) (z s : List ℕ) → Sized k z → length s ≡ slot_len → twins s ≡ false → open_of (formatted_with k z s) ≡ refused (CopiesDiffer 0)
torn_opens k z s long size torn =
    let l : Layout = layout_of k in
    let room : journal_at l + length s ≤ block_len = omega (arith, slot_fits l (sound k)) in
    journal_opens k z long s room (CopiesDiffer 0) refl
    (rw (is_put k z long s)
    (first_torn l (sound k) (fresh l) (fresh_opened l (sound k)) (fresh_low l (sound k)) (cleared k z) (length_cleared l (sound k) z long) s
    room (omega arith) (ap twins (take_all slot_len s (omega arith)) ∙ torn)))

-- an entry that moves v onto the physical block of w
module _
    (k : Chip) (v w : ℕ) (hv : v < virtuals (layout_of k)) (hw : w < virtuals (layout_of k)) (t : List ℕ) (eight : Eight t)
  where
    abbrev pub moving : Entry
    moving = entry v w (w + 1) (v + 1) 1 0 t

    abbrev pub moving_bytes : List ℕ
    moving_bytes = bytes v w (w + 1) (v + 1) 1 0 t

    first_count_lem : count_at (fresh (layout_of k)) w + 1 ≡ 1
    first_count_lem = omega (arith, fresh_count (layout_of k) (sound k) w hw)

    pub fresh_ok : entry_ok (layout_of k) (fresh (layout_of k)) moving ≡ true
    fresh_ok =
        let l : Layout = layout_of k in
        moves_ok l (sound k) (fresh l) (fresh_opened l (sound k)) v w (w + 1) (v + 1) 1 0 t hv hw (fresh_free l (sound k) w hw)
        (fresh_number l (sound k) w hw) (fresh_number l (sound k) v hv) first_count_lem (fresh_count l (sound k) v hv) eight

    pub fresh_moved : Moved (layout_of k) (fresh (layout_of k)) moving (applied (layout_of k) (fresh (layout_of k)) moving)
    fresh_moved =
        let l : Layout = layout_of k in
        moves l (sound k) (fresh l) (fresh_opened l (sound k)) v w (w + 1) (v + 1) 1 0 t hv hw (fresh_free l (sound k) w hw)
        (fresh_number l (sound k) w hw) (fresh_number l (sound k) v hv) first_count_lem (fresh_count l (sound k) v hv) eight

    fourteen : length moving_bytes ≡ entry_len
    fourteen = omega arith

    going : v ≡ erased → ⊥
    going e = omega (arith, (sound k).few)

    module _ (z : List ℕ) (long : Sized k z) where
      one_room : journal_at (layout_of k) + length (slot_of moving_bytes) ≤ block_len
      one_room = omega (arith, slot_length moving_bytes fourteen, slot_fits (layout_of k) (sound k))

      -- the journal accepts it
      pub fresh_journal
          : journal_of (layout_of k) (fresh (layout_of k)) (take block_len (formatted_with k z (slot_of moving_bytes)))
          ≡ outcome Accepted (applied (layout_of k) (fresh (layout_of k)) moving)
      fresh_journal =
          let l : Layout = layout_of k in
          let sl : length (slot_of moving_bytes) ≡ slot_len = slot_length moving_bytes fourteen in
          rw (is_put k z long (slot_of moving_bytes))
          (one_entry l (sound k) (fresh l) (fresh_opened l (sound k)) (fresh_low l (sound k)) (cleared k z)
          (length_cleared l (sound k) z long) (slot_of moving_bytes) one_room moving_bytes fourteen (omega arith)
          (take_all slot_len (slot_of moving_bytes) (omega arith)) moving (entry_is v w (w + 1) (v + 1) 1 0 t eight) going fresh_ok (omega arith))

      -- and steps 1 to 6 do, unless v is the reserved block
      pub fresh_steps
          : (v ≡ reserved (layout_of k) → ⊥)
          → steps_on (formatted_with k z (slot_of moving_bytes)) ≡ outcome Accepted (applied (layout_of k) (fresh (layout_of k)) moving)
      fresh_steps n =
          let l : Layout = layout_of k in
          rw (is_put k z long (slot_of moving_bytes))
          (moves_steps k (fresh l) (fresh_opened l (sound k)) (fresh_low l (sound k)) (fresh_reserved l (sound k))
          (cleared k z) (length_cleared l (sound k) z long)
          v w (w + 1) (v + 1) 1 0 t hv hw (fresh_free l (sound k) w hw)
          (fresh_number l (sound k) w hw) (fresh_number l (sound k) v hv) first_count_lem (fresh_count l (sound k) v hv) eight n)

      -- then a second slot s
      module _ (s : List ℕ) (size : length s ≡ slot_len) (room : journal_at (layout_of k) + (slot_len + slot_len) ≤ block_len) where
        both : length (slot_of moving_bytes ++ s) ≡ slot_len + slot_len
        both =
            length-append (slot_of moving_bytes) s
            ∙ ap (λ (i : ℕ). i + length s) (slot_length moving_bytes fourteen)
            ∙ ap (λ (i : ℕ). slot_len + i) size

        second : take slot_len (drop slot_len (slot_of moving_bytes ++ s)) ≡ s
        second =
            ap (take slot_len) (drop_at (slot_of moving_bytes) s slot_len (slot_length moving_bytes fourteen))
            ∙ take_all slot_len s (omega arith)

        -- which holds an entry that is not allowed
        pub second_bad_opens
            : twins s ≡ true → (get_or s 0 0 ≡ erased → ⊥)
            → entry_ok (layout_of k) (applied (layout_of k) (fresh (layout_of k)) moving) (entry_of s) ≡ false
            → open_of (formatted_with k z (slot_of moving_bytes ++ s)) ≡ refused (BadEntry 1)
        second_bad_opens same on bad =
            let l : Layout = layout_of k in
            let r : journal_at l + length (slot_of moving_bytes ++ s) ≤ block_len = omega (arith, both) in
            journal_opens k z long (slot_of moving_bytes ++ s) r (BadEntry 1) refl
            (rw (is_put k z long (slot_of moving_bytes ++ s))
            (second_refused l (sound k) (fresh l) (fresh_opened l (sound k)) (fresh_low l (sound k)) (cleared k z)
            (length_cleared l (sound k) z long) (slot_of moving_bytes ++ s) r moving_bytes fourteen (omega (arith, both))
            (take_at (slot_of moving_bytes) s slot_len (slot_length moving_bytes fourteen)) moving
            (entry_is v w (w + 1) (v + 1) 1 0 t eight) going fresh_ok s (omega (arith, both)) second same on bad))
