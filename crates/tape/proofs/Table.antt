-- Every row of the tables holds: open's by Opening, those of read, write and commit by the tests for 8, 9 and 10 as facts, and
-- the chips' figures compute. Assumes nothing.
use mathlib.Core.Path.{◌≡◌, refl, ap, ◌∙◌}
use mathlib.Core.Bool.{true, false}
use mathlib.Core.List.{List}
use Prim.Native.Nat.{ℕ, ◌+◌, ◌*◌, ◌/◌, ◌%◌, ◌<◌}
use native.Mathlib.Omega.{arith}
use lib.ListN.{length, get_or, length-replicate, get_or-replicate, get_or-eq_default}
use Rattle.lists.proofs.Orders.{split, test_false}
use Rattle.chip.specs.declared.Chip.{Chip}
use Rattle.chip.specs.declared.Chip.TheVariants.{Kib128, Kib512, Mib1}
use Rattle.chip.specs.Figures.{layout_of, virtuals, block_len, erased, image_len, map_len, item_len, journal_at, save_len, slot_count, from_len, by_chip, records}
use Rattle.chip.proofs.Layouts.{from_own, from_none}
use Rattle.answers.specs.declared.Answer.TheVariants.{Accepted, DoesNotFit}
use Rattle.mapping.specs.declared.Mapping.{Mapping}
use Rattle.mapping.specs.declared.Outcome.{Outcome}
use Rattle.mapping.specs.Blocks.{no_block, blank, block_at, number_at, free_at, len_of}
use Rattle.mapping.specs.Fits.{fits}
use Rattle.mapping.specs.Fitted.{Fitted}
use Rattle.mapping.specs.Outcomes.{outcome}
use Rattle.mapping.proofs.Fitted.{fits_fitted, fitted_fits, range_in, in_range}
use Rattle.block_map.specs.Items.{decoded}
use Rattle.save.specs.Save.{byte_at, save_bytes}
use Rattle.save.proofs.ByBlocks.{save_at}
use Rattle.wear_leveling.specs.Open.{open_of}
use Rattle.wear_leveling.specs.Commit.{commit_answer}
use Rattle.wear_leveling.proofs.Admission.{not_fitting, out_of_range, admitted, blank_admission, blank_commit}
use Rattle.wear_leveling.proofs.Formats.{format_accepts, format_refuses, format_keeps}
use Rattle.tape.specs.Opening.{NoChip}
use Rattle.tape.specs.Table.{Row, Chips, Table}
use Rattle.tape.proofs.Opening.{no_chip, wrong_length, wrong_sum, wrong_number, wrong_copies, wrong_entry, wrong_reserved, all_steps, last_opens, wrong_ticket, right_tickets, wrong_first, open_blanked}
use Rattle.tape.proofs.Handed.{given, refusal}
use Rattle.tape.proofs.Refuses.{commit_refuses}

free_byte : (image : List ℕ) (m : Mapping) (i : ℕ) → i < len_of m → free_at m (i / block_len) ≡ true → get_or (save_bytes image m) i 0 ≡ erased
unfolding byte_at
free_byte image m i h e = save_at image m i h ∙ rw e

used_byte
    : (image : List ℕ) (m : Mapping) (i : ℕ) → i < len_of m → free_at m (i / block_len) ≡ false
    → get_or (save_bytes image m) i 0 ≡ get_or image (number_at m (i / block_len) * block_len + i % block_len) 0
unfolding byte_at
used_byte image m i h e = save_at image m i h ∙ rw e

not_fits : (n : ℕ) (m : Mapping) → (Fitted n m → ⊥) → fits n m ≡ false
not_fits n m h = test_false (fits n m) (λ e. h (fits_fitted n m e))

commit_unfit : (n : ℕ) (m : Mapping) → (Fitted n m → ⊥) → commit_answer n m ≡ DoesNotFit
unfolding commit_answer
commit_unfit n m h = rw (not_fits n m h)

blank_record : (v : ℕ) → block_at blank v ≡ no_block
unfolding blank
blank_record v =
    split records v
    (λ p. get_or-eq_default blank.blocks no_block {n = v} (omega (arith, length-replicate records no_block)))
    (λ p. get_or-replicate records v no_block no_block p)

blank_none : blank.len ≡ 0
unfolding blank
blank_none = refl

len_of_lem : (k : Chip) (m : Mapping) → m.len ≡ image_len (layout_of k) → len_of m ≡ save_len (layout_of k)
unfolding len_of
len_of_lem k m e =
    ap (λ (n : ℕ). by_chip (from_len n) (λ c. save_len (layout_of c)) 0) e
    ∙ ap (λ o. by_chip o (λ c. save_len (layout_of c)) 0) (from_own k)

len_none : (m : Mapping) → NoChip m.len → len_of m ≡ 0
unfolding len_of
len_none m h = rw (from_none m.len (no_chip m.len h))

-- the table of chips
row : (k : Chip) → Row (layout_of k) (image_len (layout_of k)) (layout_of k).p (virtuals (layout_of k)) (map_len (layout_of k)) (item_len (layout_of k)) (journal_at (layout_of k)) (slot_count (layout_of k)) (save_len (layout_of k))
row k =
    record {
      image_is = refl;
      p_is = refl;
      v_is = refl;
      map_is = refl;
      item_is = refl;
      journal_is = refl;
      slots_is = refl;
      save_is = refl;
    }

pub every_chip : Chips
unfolding decoded
every_chip = record { kib_128 = row Kib128; kib_512 = row Kib512; mib_1 = row Mib1; small_item_is = λ l e. rw e }

-- the table of answers
pub every_row : Table
every_row =
    record {
      open_1 = λ image h. refusal (wrong_length image h);
      format_1 = λ z h. (given (format_refuses z (no_chip (length z) h)), format_keeps z (no_chip (length z) h));
      format_0 = λ k z long. given (format_accepts k z long);
      open_2 = λ k image long h. refusal (wrong_sum k image long h);
      open_3 = λ k image v long sum h fine bad. refusal (wrong_number k image long v sum h fine bad);
      open_4 = λ k image j long r h ne. refusal (wrong_copies k image long j r h ne);
      open_5 = λ k image j long r h t bad. refusal (wrong_entry k image long j r h t bad);
      open_6 = λ k image j long r end e. refusal (wrong_reserved k image long j r end e);
      open_6_last = (
        λ z t long eight. refusal (last_opens Kib128 z t long eight),
        λ z t long eight. refusal (last_opens Kib512 z t long eight),
        λ z t long eight. refusal (last_opens Mib1 z t long eight),
      );
      steps_0 = λ k image j long r end e. all_steps k image long j r end e;
      open_7 = λ k image m b s n long e w. refusal (wrong_ticket k image m b s w n long e);
      open_7_first = λ k z t n long eight ne. refusal (wrong_first k z t n long eight ne);
      open_0 = λ k image m long e right.
          let o : open_of image ≡ outcome Accepted m = right_tickets k image m long e right in
          (o, given (ap (λ (x : Outcome). x.answer) o));
      open_blank = open_blanked;
      range_8 = λ n m place j h. given (not_fitting n m place j (not_fits n m h));
      range_9 = λ n m place j r h.
          given (out_of_range n m place j (fitted_fits n m r) (test_false _ (λ e. omega (arith, range_in (len_of m) place j e))));
      range_0 = λ n m place j r h. given (admitted n m place j (fitted_fits n m r) (in_range (len_of m) place j h));
      read_free = free_byte;
      read_used = used_byte;
      commit_8 = λ n m h. given (commit_unfit n m h);
      commit_10 = λ n m r. commit_refuses m n r.chip (ap from_len r.image ∙ from_own r.chip) (fitted_fits n m r);
      blank_len = blank_none;
      blank_blocks = blank_record;
      blank_range = λ n place j. given (blank_admission n place j);
      blank_commit = λ n. given (blank_commit n);
      len_128 = λ m e. len_of_lem Kib128 m e;
      len_512 = λ m e. len_of_lem Kib512 m e;
      len_1024 = λ m e. len_of_lem Mib1 m e;
      len_0 = λ m h. len_none m h;
    }
