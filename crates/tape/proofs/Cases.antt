-- Every case of the table holds. The sums compute; all else is by laws: what a formatted block zero holds, what its journal
-- does with one entry, and what fits. Assumes nothing.
use mathlib.Core.Path.{◌≡◌, refl, ap, ◌∙◌}
use mathlib.Core.Bool.{true, false, and-false}
use mathlib.Core.List.{List}
use Prim.Native.Nat.{ℕ, ◌+◌, ◌-◌, ◌<◌, ◌≤◌}
use native.Mathlib.Omega.{arith}
use lib.ListN.{length, get_or}
use lib.Seq.{get_or-set_same}
use Rattle.lists.specs.Words.{splice, rep}
use Rattle.lists.proofs.Orders.{test_false}
use Rattle.crc16.specs.Crc.{bit_step, byte_step, crc_from}
use Rattle.chip.specs.declared.Chip.{Chip}
use Rattle.chip.specs.declared.Chip.TheVariants.{Kib128, Kib512, Mib1}
use Rattle.chip.specs.Figures.{Layout, layout_of, virtuals, image_len, map_len, save_len}
use Rattle.chip.proofs.Layouts.{sound, from_own}
use Rattle.answers.specs.declared.Answer.TheVariants.{Accepted}
use Rattle.mapping.specs.declared.Block.{Block}
use Rattle.mapping.specs.declared.Mapping.{Mapping}
use Rattle.mapping.specs.declared.Outcome.{Outcome}
use Rattle.mapping.specs.Blocks.{is_free, no_block, block_at, free_at, len_of, with_block}
use Rattle.mapping.specs.Fits.{fits}
use Rattle.mapping.proofs.Fitted.{range_in, in_range}
use Rattle.block_map.specs.Items.{item_at, decoded}
use Rattle.block_zero.specs.Put.{item_pair, fresh, formatted}
use Rattle.block_zero.proofs.RoundTrip.{put_first, put_second}
use Rattle.block_zero.proofs.Settled.{fresh_is, fresh_in, formatted_length}
use Rattle.journal.specs.declared.Entry.{Entry}
use Rattle.journal.specs.Entries.{entry_of, entry_ok, allowed, applied}
use Rattle.tickets.proofs.Fitting.{fits_save}
use Rattle.save.specs.Visits.{first_count, visited_block, visit, visits, written}
use Rattle.wear_leveling.specs.Open.{open_of}
use Rattle.wear_leveling.specs.Read.{admission}
use Rattle.wear_leveling.specs.Write.{after_write}
use Rattle.wear_leveling.specs.Format.{after_format}
use Rattle.wear_leveling.proofs.Admission.{admitted, out_of_range}
use Rattle.wear_leveling.proofs.Formats.{format_leaves}
use Rattle.tape.specs.Handed.{Gives}
use Rattle.tape.specs.Cases.{Case, Claim, A, B, C, D, E, F, G, H, I, J, K, L, AsI}
use Rattle.tape.proofs.Handed.{given, refusal}
use Rattle.tape.proofs.Formatted.{five, fresh_fits, fresh_save, formatted_opens, length_cleared}
use Rattle.tape.proofs.Moves.{entry}
use Rattle.tape.proofs.OnFormatted.{fresh_moved, fresh_steps, torn_opens, second_bad_opens}
use Rattle.tape.proofs.CaseL.{case_l}

case_a : Claim A
unfolding crc_from
case_a = refl

case_b : Claim B
unfolding crc_from byte_step bit_step
case_b = refl

case_c : Claim C
unfolding crc_from byte_step bit_step
case_c = (refl, refl)

case_d : Claim D
unfolding formatted item_pair
case_d z long =
    let l : Layout = layout_of Mib1 in
    let c : List ℕ = splice z 0 (rep (map_len l) 0) in
    let n : length c ≡ image_len l = length_cleared l (sound Mib1) z long in
    let a : after_format z ≡ formatted l z = format_leaves Mib1 z long in
    let f = fresh_in l (sound Mib1) 254 (omega arith) in (
      ap (λ (y : List ℕ). get_or y (item_at l 254) 0) a
          ∙ put_first l (sound Mib1) (fresh l) (fresh_is l (sound Mib1)).tickets c (omega arith) 254 (omega arith)
          ∙ ap (λ (b : Block). get_or (item_pair l b) 0 0) f,
      ap (λ (y : List ℕ). get_or y (item_at l 254 + 1) 0) a
          ∙ put_second l (sound Mib1) (fresh l) (fresh_is l (sound Mib1)).tickets c (omega arith) 254 (omega arith)
          ∙ ap (λ (b : Block). get_or (item_pair l b) 1 0) f,
    )

-- ---- one entry on a formatted image

case_e : Claim E
case_e z t long eight =
    let e = fresh_steps Kib128 0 30 (omega arith) (omega arith) t eight z long (λ q. omega arith) in
    let f = fresh_moved Kib128 0 30 (omega arith) (omega arith) t eight in
    record {
      accepted = given (ap (λ (o : Outcome). o.answer) e);
      block_0 = ap (λ (o : Outcome). block_at o.mapping 0) e ∙ f.v_block;
      block_30 = ap (λ (o : Outcome). block_at o.mapping 30) e ∙ f.w_block (λ q. omega arith);
    }

case_g : Claim G
case_g k z t long eight =
    let h : 5 < virtuals (layout_of k) = five k in
    let e = fresh_steps k 3 3 (omega arith) (omega arith) t eight z long (λ q. omega arith) in
    let f = fresh_moved k 3 3 (omega arith) (omega arith) t eight in
    record {
      accepted = given (ap (λ (o : Outcome). o.answer) e);
      block_3 = ap (λ (o : Outcome). block_at o.mapping 3) e ∙ f.v_block;
    }

-- ---- refused by the journal

case_h : Claim H
case_h k z s long size begins torn = refusal (torn_opens k z s long size torn)

-- an entry whose w is in use
not_free : (l : Layout) (m : Mapping) (e : Entry) → free_at m e.w.0 ≡ false → entry_ok l m e ≡ false
unfolding entry_ok allowed
not_free l m e f = rw f (simp and-false)

case_f : Claim F
unfolding entry_of
case_f z t s long eight size same on zero =
    let l : Layout = layout_of Kib128 in
    let m : Mapping = applied l (fresh l) (entry 0 30 31 1 1 0 t) in
    let used : free_at m 0 ≡ false =
    ap (λ (x : Block). is_free x.condition) (fresh_moved Kib128 0 30 (omega arith) (omega arith) t eight).v_block in
    refusal
    (second_bad_opens Kib128 0 30 (omega arith) (omega arith) t eight z long s size (omega arith) same on
    (not_free l m (entry_of s) (ap (λ (u : ℕ). free_at m u) zero ∙ used)))

-- ranges of each chip
module _ (k : Chip) where
  abbrev n : ℕ
  n = image_len (layout_of k)

  ranges : AsI (image_len (layout_of k)) (save_len (layout_of k))
  ranges =
      record {
        last = λ m f. in_it m f (save_len (layout_of k) - 1) 1 (omega (arith, five k));
        beyond = λ m f. given (out_of_range n m (save_len (layout_of k)) 1 f (test_false _ (λ r. omega (arith, range_in (len_of m) (save_len (layout_of k)) 1 r, save m f))));
        nothing = λ m f. in_it m f (save_len (layout_of k)) 0 (omega arith);
        whole = λ m f. in_it m f 0 (save_len (layout_of k)) (omega arith);
        some = (fresh (layout_of k), fresh_fits k);
      }
    where
      save : (m : Mapping) → fits (image_len (layout_of k)) m ≡ true → len_of m ≡ save_len (layout_of k)
      save m f = fits_save (image_len (layout_of k)) m f k (from_own k)

      in_it
          : (m : Mapping) → fits (image_len (layout_of k)) m ≡ true → (place j : ℕ) → place + j ≤ save_len (layout_of k)
          → Gives (admission (image_len (layout_of k)) m place j) 0 0
      in_it m f place j h = given (admitted n m place j f (in_range (len_of m) place j (omega (arith, save m f))))

case_i : Claim I
case_i = (ranges Kib128, ranges Kib512, ranges Mib1)

case_k : Claim K
unfolding decoded
case_k = refl

case_j : Claim J
unfolding after_write written visits visit visited_block first_count with_block
case_j k z long =
    let l : Layout = layout_of k in
    let h : 5 < virtuals l = five k in
    let a : after_format z ≡ formatted l z = format_leaves k z long in
    let n : length (after_format z) ≡ image_len l = ap length a ∙ formatted_length l (sound k) z (omega arith) ∙ long in
    let ok : (place : ℕ) → place ≤ 512 → admission (length (after_format z)) (fresh l) place 0 ≡ Accepted =
    λ place b.
    ap (λ (i : ℕ). admission i (fresh l) place 0) n
    ∙ admitted (image_len l) (fresh l) place 0 (fresh_fits k) (in_range (len_of (fresh l)) place 0 (omega (arith, fresh_save k))) in
    let f = fresh_in l (sound k) 0 (omega arith) in
    record {
      opens = ap open_of a ∙ formatted_opens k z long;
      accepted = λ place b. given (ok place b);
      at_1 =
          rw (ok 1 (omega arith))
          (get_or-set_same (fresh l).blocks 0 (visited_block (block_at (fresh l) 0)) no_block (omega (arith, (fresh_is l (sound k)).blocks))
          ∙ ap visited_block f);
      at_0 = rw (ok 0 (omega arith));
      at_512 = rw (ok 512 (omega arith));
    }

-- cases A to L
pub every_case : (c : Case) → Claim c
every_case A = case_a
every_case B = case_b
every_case C = case_c
every_case D = case_d
every_case E = case_e
every_case F = case_f
every_case G = case_g
every_case H = case_h
every_case I = case_i
every_case J = case_j
every_case K = case_k
every_case L = case_l
