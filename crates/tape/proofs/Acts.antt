-- A theorem about the definitions for each wrong library that 01, "How tight the promises are", names; of such a library it
-- would be false. Not everything is refused: what format leaves opens, and commits after any calls on it are accepted. A read
-- is no constant and a write stores: what was written is read. A commit acts. A count is the entry's; that a replay applies
-- every entry is in Table (`steps_0`). Assumes nothing.
use Rattle.std.specs.Prelude.{Some}
use mathlib.Core.Path.{◌≡◌, sym, ap, ◌∙◌}
use mathlib.Core.Bool.{true, false}
use mathlib.Core.List.{List}
use Prim.Native.Nat.{ℕ, ◌+◌, ◌*◌, ◌<◌, ◌≤◌}
use native.Mathlib.Omega.{arith}
use lib.ListN.{length}
use Rattle.lists.specs.Words.{splice}
use Rattle.lists.proofs.Orders.{not_both}
use Rattle.lists.proofs.Windows.{window-splice}
use Rattle.chip.specs.declared.Chip.{Chip}
use Rattle.chip.specs.Figures.{Layout, layout_of, virtuals, sectors, image_len, from_len, records}
use Rattle.chip.proofs.Layouts.{sound, from_own}
use Rattle.answers.specs.declared.Answer.TheVariants.{Accepted}
use Rattle.mapping.specs.declared.Condition.TheVariants.{Clean, Changed}
use Rattle.mapping.specs.declared.Mapping.{Mapping}
use Rattle.mapping.specs.Blocks.{block_of, block_at, len_of}
use Rattle.mapping.specs.Fits.{fits}
use Rattle.mapping.specs.Outcomes.{outcome}
use Rattle.mapping.proofs.Fitted.{in_range}
use Rattle.block_zero.specs.Put.{fresh}
use Rattle.block_zero.proofs.Settled.{formatted_length}
use Rattle.journal.specs.declared.Entry.{Entry}
use Rattle.journal.specs.Entries.{applied}
use Rattle.journal.proofs.Relational.{applied_moved}
use Rattle.tickets.proofs.Fitting.{fits_save}
use Rattle.committing.specs.Committed.{is_changed}
use Rattle.save.specs.Save.{save_bytes}
use Rattle.save.specs.Visits.{State, state, written}
use Rattle.save.proofs.ByBlocks.{length_save}
use Rattle.wear_leveling.specs.Open.{open_of}
use Rattle.wear_leveling.specs.Read.{admission, read_into}
use Rattle.wear_leveling.specs.Write.{after_write}
use Rattle.wear_leveling.specs.Commit.{commit_answer, after_commit}
use Rattle.wear_leveling.specs.Format.{after_format}
use Rattle.wear_leveling.proofs.Admission.{admitted}
use Rattle.wear_leveling.proofs.Commits.{commit_clean}
use Rattle.wear_leveling.proofs.Formats.{format_leaves}
use Rattle.tape.specs.Run.{Call, commit, answer_of, after_all}
use Rattle.tape.proofs.Counts.{low_commits}
use Rattle.tape.proofs.Demand.{read_tape}
use Rattle.tape.proofs.Formatted.{fresh_count, formatted_opens}
use Rattle.tape.proofs.Granted.{write_is, accepted_can}
use Rattle.tape.proofs.Start.{chip, known, start_good}
use Rattle.tape.proofs.Writes.{write_save, write_length, write_fits}

-- what format leaves opens, all blocks free (demand 2: 0 is given when all steps hold), and whatever is called then, a commit
-- is accepted: straight away, or after a write
module _ (k : Chip) (z : List ℕ) (long : length z ≡ image_len (layout_of k)) where
  pub some_opens : open_of (after_format z) ≡ outcome Accepted (fresh (layout_of k))
  some_opens = ap open_of (format_leaves k z long) ∙ formatted_opens k z long

  pub some_commits : (cs : List Call) → answer_of commit (after_all cs (state (after_format z) (fresh (layout_of k)))) ≡ Accepted
  some_commits cs =
      low_commits k cs (state (after_format z) (fresh (layout_of k))) (save_bytes (after_format z) (fresh (layout_of k)))
      (rw same at (start_good (after_format z) (fresh (layout_of k)) some_opens))
      (λ v h. omega (arith, fresh_count (layout_of k) (sound k) v h))
    where
      size : length (after_format z) ≡ image_len (layout_of k)
      size = ap length (format_leaves k z long) ∙ formatted_length (layout_of k) (sound k) z (omega (arith, (sound k).some)) ∙ long

      same : chip (after_format z) (fresh (layout_of k)) some_opens ≡ k
      same =
          let d : Some (chip (after_format z) (fresh (layout_of k)) some_opens) ≡ Some k =
          sym (known (after_format z) (fresh (layout_of k)) some_opens) ∙ ap from_len size ∙ from_own k in
          cc

-- what an accepted write stored is what a read of as many bytes gives (demand 3's tape): so a read of constant 0xFF and a
-- write that stores nothing are both ruled out
pub write_reads
    : (image : List ℕ) (m : Mapping) (k : Chip) (place : ℕ) (d buf : List ℕ)
    → from_len (length image) ≡ Some k
    → admission (length image) m place (length d) ≡ Accepted
    → length buf ≡ length d
    → read_into (after_write image m place d).image (after_write image m place d).mapping place buf ≡ d
write_reads image m k place d buf is ok size =
    rw (write_is image m place d ok)
    (read_tape new.image new.mapping (splice (save_bytes image m) place d) place buf
    (admitted (length new.image) new.mapping place (length buf) fit (in_range (len_of new.mapping) place (length buf) (omega (arith, inside, save, size))))
    (write_save image m place d k is ok)
    ∙ rw size (window-splice 0 (save_bytes image m) place d (omega (arith, inside, length_save image m))))
  where
    new : State
    new = written place d (state image m)

    inside : place + length d ≤ len_of m
    inside = (accepted_can image m place d ok).inside

    fit : fits (length new.image) new.mapping ≡ true
    fit = write_fits image m place d k is ok

    save : len_of new.mapping ≡ len_of m
    save =
        fits_save (length new.image) new.mapping fit k (ap from_len (write_length image m place d k is ok) ∙ is)
        ∙ sym (fits_save (length image) m (accepted_can image m place d ok).fitting k is)

-- an accepted commit of a changed block changes the mapping (demand 3's fresh open)
pub commit_acts
    : (image : List ℕ) (m : Mapping) (k : Chip) (v : ℕ)
    → from_len (length image) ≡ Some k
    → commit_answer (length image) m ≡ Accepted
    → v < virtuals (layout_of k)
    → (block_at m v).condition ≡ Changed
    → after_commit image m ≡ state image m
    → ⊥
commit_acts image m k v known ok h c e =
    let clean : is_changed (block_at m v).condition ≡ false = rw e at (commit_clean image m k known ok v h) in
    let changed : is_changed (block_at m v).condition ≡ true = ap is_changed c in
    not_both changed clean

-- v has the number and the count of an applied entry (demand 2 gives each count after each entry)
pub entry_counts
    : (l : Layout) (m : Mapping) (e : Entry)
    → length m.blocks ≡ records
    → length m.tickets ≡ records * sectors
    → e.v.0 < records
    → e.w.0 < records
    → length e.tickets ≡ sectors
    → block_at (applied l m e) e.v.0 ≡ block_of e.p.0 e.c Clean
entry_counts l m e a b c d t = (applied_moved l m e a b c d t).v_block
