-- Runs hold refused calls: on the image of case L, straight after its accepted open, a write past the save is refused with 9
-- and a commit with 10, and both leave image, mapping and tape as they are. Assumes nothing.
use mathlib.Core.Path.{◌≡◌, sym, ap, subst⁻¹, ◌∙◌}
use mathlib.Core.Bool.{true}
use mathlib.Core.List.{List, [], ◌∷◌}
use Prim.Native.Nat.{ℕ, ◌+◌, ◌<◌}
use native.Mathlib.Omega.{arith}
use borrow.Author.Tests.{lt-leb}
use lib.ListN.{length}
use Rattle.chip.specs.declared.Chip.TheVariants.{Mib1}
use Rattle.chip.specs.Figures.{layout_of, image_len, save_len, from_len}
use Rattle.chip.proofs.Layouts.{sound, from_own}
use Rattle.answers.specs.declared.Answer.TheVariants.{Accepted, OutOfRange}
use Rattle.mapping.specs.declared.Mapping.{Mapping}
use Rattle.mapping.specs.Blocks.{len_of}
use Rattle.mapping.specs.Fits.{fits}
use Rattle.answers.specs.Answers.{number_of}
use Rattle.answers.proofs.Numbers.{zero_accepted}
use Rattle.mapping.specs.Outcomes.{outcome}
use Rattle.block_zero.specs.Put.{put_map}
use Rattle.journal.specs.Entries.{entry_len}
use Rattle.tickets.proofs.Fitting.{fits_save}
use Rattle.save.specs.Visits.{state}
use Rattle.wear_leveling.specs.Open.{open_of}
use Rattle.wear_leveling.specs.Read.{admission}
use Rattle.wear_leveling.specs.Write.{after_write}
use Rattle.wear_leveling.specs.Commit.{commit_answer, after_commit}
use Rattle.tape.specs.Handed.{Gives}
use Rattle.tape.specs.Run.{write, commit, answer_of, after_all, tape_after}
use Rattle.tape.specs.Cases.{Sized, Eight, AsL, with_slots, slot_of, entry_l, near_l}
use Rattle.tape.proofs.Handed.{given}
use Rattle.tape.proofs.CaseL.{case_l}
use Rattle.tape.proofs.Granted.{write_refused}
use Rattle.tape.proofs.OnCommit.{commit_refused}
use Rattle.tape.proofs.Journaled.{slot_length, length_image}
use Rattle.tape.proofs.Start.{start_good}

-- a range that starts past the save
past_save
    : (image : List ℕ) (m : Mapping) (place n : ℕ)
    → fits (length image) m ≡ true → len_of m < place → admission (length image) m place n ≡ OutOfRange
unfolding admission
past_save image m place n f h = rw (f, lt-leb place (len_of m) h)

-- what is claimed of a run with two refused calls
pub record TwoRefused (image : List ℕ) (place : ℕ) (d : List ℕ) : Type 0 where
  pub mapping : Mapping
  pub opens : open_of image ≡ outcome Accepted mapping
  pub write_9 : Gives (answer_of (write place d) (state image mapping)) 9 0
  pub commit_10 : Gives (answer_of commit (state image mapping)) 10 0
  pub same : after_all (write place d ∷ commit ∷ []) (state image mapping) ≡ state image mapping
  pub tape : (t : List ℕ) → tape_after (write place d ∷ commit ∷ []) (state image mapping) t ≡ t

module _ (image : List ℕ) (m : Mapping) (place : ℕ) (d : List ℕ)
    (nine : Gives (admission (length image) m place (length d)) 9 0) (ten : Gives (commit_answer (length image) m) 10 0) where
  no_write : after_write image m place d ≡ state image m
  no_write = write_refused image m place d (λ e. let z : ◌≡◌ {A = ℕ} 9 0 = sym nine.number_is ∙ ap number_of e in omega arith)

  no_commit : after_commit image m ≡ state image m
  no_commit = commit_refused image m (λ e. let z : ◌≡◌ {A = ℕ} 10 0 = sym ten.number_is ∙ e in omega arith)

  both_same : after_all (write place d ∷ commit ∷ []) (state image m) ≡ state image m
  unfolding after_all
  both_same = rw (no_write, no_commit)

  tape_same : (t : List ℕ) → tape_after (write place d ∷ commit ∷ []) (state image m) t ≡ t
  unfolding tape_after
  tape_same t = rw nine.number_is

-- on every 1 MiB image of case L, for any bytes past its save
pub two_refused
    : (z t : List ℕ) → Sized Mib1 z → Eight t → (d : List ℕ)
    → TwoRefused (with_slots (layout_of Mib1) (put_map (layout_of Mib1) near_l z) (slot_of (entry_l near_l 0 254 t)))
    (save_len (layout_of Mib1) + 1) d
two_refused z t sized eight d =
    record {
      mapping = (open_of image).mapping;
      opens = accepted;
      write_9 = nine;
      commit_10 = ten;
      same = both_same image (open_of image).mapping (save_len (layout_of Mib1) + 1) d nine ten;
      tape = tape_same image (open_of image).mapping (save_len (layout_of Mib1) + 1) d nine ten;
    }
  where
    slot : List ℕ
    slot = slot_of (entry_l near_l 0 254 t)

    image : List ℕ
    image = with_slots (layout_of Mib1) (put_map (layout_of Mib1) near_l z) slot

    size : length (entry_l near_l 0 254 t) ≡ entry_len
    size = omega (arith, eight)

    long : length image ≡ image_len (layout_of Mib1)
    long =
        length_image (layout_of Mib1) (sound Mib1) near_l case_l.0.opened (λ v h e. case_l.0.counts v h) z sized slot
        (omega (arith, slot_length (entry_l near_l 0 254 t) size))

    l_holds : AsL 0 (open_of image)
    l_holds = case_l.1 near_l 0 254 z t case_l.0 (omega arith) sized eight

    accepted : open_of image ≡ outcome Accepted (open_of image).mapping
    accepted = λ i. outcome (zero_accepted (open_of image).answer l_holds.accepted.number_is i) (open_of image).mapping

    ten : Gives (commit_answer (length image) (open_of image).mapping) 10 0
    ten = subst⁻¹ (λ (n : ℕ). Gives (commit_answer n (open_of image).mapping) 10 0) long l_holds.commit

    nine : Gives (admission (length image) (open_of image).mapping (save_len (layout_of Mib1) + 1) (length d)) 9 0
    nine =
        given (past_save image (open_of image).mapping (save_len (layout_of Mib1) + 1) (length d)
        (start_good image (open_of image).mapping accepted).fitting
        (omega (arith, fits_save (length image) (open_of image).mapping (start_good image (open_of image).mapping accepted).fitting Mib1 (ap from_len long ∙ from_own Mib1))))
