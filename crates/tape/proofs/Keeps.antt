-- What each call leaves as it was. A refused call is told by its answer; an accepted one by its mapping, which fits, and so
-- by the chip: a write by its visits, a commit by the mapping that it makes and by block zero put from it. Assumes nothing.
use Rattle.std.specs.Prelude.{Option, Some, None}
use mathlib.Core.Path.{◌≡◌, refl, ap, ◌∙◌}
use mathlib.Core.Bool.{not, and-false}
use mathlib.Core.List.{List}
use Prim.Native.Nat.{ℕ, ◌*◌, ◌<◌, ◌≤◌}
use native.Mathlib.Decide.{ℕ_discrete}
use native.Mathlib.Omega.{arith}
use borrow.Author.Tests.{ne_eqb, le-ltb}
use lib.ListN.{length, get_or, take, drop}
use Rattle.chip.specs.declared.Chip.{Chip}
use Rattle.chip.specs.declared.Chip.TheVariants.{Mib1}
use Rattle.chip.specs.Figures.{layout_of, virtuals, block_len, header_len, sectors, from_len, by_chip, records}
use Rattle.chip.proofs.Layouts.{sound, from_own}
use Rattle.answers.specs.declared.Answer.TheVariants.{Accepted, WrongLength}
use Rattle.answers.specs.Answers.{number_of}
use Rattle.answers.proofs.Numbers.{zero_accepted}
use Rattle.mapping.specs.declared.Block.{Block}
use Rattle.mapping.specs.declared.Mapping.{Mapping}
use Rattle.mapping.specs.Blocks.{block_at, count_at}
use Rattle.block_zero.specs.Put.{formatted}
use Rattle.block_zero.proofs.RoundTrip.{put_behind, put_header, put_padding}
use Rattle.tickets.proofs.Fitting.{known_long, fitting}
use Rattle.committing.specs.Committed.{summed, settled_record, new_ticket, committed}
use Rattle.committing.proofs.Renewed.{new_large}
use Rattle.save.specs.Visits.{State}
use Rattle.wear_leveling.specs.Read.{admission, read_into}
use Rattle.wear_leveling.specs.Write.{after_write}
use Rattle.wear_leveling.specs.Commit.{commit_answer, after_commit}
use Rattle.wear_leveling.specs.Format.{format_answer, after_format}
use Rattle.wear_leveling.proofs.Commits.{committed_long, committed_block, committed_record, committed_ticket, commit_fitting, commit_image, commit_mapping}
use Rattle.wear_leveling.proofs.Formats.{format_behind}
use Rattle.tape.specs.Cases.{Sized}
use Rattle.tape.specs.Keeps.{Keeps}
use Rattle.tape.proofs.Granted.{write_is, write_refused, accepted_can}
use Rattle.tape.proofs.OnCommit.{commit_refused}
use Rattle.tape.proofs.Writes.{write_tickets, write_beyond, write_stays}

-- ---- read and format

refused_read
    : (image : List ℕ) (m : Mapping) (place : ℕ) (buf : List ℕ)
    → (number_of (admission (length image) m place (length buf)) ≡ 0 → ⊥) → read_into image m place buf ≡ buf
unfolding read_into
refused_read image m place buf ne = rw (ne_eqb (number_of (admission (length image) m place (length buf))) 0 ne)

refused_format : (z : List ℕ) → (number_of (format_answer (length z)) ≡ 0 → ⊥) → after_format z ≡ z
unfolding format_answer after_format
refused_format z = go (from_len (length z))
  where
    go
        : (o : Option Chip) → (number_of (by_chip o (λ k. Accepted) WrongLength) ≡ 0 → ⊥)
        → by_chip o (λ k. formatted (layout_of k) z) z ≡ z
    go (Some k) ne = absurd (ne refl)
    go None ne = refl

-- ---- write

-- refused or not, by the two ways it can go
by_write {ℓ}
    : {X : Type ℓ} (f : State → X) (image : List ℕ) (m : Mapping) (place : ℕ) (d : List ℕ) (x : X)
    → f (record { image = image; mapping = m }) ≡ x
    → (admission (length image) m place (length d) ≡ Accepted → f (after_write image m place d) ≡ x)
    → f (after_write image m place d) ≡ x
by_write {X = X} f image m place d x left done = go (ℕ_discrete (number_of (admission (length image) m place (length d))) 0)
  where
    go : Dec (number_of (admission (length image) m place (length d)) ≡ 0) → f (after_write image m place d) ≡ x
    go (yes e) = done (zero_accepted (admission (length image) m place (length d)) e)
    go (no ne) = ap f (write_refused image m place d (λ q. ne (ap number_of q))) ∙ left

past_write
    : (k : Chip) (image : List ℕ) (m : Mapping) (place : ℕ) (d : List ℕ) → Sized k image
    → (v : ℕ) → virtuals (layout_of k) ≤ v → block_at (after_write image m place d).mapping v ≡ block_at m v
past_write k image m place d long v h =
    by_write (λ st. block_at st.mapping v) image m place d (block_at m v) refl
    (λ ok.
    ap (λ (st : State). block_at st.mapping v) (write_is image m place d ok)
    ∙ write_beyond image m place d k (ap from_len long ∙ from_own k) ok v (omega arith))

tickets_write : (image : List ℕ) (m : Mapping) (place : ℕ) (d : List ℕ) → (after_write image m place d).mapping.tickets ≡ m.tickets
tickets_write image m place d =
    by_write (λ st. st.mapping.tickets) image m place d m.tickets refl
    (λ ok.
    let f = fitting (length image) m (accepted_can image m place d ok).fitting in
    ap (λ (st : State). st.mapping.tickets) (write_is image m place d ok)
    ∙ write_tickets image m place d f.chip f.known ok)

counts_write
    : (image : List ℕ) (m : Mapping) (place : ℕ) (d : List ℕ) (v : ℕ)
    → 1 ≤ count_at m v → count_at (after_write image m place d).mapping v ≡ count_at m v
counts_write image m place d v h =
    by_write (λ st. count_at st.mapping v) image m place d (count_at m v) refl
    (λ ok.
    let f = fitting (length image) m (accepted_can image m place d ok).fitting in
    ap (λ (st : State). count_at st.mapping v) (write_is image m place d ok)
    ∙ write_stays image m place d f.chip f.known ok v h)

-- ---- commit

by_commit {ℓ}
    : {X : Type ℓ} (f : State → X) (image : List ℕ) (m : Mapping) (x : X)
    → f (record { image = image; mapping = m }) ≡ x
    → ((k : Chip) → from_len (length image) ≡ Some k → commit_answer (length image) m ≡ Accepted → f (after_commit image m) ≡ x)
    → f (after_commit image m) ≡ x
by_commit {X = X} f image m x left done = go (ℕ_discrete (number_of (commit_answer (length image) m)) 0)
  where
    go : Dec (number_of (commit_answer (length image) m) ≡ 0) → f (after_commit image m) ≡ x
    go (yes e) =
        let ok : commit_answer (length image) m ≡ Accepted = zero_accepted (commit_answer (length image) m) e in
        let r = fitting (length image) m (commit_fitting (length image) m ok) in
        done r.chip r.known ok
    go (no ne) = ap f (commit_refused image m ne) ∙ left

data_commit : (image : List ℕ) (m : Mapping) → drop block_len (after_commit image m).image ≡ drop block_len image
data_commit image m =
    by_commit (λ st. drop block_len st.image) image m (drop block_len image) refl
    (λ k known ok.
    ap (drop block_len) (commit_image image m k known ok)
    ∙ put_behind (layout_of k) (sound k) (committed (layout_of k) image m) (committed_long (layout_of k) image m) image
    (known_long (length image) k known))

header_commit : (image : List ℕ) (m : Mapping) → take header_len (after_commit image m).image ≡ take header_len image
header_commit image m =
    by_commit (λ st. take header_len st.image) image m (take header_len image) refl
    (λ k known ok.
    ap (take header_len) (commit_image image m k known ok)
    ∙ put_header (layout_of k) (sound k) (committed (layout_of k) image m) (committed_long (layout_of k) image m) image
    (known_long (length image) k known))

module _ (k : Chip) (image : List ℕ) (m : Mapping) (long : Sized k image) where
  known : from_len (length image) ≡ Some k
  known = ap from_len long ∙ from_own k

  past_record : (v : ℕ) → virtuals (layout_of k) ≤ v → settled_record (layout_of k) m v ≡ block_at m v
  unfolding settled_record
  past_record v h = rw (le-ltb v (virtuals (layout_of k)) h)

  past_commit : (v : ℕ) → virtuals (layout_of k) ≤ v → v < records → block_at (after_commit image m).mapping v ≡ block_at m v
  past_commit v h b =
      by_commit (λ st. block_at st.mapping v) image m (block_at m v) refl
      (λ c is ok.
      ap (λ (n : Mapping). block_at n v) (commit_mapping image m k known ok)
      ∙ committed_record (layout_of k) image m v b
      ∙ past_record v h)

  counts_commit : (v : ℕ) → v < virtuals (layout_of k) → count_at (after_commit image m).mapping v ≡ count_at m v
  counts_commit v h =
      by_commit (λ st. count_at st.mapping v) image m (count_at m v) refl
      (λ c is ok.
      ap (λ (n : Mapping). count_at n v) (commit_mapping image m k known ok)
      ∙ ap (λ (b : Block). b.count) (committed_block (layout_of k) image m (omega (arith, (sound k).few)) v h))

  -- a ticket that is not renewed
  same_ticket
      : (j : ℕ) → j < records * sectors → new_ticket (layout_of k) image m j ≡ get_or m.tickets j 0
      → get_or (after_commit image m).mapping.tickets j 0 ≡ get_or m.tickets j 0
  same_ticket j b e =
      by_commit (λ st. get_or st.mapping.tickets j 0) image m (get_or m.tickets j 0) refl
      (λ c is ok.
      ap (λ (n : Mapping). get_or n.tickets j 0) (commit_mapping image m k known ok)
      ∙ committed_ticket (layout_of k) image m j b
      ∙ e)

  past_ticket : (j : ℕ) → virtuals (layout_of k) * sectors ≤ j → new_ticket (layout_of k) image m j ≡ get_or m.tickets j 0
  unfolding new_ticket summed
  past_ticket j h = rw (le-ltb j (virtuals (layout_of k) * sectors) h, and-false (not (layout_of k).large))

padding_commit
    : (image : List ℕ) (m : Mapping) → Sized Mib1 image
    → (i : ℕ) → 0x206 ≤ i → i ≤ 0x3FD → get_or (after_commit image m).image i 0 ≡ get_or image i 0
padding_commit image m long i p q =
    by_commit (λ st. get_or st.image i 0) image m (get_or image i 0) refl
    (λ c is ok.
    ap (λ (y : List ℕ). get_or y i 0) (commit_image image m Mib1 (known Mib1 image m long) ok)
    ∙ put_padding (layout_of Mib1) (sound Mib1) (committed (layout_of Mib1) image m) (committed_long (layout_of Mib1) image m) image
    (known_long (length image) Mib1 (known Mib1 image m long)) refl i (omega arith) (omega arith))

pub each_keeps : Keeps
each_keeps =
    record {
      read_refused = refused_read;
      write_refused = λ image m place d ne. write_refused image m place d (λ q. ne (ap number_of q));
      commit_refused = commit_refused;
      format_refused = refused_format;
      commit_data = data_commit;
      format_data = format_behind;
      commit_header = header_commit;
      commit_padding = padding_commit;
      write_past = past_write;
      commit_past = past_commit;
      commit_past_tickets = λ k image m long j h b. same_ticket k image m long j b (past_ticket k image m long j h);
      write_tickets = tickets_write;
      commit_large_tickets = λ image m long j b. same_ticket Mib1 image m long j b (new_large (layout_of Mib1) image m refl j);
      write_counts = counts_write;
      commit_counts = counts_commit;
    }
