-- What an accepted commit does, for those who work on: the save's bytes stay, since numbers start at 1 and block zero is all
-- that is stored to; the mapping goes on fitting, since numbers and free blocks stay; and no block is changed any more.
-- Assumes nothing.
use Rattle.std.specs.Prelude.{Some}
use mathlib.Core.Path.{◌≡◌, refl, sym, ap, ◌∙◌}
use mathlib.Core.Bool.{true, false}
use mathlib.Core.List.{List}
use Prim.Native.Nat.{ℕ, ◌+◌, ◌-◌, ◌*◌, ◌/◌, ◌%◌, ◌<◌, ◌≤◌}
use native.Mathlib.Omega.{arith}
use borrow.Author.Tests.{lt-ltb}
use lib.ListN.{length, get_or}
use lib.Seq.{get_or-drop}
use Rattle.lists.proofs.Orders.{by_test}
use Rattle.lists.proofs.Tabulate.{length-tabulate, get_or-tabulate, tabulate_ext}
use Rattle.chip.specs.declared.Chip.{Chip}
use Rattle.chip.specs.Figures.{Layout, layout_of, virtuals, block_len, sectors, save_len, reserved, from_len, records}
use Rattle.chip.proofs.Layouts.{sound}
use Rattle.answers.specs.declared.Answer.TheVariants.{Accepted, DoesNotFit}
use Rattle.mapping.specs.declared.Block.{Block}
use Rattle.mapping.specs.declared.Condition.{Condition}
use Rattle.mapping.specs.declared.Condition.TheVariants.{Free, Clean, Changed}
use Rattle.mapping.specs.declared.Mapping.{Mapping}
use Rattle.mapping.specs.Blocks.{is_free, no_block, block_at, number_at, free_at, len_of}
use Rattle.mapping.specs.Fits.{Apart, fits}
use Rattle.block_zero.specs.Put.{put_map}
use Rattle.block_zero.proofs.RoundTrip.{put_behind}
use Rattle.tickets.proofs.Fitting.{known_long, fits_len, fits_apart, fits_reserved, fits_save, fits_by}
use Rattle.committing.specs.Committed.{is_changed, clean_condition, cleaned, settled_record, new_ticket, committed}
use Rattle.save.specs.Save.{byte_at, save_bytes}
use Rattle.wear_leveling.specs.Commit.{commit_answer, committed_on, after_commit}

-- ---- a condition that was cleaned

clean_free : (d : Condition) → is_free (clean_condition d) ≡ is_free d
clean_free Free = refl
clean_free Clean = refl
clean_free Changed = refl

clean_settled : (d : Condition) → is_changed (clean_condition d) ≡ false
clean_settled Free = refl
clean_settled Clean = refl
clean_settled Changed = refl

-- ---- the new mapping

module _ (l : Layout) (image : List ℕ) (m : Mapping) where
  pub committed_len : (committed l image m).len ≡ m.len
  unfolding committed
  committed_len = refl

  pub committed_long : length (committed l image m).tickets ≡ records * sectors
  unfolding committed
  committed_long = length-tabulate (new_ticket l image m) (records * sectors)

  -- "entries past V are ignored and kept"
  pub committed_record : (v : ℕ) → v < records → block_at (committed l image m) v ≡ settled_record l m v
  unfolding committed
  committed_record v h = get_or-tabulate (settled_record l m) records v no_block h

  pub committed_ticket : (s : ℕ) → s < records * sectors → get_or (committed l image m).tickets s 0 ≡ new_ticket l image m s
  unfolding committed
  committed_ticket s h = get_or-tabulate (new_ticket l image m) (records * sectors) s 0 h

  module _ (few : virtuals l ≤ records) (v : ℕ) (h : v < virtuals l) where
    pub committed_block : block_at (committed l image m) v ≡ cleaned (block_at m v)
    unfolding settled_record
    committed_block = committed_record v (omega arith) ∙ rw (lt-ltb v (virtuals l) h)

    pub committed_number : number_at (committed l image m) v ≡ number_at m v
    committed_number = ap (λ (b : Block). b.physical.0) committed_block

    pub committed_free : free_at (committed l image m) v ≡ free_at m v
    committed_free = ap (λ (b : Block). is_free b.condition) committed_block ∙ clean_free (block_at m v).condition

    pub committed_clean : is_changed (block_at (committed l image m) v).condition ≡ false
    committed_clean = ap (λ (b : Block). is_changed b.condition) committed_block ∙ clean_settled (block_at m v).condition

-- ---- an accepted commit

-- its mapping fits
pub commit_fitting : (n : ℕ) (m : Mapping) → commit_answer n m ≡ Accepted → fits n m ≡ true
unfolding commit_answer
commit_fitting n m accepted =
    by_test (fits n m) (λ t. t)
    (λ t.
    let d : DoesNotFit ≡ Accepted = rw t at accepted in
    let z : ◌≡◌ {A = ℕ} 0 1 = cc in
    absurd (omega arith))

module _
    (image : List ℕ) (m : Mapping) (k : Chip)
    (known : from_len (length image) ≡ Some k) (accepted : commit_answer (length image) m ≡ Accepted)
  where
    few : virtuals (layout_of k) ≤ records
    few = omega (arith, (sound k).few)

    fitted : fits (length image) m ≡ true
    fitted = commit_fitting (length image) m accepted

    pub commit_is : after_commit image m ≡ committed_on (layout_of k) image m
    unfolding after_commit
    commit_is = rw (accepted, known)

    pub commit_image : (after_commit image m).image ≡ put_map (layout_of k) (committed (layout_of k) image m) image
    unfolding committed_on
    commit_image = rw commit_is

    pub commit_mapping : (after_commit image m).mapping ≡ committed (layout_of k) image m
    unfolding committed_on
    commit_mapping = rw commit_is

    -- data blocks are not stored to
    pub commit_behind : (i : ℕ) → block_len ≤ i → get_or (after_commit image m).image i 0 ≡ get_or image i 0
    commit_behind i h =
        let e : block_len + (i - block_len) ≡ i = omega arith in
        let z : List ℕ = put_map (layout_of k) (committed (layout_of k) image m) image in
        ap (λ (y : List ℕ). get_or y i 0) commit_image
        ∙ ap (λ (j : ℕ). get_or z j 0) (sym e)
        ∙ sym (get_or-drop block_len z (i - block_len) 0)
        ∙ ap (λ (y : List ℕ). get_or y (i - block_len) 0)
        (put_behind (layout_of k) (sound k) (committed (layout_of k) image m) (committed_long (layout_of k) image m) image
        (known_long (length image) k known))
        ∙ get_or-drop block_len image (i - block_len) 0
        ∙ ap (λ (j : ℕ). get_or image j 0) e

    -- the mapping goes on fitting
    pub commit_fits : fits (length image) (after_commit image m).mapping ≡ true
    commit_fits = ap (fits (length image)) commit_mapping ∙ new_fits
      where
        old : Apart m (virtuals (layout_of k))
        old = fits_apart (length image) m fitted k known

        number : (v : ℕ) → v < virtuals (layout_of k) → number_at (committed (layout_of k) image m) v ≡ number_at m v
        number v h = committed_number (layout_of k) image m few v h

        new_fits : fits (length image) (committed (layout_of k) image m) ≡ true
        new_fits =
            fits_by (length image) (committed (layout_of k) image m) k known
            (committed_len (layout_of k) image m ∙ fits_len (length image) m fitted)
            (record {
              low = λ v h. omega (arith, old.low v h, number v h);
              high = λ v h. omega (arith, old.high v h, number v h);
              apart = λ u v hu hv e. old.apart u v hu hv (sym (number u hu) ∙ e ∙ number v hv);
            })
            (committed_free (layout_of k) image m few (reserved (layout_of k)) (omega (arith, (sound k).some))
            ∙ fits_reserved (length image) m fitted k known)

    -- no block is changed any more
    pub commit_clean : (v : ℕ) → v < virtuals (layout_of k) → is_changed (block_at (after_commit image m).mapping v).condition ≡ false
    commit_clean v h = rw commit_mapping (committed_clean (layout_of k) image m few v h)

    -- and so does the save's length
    pub commit_len : len_of (after_commit image m).mapping ≡ len_of m
    unfolding len_of
    commit_len = rw (commit_mapping, committed_len (layout_of k) image m)

    pub commit_byte
        : (i : ℕ) → i < len_of m → byte_at (after_commit image m).image (after_commit image m).mapping i ≡ byte_at image m i
    unfolding byte_at
    commit_byte i h =
        let b : i < save_len (layout_of k) = rw (fits_save (length image) m fitted k known) at h in
        let v : i / block_len < virtuals (layout_of k) = omega arith in
        let low : 1 ≤ number_at m (i / block_len) = (fits_apart (length image) m fitted k known).low (i / block_len) v in
        rw (
          commit_mapping,
          committed_free (layout_of k) image m few (i / block_len) v,
          committed_number (layout_of k) image m few (i / block_len) v,
          commit_behind (number_at m (i / block_len) * block_len + i % block_len) (omega arith),
        )

    -- the save's bytes stay
    pub commit_save : save_bytes (after_commit image m).image (after_commit image m).mapping ≡ save_bytes image m
    unfolding save_bytes
    commit_save =
        rw commit_len
        (tabulate_ext (byte_at (after_commit image m).image (after_commit image m).mapping) (byte_at image m) (len_of m) commit_byte)
