-- A write is its visits one after the other, so what each keeps all keep. After those before sector s the save is the one
-- that was, with the bytes for sectors before s put in their place; the next part stands where these end, and the last one
-- ends where the write does. Assumes nothing.
use Rattle.std.specs.Prelude.{Some}
use mathlib.Core.Path.{◌≡◌, refl, sym, ap, ◌∙◌}
use mathlib.Core.Bool.{true}
use mathlib.Core.List.{List}
use Prim.Native.Nat.{ℕ, zero, suc, ◌+◌, ◌-◌, ◌*◌, ◌/◌, ◌≤◌, ◌<◌}
use native.Mathlib.Omega.{arith}
use lib.ListN.{length, take, drop}
use lib.Seq.{take_all}
use Rattle.lists.specs.Words.{splice}
use Rattle.lists.proofs.Orders.{split}
use Rattle.lists.proofs.Splice.{splice-nil}
use Rattle.lists.proofs.Windows.{length-window, get_or-window, window_ext}
use Rattle.crc16.specs.Crc.{crc16, ticket_of}
use Rattle.chip.specs.declared.Chip.{Chip}
use Rattle.chip.specs.Figures.{layout_of, virtuals, reserved, block_len, sector_len, sectors, save_len, from_len, by_chip}
use Rattle.chip.proofs.Layouts.{sound, from_is}
use Rattle.answers.specs.declared.Answer.TheVariants.{Accepted}
use Rattle.mapping.specs.declared.Block.{Block}
use Rattle.mapping.specs.declared.Condition.TheVariants.{Changed}
use Rattle.mapping.specs.declared.Mapping.{Mapping}
use Rattle.mapping.specs.Blocks.{is_free, block_at, number_at, count_at, len_of}
use Rattle.mapping.specs.Fits.{fits, Apart}
use Rattle.tickets.specs.Tickets.{sector_place, ticket_in}
use Rattle.tickets.proofs.Fitting.{fits_len, fits_apart, fits_reserved, fits_save, fits_by, fits_lies}
use Rattle.save.specs.Save.{save_bytes}
use Rattle.save.specs.Visits.{State, state, first_sector, end_sector, visit_count, visits, written, CanWrite}
use Rattle.save.proofs.ByBlocks.{length_save}
use Rattle.save.proofs.Visits.{Carried, visits_kept}
use Rattle.wear_leveling.specs.Read.{admission}
use Rattle.tape.proofs.Stored.{done, done_none, done_all, grown}
use Rattle.tape.proofs.Visited.{Laid, visit_changed, visit_stays, visit_count_lem, visit_numbered, visit_save, Since, since_more}
use Rattle.tape.proofs.Granted.{accepted_can}

-- an accepted write, on the chip of the image's length
module _ (image : List ℕ) (m : Mapping) (place : ℕ) (d : List ℕ) (k : Chip) (known : from_len (length image) ≡ Some k)
    (ok : admission (length image) m place (length d) ≡ Accepted) where
  -- image and mapping after it
  abbrev pub new : State
  new = written place d (state image m)

  can : CanWrite image m place (length d)
  can = accepted_can image m place d ok

  -- image and mapping so far, after the first j visits
  so_far : ℕ → State
  so_far j = visits place d j (state image m)

  kept : (j : ℕ) → j ≤ visit_count place (length d) → Carried (state image m) (so_far j)
  unfolding so_far
  kept j h = visits_kept place d (state image m) can j h

  kept_save : (j : ℕ) → j ≤ visit_count place (length d) → len_of (so_far j).mapping ≡ len_of m
  unfolding len_of
  kept_save j h = ap (λ (x : ℕ). by_chip (from_len x) (λ c. save_len (layout_of c)) 0) (kept j h).len_kept

  kept_apart : (j : ℕ) → j ≤ visit_count place (length d) → Apart (so_far j).mapping (virtuals (layout_of k))
  kept_apart j h =
      let a = fits_apart (length image) m can.fitting k known in
      let s : (v : ℕ) → number_at (so_far j).mapping v ≡ number_at m v = (kept j h).number_kept in
      record {
        low = λ v b. rw (s v) (a.low v b);
        high = λ v b. rw (s v) (a.high v b);
        apart = λ u v bu bv e. a.apart u v bu bv (sym (s u) ∙ e ∙ s v);
      }

  kept_laid : (j : ℕ) → j ≤ visit_count place (length d) → Laid (virtuals (layout_of k)) (so_far j)
  kept_laid j h =
      record {
        numbers = kept_apart j h;
        image = omega (arith, (kept j h).length_kept, from_is (length image) k known, (sound k).some);
        save = kept_save j h ∙ fits_save (length image) m can.fitting k known;
      }

  visits_save
      : (j : ℕ) → j ≤ visit_count place (length d)
      → save_bytes (so_far j).image (so_far j).mapping
      ≡ splice (save_bytes image m) place (take (done place (length d) (first_sector place + j)) d)
  unfolding so_far visits
  visits_save zero h =
      rw (done_none place (length d)) (sym (splice-nil (save_bytes image m) place (omega (arith, can.inside, length_save image m))))
  visits_save (suc j) h =
      let s : ℕ = first_sector place + j in
      let e : first_sector place + suc j ≡ s + 1 = omega arith in
      visit_save place d s (omega arith) (omega arith) (virtuals (layout_of k)) (so_far j) (kept_laid j (omega arith))
      (omega (arith, can.inside, kept_save j (omega arith)))
      ∙ rw (visits_save j (omega arith), e)
      (grown (save_bytes image m) place d s (omega (arith, can.inside, length_save image m)) (omega arith) (omega arith))

  visits_since : (j : ℕ) → j ≤ visit_count place (length d) → Since (virtuals (layout_of k)) (state image m) (so_far j)
  unfolding so_far visits
  visits_since zero h =
      record {
        blocks = refl;
        unvisited = λ v ne. refl;
        bytes = λ v o b c ne. refl;
        beyond = λ v b. refl;
        zeroth = λ q b. refl;
      }
  visits_since (suc j) h =
      since_more place d (first_sector place + j) (omega arith) (omega arith) (virtuals (layout_of k)) (state image m) (so_far j)
      (kept_laid j (omega arith)) (omega (arith, can.inside, kept_save j (omega arith))) (visits_since j (omega arith))
      (kept j (omega arith)).number_kept

  all_visits : new ≡ so_far (visit_count place (length d))
  unfolding written so_far
  all_visits = refl

  -- the law of the tape: the save is the one that was, with d in its place
  pub write_save : save_bytes new.image new.mapping ≡ splice (save_bytes image m) place d
  write_save =
      rw all_visits
      (visits_save (visit_count place (length d)) (omega arith)
      ∙ rw (done_all place (length d), take_all (length d) d (omega arith)))

  -- lengths, tickets and numbers are kept
  pub write_kept : Carried (state image m) new
  write_kept = rw all_visits (kept (visit_count place (length d)) (omega arith))

  pub write_length : length new.image ≡ length image
  write_length = write_kept.length_kept

  pub write_len : new.mapping.len ≡ m.len
  write_len = write_kept.len_kept

  pub write_tickets : new.mapping.tickets ≡ m.tickets
  write_tickets = write_kept.tickets_kept

  pub write_number : (v : ℕ) → number_at new.mapping v ≡ number_at m v
  write_number v = write_kept.number_kept v

  -- a block that is not changed, its bytes, the blocks from the reserved one on, and block zero are as they were
  pub write_since : Since (virtuals (layout_of k)) (state image m) new
  write_since = rw all_visits (visits_since (visit_count place (length d)) (omega arith))

  pub write_size : length new.mapping.blocks ≡ length m.blocks
  write_size = write_since.blocks

  pub unvisited : (v : ℕ) → ((block_at new.mapping v).condition ≡ Changed → ⊥) → block_at new.mapping v ≡ block_at m v
  unvisited v ne = write_since.unvisited v ne

  visits_count
      : (j : ℕ) → j ≤ visit_count place (length d) → (v n : ℕ) → 1 ≤ n → count_at m v ≤ n → count_at (so_far j).mapping v ≤ n
  unfolding so_far visits
  visits_count zero h v n low c = c
  visits_count (suc j) h v n low c =
      visit_count_lem place d (first_sector place + j) (so_far j)
      (visit_numbered place d (first_sector place + j) (omega arith) (omega arith) (virtuals (layout_of k)) (so_far j)
      (kept_laid j (omega arith)) (omega (arith, can.inside, kept_save j (omega arith))))
      v n low (visits_count j (omega arith) v n low c)

  visits_stay : (j : ℕ) → j ≤ visit_count place (length d) → (v : ℕ) → 1 ≤ count_at m v → count_at (so_far j).mapping v ≡ count_at m v
  unfolding so_far visits
  visits_stay zero h v c = refl
  visits_stay (suc j) h v c =
      let before : count_at (so_far j).mapping v ≡ count_at m v = visits_stay j (omega arith) v c in
      visit_stays place d (first_sector place + j) (so_far j)
      (visit_numbered place d (first_sector place + j) (omega arith) (omega arith) (virtuals (layout_of k)) (so_far j)
      (kept_laid j (omega arith)) (omega (arith, can.inside, kept_save j (omega arith))))
      v (omega arith)
      ∙ before

  -- a count that is not 0 stays
  pub write_stays : (v : ℕ) → 1 ≤ count_at m v → count_at new.mapping v ≡ count_at m v
  write_stays v c = rw all_visits (visits_stay (visit_count place (length d)) (omega arith) v c)

  -- no count is raised beyond 1
  pub write_count : (v n : ℕ) → 1 ≤ n → count_at m v ≤ n → count_at new.mapping v ≤ n
  write_count v n low c = rw all_visits (visits_count (visit_count place (length d)) (omega arith) v n low c)

  -- the reserved block and the records past the last are as they were
  pub write_beyond : (v : ℕ) → reserved (layout_of k) ≤ v → block_at new.mapping v ≡ block_at m v
  write_beyond v h = write_since.beyond v h

  -- the tickets of a block that is not changed are as they were
  pub write_block_bytes
      : (v j : ℕ) → v < virtuals (layout_of k) → j < sectors → ((block_at new.mapping v).condition ≡ Changed → ⊥)
      → ticket_in new.image (number_at m v) j ≡ ticket_in image (number_at m v) j
  unfolding ticket_in
  write_block_bytes v j h b ne =
      let at : ℕ = sector_place (number_at m v) j in
      let n : length new.image ≡ length image = write_length in
      let lies : number_at m v * block_len + block_len ≤ length image = (fits_lies image m can.fitting k known).within v h in
      ap (λ (r : List ℕ). ticket_of (crc16 r))
      (window_ext 0 at sector_len image (take sector_len (drop at new.image)) (omega arith)
      (length-window at sector_len new.image (omega arith))
      (λ i c.
      let e : at + i ≡ number_at m v * block_len + (j * sector_len + i) = omega arith in
      get_or-window at sector_len new.image i 0 c
      ∙ rw e (write_since.bytes v (j * sector_len + i) h (omega arith) ne)))

  -- the mapping fits the image as before
  pub write_fits : fits (length new.image) new.mapping ≡ true
  write_fits =
      let n : new.mapping.len ≡ length new.image = write_len ∙ fits_len (length image) m can.fitting ∙ sym write_length in
      fits_by (length new.image) new.mapping k (rw write_length known) n
      (rw all_visits (kept_apart (visit_count place (length d)) (omega arith)))
      (ap (λ (b : Block). is_free b.condition) (write_beyond (reserved (layout_of k)) (omega arith))
      ∙ fits_reserved (length image) m can.fitting k known)

  -- where no sector is visited nothing happens
  pub write_quiet : visit_count place (length d) ≡ 0 → new ≡ state image m
  unfolding written visits
  write_quiet e = rw e

  -- the block of the last sector that is visited is changed
  pub write_marks
      : 0 < visit_count place (length d)
      → (block_at new.mapping ((end_sector place (length d) - 1) / sectors)).condition ≡ Changed
  unfolding written visits so_far
  write_marks h =
      let j : ℕ = visit_count place (length d) - 1 in
      let e : visit_count place (length d) ≡ suc j = omega arith in
      let s : end_sector place (length d) - 1 ≡ first_sector place + j = omega arith in
      rw (e, s)
      (visit_changed place d (first_sector place + j) (so_far j)
      (visit_numbered place d (first_sector place + j) (omega arith) (omega arith) (virtuals (layout_of k)) (so_far j)
      (kept_laid j (omega arith)) (omega (arith, can.inside, kept_save j (omega arith)))))

  -- so a write after which no block is changed has done nothing
  pub write_still
      : ((v : ℕ) → v < virtuals (layout_of k) → (block_at new.mapping v).condition ≡ Changed → ⊥)
      → new ≡ state image m
  write_still still =
      split (visit_count place (length d)) 0
      (λ h. write_quiet (omega arith))
      (λ h.
      absurd (still ((end_sector place (length d) - 1) / sectors)
      (omega (arith, can.inside, fits_save (length image) m can.fitting k known)) (write_marks h)))
