-- A commit, accepted or refused, keeps what a run keeps. The new mapping is in good order: its numbers are the old ones, its
-- blocks are free or clean, and its tickets fit, new ones because they were just taken and old ones as before. So block zero
-- put from it opens again with exactly it. Assumes nothing.
use Rattle.std.specs.Prelude.{None}
use mathlib.Core.Path.{◌≡◌, refl, sym, ap, ◌∙◌}
use mathlib.Core.Bool.{true, false, not, and-false}
use mathlib.Core.List.{List}
use Prim.Native.Nat.{ℕ, ◌+◌, ◌-◌, ◌*◌, ◌/◌, ◌%◌, ◌<◌, ◌≤◌}
use native.Mathlib.Decide.{ℕ_discrete}
use native.Mathlib.Omega.{arith}
use borrow.Author.Tests.{eq-eqb, ne_eqb, lt-ltb, le-ltb}
use lib.Dec.{ltb}
use lib.ListN.{length, get_or, get_or-eq_default}
use Rattle.lists.proofs.Orders.{split, by_test, not_both}
use Rattle.lists.proofs.Tabulate.{length-tabulate}
use Rattle.chip.specs.declared.Chip.{Chip}
use Rattle.chip.specs.Figures.{layout_of, virtuals, block_len, sectors, image_len, journal_at, erased, in_use_bit, records}
use Rattle.chip.proofs.Layouts.{sound, from_is}
use Rattle.answers.specs.declared.Answer.TheVariants.{Accepted}
use Rattle.mapping.specs.declared.Block.{Block}
use Rattle.mapping.specs.declared.Condition.{Condition}
use Rattle.mapping.specs.declared.Condition.TheVariants.{Free, Clean, Changed}
use Rattle.mapping.specs.declared.Mapping.{Mapping}
use Rattle.mapping.specs.Blocks.{no_block, is_free, block_at, number_at, count_at, free_at}
use Rattle.mapping.specs.Fits.{Apart, reserved_free, fits}
use Rattle.answers.specs.Answers.{number_of}
use Rattle.mapping.specs.Outcomes.{outcome}
use Rattle.answers.proofs.Numbers.{zero_accepted}
use Rattle.answers.proofs.Searches.{first_misses}
use Rattle.block_zero.specs.Put.{put_map}
use Rattle.block_zero.proofs.RoundTrip.{put_length, put_journal}
use Rattle.journal.specs.Opened.{Opened}
use Rattle.tickets.specs.Tickets.{ticket_in, sector_fails, fails_at, bad_ticket}
use Rattle.tickets.proofs.Fitting.{fits_len, fits_apart, fits_reserved}
use Rattle.committing.specs.Committed.{is_changed, summed, settled_record, new_ticket, committed}
use Rattle.save.specs.Save.{save_bytes}
use Rattle.save.specs.Visits.{state}
use Rattle.wear_leveling.specs.Open.{open_of}
use Rattle.wear_leveling.specs.Commit.{commit_answer, committed_on, after_commit}
use Rattle.wear_leveling.proofs.Commits.{committed_len, committed_record, committed_ticket, committed_block, committed_number, committed_free, committed_clean, commit_is, commit_fits, commit_mapping, commit_image, commit_save}
use Rattle.tape.specs.Good.{Good}
use Rattle.tape.proofs.FreshOpen.{ticket_same, put_opens}
use Rattle.tape.proofs.Refuses.{large_is, commit_refuses}

-- a refused commit leaves image and mapping as they are
pub commit_refused
    : (image : List ℕ) (m : Mapping) → (number_of (commit_answer (length image) m) ≡ 0 → ⊥) → after_commit image m ≡ state image m
unfolding after_commit
commit_refused image m ne = rw (ne_eqb (number_of (commit_answer (length image) m)) 0 ne)

-- what the conditions say of one another
free_not_changed : (d : Condition) → is_free d ≡ true → is_changed d ≡ false
free_not_changed Free e = refl
free_not_changed Clean e = refl
free_not_changed Changed e = absurd (not_both e refl)

changed_is : (d : Condition) → d ≡ Changed → is_changed d ≡ true
changed_is d e = rw e

clean_is : (d : Condition) → is_free d ≡ false → is_changed d ≡ false → d ≡ Clean
clean_is Free e f = absurd (not_both refl e)
clean_is Clean e f = refl
clean_is Changed e f = absurd (not_both refl f)

module _ (k : Chip) (image : List ℕ) (m : Mapping) (t : List ℕ) (g : Good k (state image m) t) where
  few : virtuals (layout_of k) ≤ records
  few = omega (arith, (sound k).few)

  long : length image ≡ image_len (layout_of k)
  long = from_is (length image) k g.known

  new : Mapping
  new = committed (layout_of k) image m

  new_len : new.len ≡ m.len
  unfolding new
  new_len = committed_len (layout_of k) image m

  -- a sector that is not summed keeps its ticket
  kept_ticket : (s : ℕ) → s < records * sectors → summed (layout_of k) m s ≡ false → get_or new.tickets s 0 ≡ get_or m.tickets s 0
  unfolding new new_ticket
  kept_ticket s h e = committed_ticket (layout_of k) image m s h ∙ rw e

  -- one that is summed gets the sector's
  new_ticket_lem
      : (s : ℕ) → s < records * sectors → summed (layout_of k) m s ≡ true
      → get_or new.tickets s 0 ≡ ticket_in image (number_at m (s / sectors)) (s % sectors)
  unfolding new new_ticket
  new_ticket_lem s h e = committed_ticket (layout_of k) image m s h ∙ rw e

  large_unsummed : (s : ℕ) → (layout_of k).large ≡ true → summed (layout_of k) m s ≡ false
  unfolding summed
  large_unsummed s e = rw e

  past_unsummed : (s : ℕ) → virtuals (layout_of k) * sectors ≤ s → summed (layout_of k) m s ≡ false
  unfolding summed
  past_unsummed s h = rw (le-ltb s (virtuals (layout_of k) * sectors) h) (and-false (not (layout_of k).large))

  calm_unsummed : (s : ℕ) → is_changed (block_at m (s / sectors)).condition ≡ false → summed (layout_of k) m s ≡ false
  unfolding summed
  calm_unsummed s e = rw (e, and-false (ltb s (virtuals (layout_of k) * sectors))) (and-false (not (layout_of k).large))

  changed_summed
      : (s : ℕ) → (layout_of k).large ≡ false → s < virtuals (layout_of k) * sectors
      → is_changed (block_at m (s / sectors)).condition ≡ true → summed (layout_of k) m s ≡ true
  unfolding summed
  changed_summed s a b c = rw (a, lt-ltb s (virtuals (layout_of k) * sectors) b, c)

  -- ---- the new mapping is in good order

  old : Apart m (virtuals (layout_of k))
  old = fits_apart (length image) m g.fitting k g.known

  same_number : (v : ℕ) → v < virtuals (layout_of k) → number_at new v ≡ number_at m v
  unfolding new
  same_number v h = committed_number (layout_of k) image m few v h

  same_free : (v : ℕ) → v < virtuals (layout_of k) → free_at new v ≡ free_at m v
  unfolding new
  same_free v h = committed_free (layout_of k) image m few v h

  same_count : (v : ℕ) → v < virtuals (layout_of k) → count_at new v ≡ count_at m v
  unfolding new
  same_count v h = ap (λ (b : Block). b.count) (committed_block (layout_of k) image m few v h)

  numbers : Apart new (virtuals (layout_of k))
  numbers =
      record {
        low = λ v h. rw (same_number v h) (old.low v h);
        high = λ v h. rw (same_number v h) (old.high v h);
        apart = λ u v hu hv e. old.apart u v hu hv (sym (same_number u hu) ∙ e ∙ same_number v hv);
      }

  new_size : length new.blocks ≡ records
  unfolding new committed
  new_size = length-tabulate (settled_record (layout_of k) m) records

  new_long : length new.tickets ≡ records * sectors
  unfolding new committed
  new_long = length-tabulate (new_ticket (layout_of k) image m) (records * sectors)

  past_record : (u : ℕ) → virtuals (layout_of k) ≤ u → settled_record (layout_of k) m u ≡ no_block
  unfolding settled_record
  past_record u h = rw (le-ltb u (virtuals (layout_of k)) h) (g.past_blocks u h)

  past : (u : ℕ) → virtuals (layout_of k) ≤ u → block_at new u ≡ no_block
  unfolding new
  past u h =
      split records u
      (λ p. get_or-eq_default new.blocks no_block (omega (arith, new_size)))
      (λ p. committed_record (layout_of k) image m u p ∙ past_record u h)

  calm : (v : ℕ) → v < virtuals (layout_of k) → (block_at new v).condition ≡ Changed → ⊥
  unfolding new
  calm v h e = not_both (changed_is (block_at new v).condition e) (committed_clean (layout_of k) image m few v h)

  -- a ticket of a sector that is not summed, in or past the list
  old_ticket : (s : ℕ) → summed (layout_of k) m s ≡ false → get_or m.tickets s 0 ≡ 0 → get_or new.tickets s 0 ≡ 0
  old_ticket s e z =
      split (records * sectors) s
      (λ p. get_or-eq_default new.tickets 0 (omega (arith, new_long)))
      (λ p. kept_ticket s p e ∙ z)

  opened : Opened (layout_of k) new
  opened =
      record {
        image = new_len ∙ fits_len (length image) m g.fitting ∙ long;
        blocks_length = new_size;
        tickets_length = new_long;
        numbers = numbers;
        unchanged = calm;
        past_blocks = past;
        past_tickets = λ j h. old_ticket j (past_unsummed j h) (g.past_tickets j h);
        free_tickets = λ v j h e b.
            let f : free_at m v ≡ true = sym (same_free v h) ∙ e in
            let d : (v * sectors + j) / sectors ≡ v = omega arith in
            old_ticket (v * sectors + j)
            (calm_unsummed (v * sectors + j) (rw d (free_not_changed (block_at m v).condition f)))
            (g.free_tickets v j h f b);
        large_tickets = λ e j. old_ticket j (large_unsummed j e) (g.large_tickets e j);
      }

  -- ---- and its tickets fit the image

  right_ticket
      : (layout_of k).large ≡ false
      → (v j : ℕ)
      → v < virtuals (layout_of k)
      → free_at m v ≡ false
      → j < sectors
      → ticket_in image (number_at m v) j ≡ get_or new.tickets (v * sectors + j) 0
  right_ticket small v j h f b =
      by_test (is_changed (block_at m v).condition)
      (λ c.
      sym
      (rw (d, r) at (new_ticket_lem (v * sectors + j) (omega (arith, few)) (changed_summed (v * sectors + j) small (omega arith) (rw d c)))))
      (λ c.
      g.clean_tickets small v j h (clean_is (block_at m v).condition f c) b
      ∙ sym (kept_ticket (v * sectors + j) (omega (arith, few)) (calm_unsummed (v * sectors + j) (rw d c))))
    where
      d : (v * sectors + j) / sectors ≡ v
      d = omega arith

      r : (v * sectors + j) % sectors ≡ j
      r = omega arith

  fails_none : (layout_of k).large ≡ false → (s : ℕ) → s < virtuals (layout_of k) * sectors → fails_at (ticket_in image) new s ≡ false
  unfolding fails_at sector_fails
  fails_none small s h =
      by_test (free_at new v)
      (λ f. rw f)
      (λ f.
      let e : ticket_in image (number_at new v) (s % sectors) ≡ get_or new.tickets s 0 =
      ap (λ (n : ℕ). ticket_in image n (s % sectors)) (same_number v low)
      ∙ right_ticket small v (s % sectors) low (sym (same_free v low) ∙ f) (omega arith)
      ∙ ap (λ (x : ℕ). get_or new.tickets x 0) back in
      rw (f, eq-eqb (ticket_in image (number_at new v) (s % sectors)) (get_or new.tickets s 0) e))
    where
      v : ℕ
      v = s / sectors

      low : s / sectors < virtuals (layout_of k)
      low = omega arith

      back : s / sectors * sectors + s % sectors ≡ s
      back = omega arith

  tickets_fit : bad_ticket (layout_of k) (ticket_in image) new ≡ None
  unfolding bad_ticket
  tickets_fit =
      by_test (layout_of k).large (λ e. rw e)
      (λ e.
      rw e
      (first_misses (fails_at (ticket_in image) new) 0 (virtuals (layout_of k) * sectors) (λ i a b. fails_none e i (omega arith))))

  module _ (accepted : commit_answer (length image) m ≡ Accepted) where
    -- no count is high, since 10 was not given
    low_counts : (v : ℕ) → v < virtuals (layout_of k) → (layout_of k).large ≡ true → count_at new v < in_use_bit
    low_counts v h e =
        let low : count_at m v ≤ 127 =
        (commit_refuses m (length image) k g.known g.fitting).accepted (large_is k e) accepted v h in
        omega (arith, same_count v h)

    free : reserved_free (layout_of k) new ≡ true
    free =
        same_free (virtuals (layout_of k) - 1) (omega (arith, (sound k).some))
        ∙ fits_reserved (length image) m g.fitting k g.known

    opens : open_of (put_map (layout_of k) new image) ≡ outcome Accepted new
    opens = put_opens k new opened low_counts free image long tickets_fit

    whole : block_len ≤ length image
    whole = omega (arith, long, (sound k).some)

    same_length : length (put_map (layout_of k) new image) ≡ length image
    same_length = put_length (layout_of k) (sound k) new new_long image whole

    fit : fits (length image) new ≡ true
    unfolding new
    fit = rw (commit_mapping image m k g.known accepted) at (commit_fits image m k g.known accepted)

    save : save_bytes (put_map (layout_of k) new image) new ≡ t
    unfolding new
    save =
        (rw (commit_image image m k g.known accepted, commit_mapping image m k g.known accepted)
        at (commit_save image m k g.known accepted))
        ∙ g.holds

    put_good : Good k (state (put_map (layout_of k) new image) new) t
    put_good =
        record {
          known = rw same_length g.known;
          fitting = rw same_length fit;
          blocks_length = new_size;
          tickets_length = new_long;
          holds = save;
          past_blocks = opened.past_blocks;
          past_tickets = opened.past_tickets;
          free_tickets = opened.free_tickets;
          large_tickets = opened.large_tickets;
          clean_tickets = λ e v j h c b.
              let f : free_at m v ≡ false = sym (same_free v h) ∙ ap is_free c in
              ticket_same (layout_of k) (sound k) new opened low_counts free image long (number_at new v) j (opened.numbers.low v h)
              ∙ ap (λ (n : ℕ). ticket_in image n j) (same_number v h)
              ∙ right_ticket e v j h f b;
          quiet = λ q. opens;
        }

    commit_state : after_commit image m ≡ state (put_map (layout_of k) new image) new
    unfolding committed_on new
    commit_state = commit_is image m k g.known accepted

    pub accepted_good : Good k (after_commit image m) t
    accepted_good = rw commit_state put_good

    -- the fresh open, and the erased journal
    pub accepted_opens : open_of (after_commit image m).image ≡ outcome Accepted (after_commit image m).mapping
    accepted_opens = rw commit_state opens

    pub accepted_journal : (i : ℕ) → journal_at (layout_of k) ≤ i → i < block_len → get_or (after_commit image m).image i 0 ≡ erased
    accepted_journal i p q = rw commit_state (put_journal (layout_of k) (sound k) new new_long image whole i p q)

  -- refused or not
  pub commit_good : Good k (after_commit image m) t
  commit_good = go (ℕ_discrete (number_of (commit_answer (length image) m)) 0)
    where
      go : Dec (number_of (commit_answer (length image) m) ≡ 0) → Good k (after_commit image m) t
      go (yes e) = accepted_good (zero_accepted (commit_answer (length image) m) e)
      go (no ne) = rw (commit_refused image m ne) g
