-- Case L: an entry that brings a count of a large chip to 128 opens, and the commit after it answers 10 at that block. By
-- what an entry does to a mapping in good order, whose other counts stay below 128. Assumes nothing.
use Rattle.std.specs.Prelude.{Some}
use mathlib.Core.Path.{◌≡◌, refl, sym, ap, ◌∙◌}
use mathlib.Core.Bool.{true}
use mathlib.Core.List.{List}
use Prim.Native.Nat.{ℕ, ◌+◌, ◌*◌, ◌<◌}
use native.Mathlib.Decide.{ℕ_discrete}
use native.Mathlib.Omega.{arith}
use borrow.Author.Tests.{eq-eqb, ne_eqb, le-leb, lt-leb}
use lib.Dec.{eqb, leb}
use lib.ListN.{length, take, length-set}
use lib.Seq.{length-take-le, get_or-set_same, get_or-set_other}
use Rattle.lists.specs.Words.{pick}
use Rattle.lists.proofs.Tests.{and_both}
use Rattle.chip.specs.declared.Chip.TheVariants.{Mib1}
use Rattle.chip.specs.Figures.{Layout, layout_of, virtuals, reserved, block_len, image_len, in_use_bit, from_len}
use Rattle.chip.proofs.Layouts.{sound, from_own}
use Rattle.answers.specs.declared.Answer.TheVariants.{Accepted, CountTooHigh}
use Rattle.mapping.specs.declared.Block.{Block}
use Rattle.mapping.specs.declared.Condition.TheVariants.{Free, Changed}
use Rattle.mapping.specs.declared.Mapping.{Mapping}
use Rattle.mapping.specs.declared.Outcome.{Outcome}
use Rattle.mapping.specs.Blocks.{is_free, no_block, block_of, block_at, number_at, count_at, with_block}
use Rattle.mapping.specs.Fits.{fits_as, fits_own, fits}
use Rattle.mapping.specs.Fits.Laws.{own_known, fits_is}
use Rattle.mapping.specs.Limits.{high_count_on, high_count}
use Rattle.mapping.specs.Outcomes.{outcome}
use Rattle.answers.specs.Search.{first_of}
use Rattle.answers.proofs.Searches.{first_finds}
use Rattle.block_zero.specs.Put.{fresh, put_map}
use Rattle.block_zero.proofs.Settled.{fresh_in}
use Rattle.journal.specs.declared.Entry.{Entry}
use Rattle.journal.specs.Entries.{applied}
use Rattle.journal.specs.Moved.{Moved}
use Rattle.journal.specs.Opened.{Opened}
use Rattle.journal.proofs.Accepted.{accepted_fits}
use Rattle.tickets.specs.Tickets.{bad_ticket, tickets_of}
use Rattle.wear_leveling.specs.Open.{open_of}
use Rattle.wear_leveling.specs.Commit.{commit_answer}
use Rattle.tape.specs.Cases.{Claim, L, slot_of, with_slots, entry_l, near_l, BeforeL, AsL, Sized, Eight}
use Rattle.tape.proofs.Handed.{given}
use Rattle.tape.proofs.Formatted.{fresh_opened}
use Rattle.tape.proofs.Journaled.{length_image}
use Rattle.tape.proofs.Moves.{entry, moves, one_room, moves_steps2, moves_steps}

module _
    (m : Mapping) (v w : ℕ) (z t : List ℕ) (b : BeforeL m w) (hv : v < reserved (layout_of Mib1)) (long : Sized Mib1 z) (eight : Eight t)
  where
    abbrev l : Layout
    l = layout_of Mib1

    abbrev x : Entry
    x = entry v w (number_at m w) (number_at m v) 128 (count_at m v) t

    abbrev n : Mapping
    n = applied l m x

    abbrev image : List ℕ
    image = with_slots l (put_map l m z) (slot_of (entry_l m v w t))

    more : count_at m w + 1 ≡ 128
    more = omega (arith, b.count)

    moved : Moved l m x n
    moved =
        moves l (sound Mib1) m b.opened v w (number_at m w) (number_at m v) 128 (count_at m v) t (omega arith) b.below b.free
        refl refl more refl eight

    image_length : length image ≡ image_len l
    image_length =
        length_image l (sound Mib1) m b.opened (λ u h e. b.counts u h) z long (slot_of (entry_l m v w t))
        (one_room Mib1 m b.opened (λ u h e. b.counts u h) b.reserved_is_free z long v w (number_at m w) (number_at m v) 128
        (count_at m v) t (omega arith) b.below b.free refl refl more refl eight (λ e. omega arith))

    opens : open_of image ≡ outcome Accepted n
    unfolding open_of tickets_of bad_ticket
    opens =
        rw (
          moves_steps Mib1 m b.opened (λ u h e. b.counts u h) b.reserved_is_free z long v w (number_at m w) (number_at m v) 128
              (count_at m v) t (omega arith) b.below b.free refl refl more refl eight (λ e. omega arith),
          image_length,
          from_own Mib1,
        )

    n_len : n.len ≡ image_len l
    n_len = moved.image ∙ b.opened.image

    n_as : fits_as l n ≡ true
    n_as =
        accepted_fits l (sound Mib1) (take block_len image) (length-take-le block_len image (omega (arith, image_length))) n
        (moves_steps2 Mib1 m b.opened (λ u h e. b.counts u h) b.reserved_is_free z long v w (number_at m w) (number_at m v) 128
        (count_at m v) t (omega arith) b.below b.free refl refl more refl eight (λ e. omega arith))

    n_known : from_len n.len ≡ Some Mib1
    n_known = ap from_len n_len ∙ from_own Mib1

    n_fits : fits (image_len l) n ≡ true
    n_fits =
        fits_is n (image_len l)
        ∙ and_both (eqb n.len (image_len l)) (fits_own n) (eq-eqb n.len (image_len l) n_len) (own_known n Mib1 n_known ∙ n_as)

    high : count_at n v ≡ 128
    high = ap (λ (y : Block). y.count) moved.v_block

    -- every other count is one that the mapping had before
    low : (u : ℕ) → u < v → count_at n u < in_use_bit
    low u h = go (ℕ_discrete u w)
      where
        go : Dec (u ≡ w) → count_at n u < in_use_bit
        go (yes e) =
            let c : count_at n w ≡ count_at m v = ap (λ (y : Block). y.count) (moved.w_block (λ f. omega arith)) in
            rw e (omega (arith, b.counts v (omega arith)))
        go (no e) =
            let c : count_at n u ≡ count_at m u =
            ap (λ (y : Block). y.count)
            (moved.other_blocks u (record { below = omega arith; not_v = λ f. omega arith; not_w = e })) in
            omega (arith, b.counts u (omega arith))

    found : first_of (λ u. leb in_use_bit (count_at n u)) (virtuals l) ≡ Some v
    found =
        first_finds (λ u. leb in_use_bit (count_at n u)) 0 (virtuals l) v (omega arith) (omega arith)
        (λ i p q. lt-leb in_use_bit (count_at n i) (low i q)) (le-leb in_use_bit (count_at n v) (omega (arith, high)))

    refuses : commit_answer (image_len l) n ≡ CountTooHigh v
    unfolding commit_answer high_count high_count_on
    refuses = rw (n_fits, n_known, found)

    as_l : AsL v (open_of image)
    as_l =
        record {
          accepted = given (ap (λ (o : Outcome). o.answer) opens);
          block_v = ap (λ (o : Outcome). count_at o.mapping v) opens ∙ high;
          commit = given (ap (λ (o : Outcome). commit_answer (image_len l) o.mapping) opens ∙ refuses);
        }

-- ---- such a mapping

abbrev f : Mapping
f = fresh (layout_of Mib1)

free_not_changed : Free ≡ Changed → ⊥
free_not_changed e = let z : ◌≡◌ {A = ℕ} 0 1 = cc in omega arith

other_near : (u : ℕ) → (u ≡ 254 → ⊥) → block_at near_l u ≡ block_at f u
unfolding with_block
other_near u d = get_or-set_other f.blocks 254 u (block_of 255 127 Free) no_block d

near_is : (u : ℕ) → u < 255 → block_at near_l u ≡ block_of (u + 1) (pick (eqb u 254) 127 0) Free
unfolding with_block
near_is u h = go (ℕ_discrete u 254)
  where
    go : Dec (u ≡ 254) → block_at near_l u ≡ block_of (u + 1) (pick (eqb u 254) 127 0) Free
    go (yes e) =
        rw e (get_or-set_same f.blocks 254 (block_of 255 127 Free) no_block (omega (arith, (fresh_opened (layout_of Mib1) (sound Mib1)).blocks_length)))
    go (no e) = rw (ne_eqb u 254 e) (other_near u e ∙ fresh_in (layout_of Mib1) (sound Mib1) u h)

near_number : (u : ℕ) → u < 255 → number_at near_l u ≡ u + 1
near_number u h = ap (λ (b : Block). b.physical.0) (near_is u h)

near_opened : Opened (layout_of Mib1) near_l
unfolding with_block
near_opened =
    let o = fresh_opened (layout_of Mib1) (sound Mib1) in
    record {
      image = o.image;
      blocks_length = length-set f.blocks 254 (block_of 255 127 Free) ∙ o.blocks_length;
      tickets_length = o.tickets_length;
      numbers =
          record {
            low = λ v h. omega (arith, near_number v h);
            high = λ v h. omega (arith, near_number v h);
            apart = λ u v hu hv e. omega (arith, near_number u hu, near_number v hv, e);
          };
      unchanged = λ v h e. free_not_changed (sym (ap (λ (b : Block). b.condition) (near_is v h)) ∙ e);
      past_blocks = λ u h. other_near u (λ e. omega arith) ∙ o.past_blocks u h;
      past_tickets = o.past_tickets;
      free_tickets = λ v j h e k. o.large_tickets refl (v * 8 + j);
      large_tickets = o.large_tickets;
    }

near_count : (u : ℕ) → u < 255 → count_at near_l u < 128
near_count u h = go (ℕ_discrete u 254)
  where
    go : Dec (u ≡ 254) → count_at near_l u < 128
    go (yes e) = let c : count_at near_l u ≡ 127 = ap (λ (b : Block). b.count) (near_is u h) ∙ rw (eq-eqb u 254 e) in omega arith
    go (no e) = let c : count_at near_l u ≡ 0 = ap (λ (b : Block). b.count) (near_is u h) ∙ rw (ne_eqb u 254 e) in omega arith

near_before : BeforeL near_l 254
near_before =
    record {
      opened = near_opened;
      counts = near_count;
      reserved_is_free = ap (λ (b : Block). is_free b.condition) (near_is 254 (omega arith));
      below = omega arith;
      free = ap (λ (b : Block). is_free b.condition) (near_is 254 (omega arith));
      count = ap (λ (b : Block). b.count) (near_is 254 (omega arith));
    }

pub case_l : Claim L
case_l = (near_before, as_l)
