-- A formatted image opens: the fresh mapping is in good order and fits, no block of it is in use, and so block zero put from
-- it opens with exactly it, and its save is all 0xFF. Steps 2 to 7 are claimed for every sound layout,
-- small ones of any P up to 128 among them. Assumes nothing.
use Rattle.std.specs.Prelude.{None}
use mathlib.Core.Path.{◌≡◌, refl, sym, ap, ◌∙◌}
use mathlib.Core.Bool.{Bool, true, false}
use mathlib.Core.List.{List}
use Prim.Native.Nat.{ℕ, ◌+◌, ◌*◌, ◌/◌, ◌<◌}
use native.Mathlib.Omega.{arith}
use borrow.Author.Tests.{eq-eqb}
use lib.Dec.{eqb}
use lib.ListN.{length, get_or, take, length-replicate, get_or-replicate, get_or-eq_default}
use Rattle.lists.specs.Words.{pick, splice, rep}
use Rattle.lists.proofs.Orders.{split}
use Rattle.lists.proofs.Tests.{and_both}
use Rattle.lists.proofs.Splice.{length-splice}
use Rattle.lists.proofs.Tabulate.{tabulate_same}
use Rattle.chip.specs.declared.Chip.{Chip}
use Rattle.chip.specs.declared.Chip.TheVariants.{Kib128, Kib512, Mib1}
use Rattle.chip.specs.Figures.{Layout, layout_of, virtuals, reserved, block_len, sectors, image_len, in_use_bit, map_len, save_len, erased, from_len, records}
use Rattle.chip.proofs.Layouts.{Sound, sound, map_fits, from_own}
use Rattle.answers.specs.declared.Answer.TheVariants.{Accepted}
use Rattle.mapping.specs.declared.Block.{Block}
use Rattle.mapping.specs.Blocks.{is_free, no_block, number_at, count_at, free_at, len_of}
use Rattle.mapping.specs.Fits.{each_once, reserved_free, fits_as, fits_own, fits}
use Rattle.mapping.specs.Fits.Laws.{own_known, fits_is}
use Rattle.answers.specs.Search.{first_of}
use Rattle.mapping.specs.Outcomes.{outcome, and_then}
use Rattle.mapping.proofs.Onto.{apart_once}
use Rattle.answers.proofs.Searches.{first_misses}
use Rattle.block_zero.specs.Put.{fresh, formatted}
use Rattle.block_zero.proofs.Settled.{fresh_is, fresh_in}
use Rattle.journal.specs.Opened.{Opened}
use Rattle.journal.specs.Steps.{steps2to6}
use Rattle.tickets.specs.Tickets.{ticket_in, sector_fails, fails_at, bad_ticket, step7}
use Rattle.tickets.proofs.Fitting.{fits_save}
use Rattle.save.specs.Save.{byte_at, save_bytes}
use Rattle.wear_leveling.specs.Open.{open_of}
use Rattle.tape.proofs.FreshOpen.{put_steps, put_opens}

-- every chip has more than 5 virtual blocks
pub five : (k : Chip) → 5 < virtuals (layout_of k)
five Kib128 = omega arith
five Kib512 = omega arith
five Mib1 = omega arith

module _ (l : Layout) (s : Sound l) where
  pub fresh_number : (v : ℕ) → v < virtuals l → number_at (fresh l) v ≡ v + 1
  fresh_number v h = ap (λ (b : Block). b.physical.0) (fresh_in l s v h)

  pub fresh_count : (v : ℕ) → v < virtuals l → count_at (fresh l) v ≡ 0
  fresh_count v h = ap (λ (b : Block). b.count) (fresh_in l s v h)

  pub fresh_free : (v : ℕ) → v < virtuals l → free_at (fresh l) v ≡ true
  fresh_free v h = ap (λ (b : Block). is_free b.condition) (fresh_in l s v h)

  fresh_ticket : (j : ℕ) → get_or (fresh l).tickets j 0 ≡ 0
  unfolding fresh
  fresh_ticket j =
      split (records * sectors) j
      (λ p. get_or-eq_default {A = ℕ} (rep (records * sectors) 0) 0 {n = j} (omega (arith, length-replicate {A = ℕ} (records * sectors) 0)))
      (λ p. get_or-replicate {A = ℕ} (records * sectors) j 0 0 p)

  -- the fresh mapping is one that opening accepts
  pub fresh_opened : Opened l (fresh l)
  fresh_opened =
      record {
        image = (fresh_is l s).len;
        blocks_length = (fresh_is l s).blocks;
        tickets_length = (fresh_is l s).tickets;
        numbers =
            record {
              low = λ v h. omega (arith, fresh_number v h);
              high = λ v h. omega (arith, fresh_number v h);
              apart = λ u v hu hv e. omega (arith, fresh_number u hu, fresh_number v hv, e);
            };
        unchanged = (fresh_is l s).unchanged;
        past_blocks = λ u h.
            split records u
            (λ p. get_or-eq_default (fresh l).blocks no_block {n = u} (omega (arith, (fresh_is l s).blocks)))
            (λ p. (fresh_is l s).blank u h p);
        past_tickets = λ j h. fresh_ticket j;
        free_tickets = λ v j h e k. fresh_ticket (v * sectors + j);
        large_tickets = λ e j. fresh_ticket j;
      }

  pub fresh_low : (v : ℕ) → v < virtuals l → l.large ≡ true → count_at (fresh l) v < in_use_bit
  fresh_low v h e = omega (arith, fresh_count v h)

  pub fresh_reserved : reserved_free l (fresh l) ≡ true
  fresh_reserved = fresh_free (reserved l) (omega (arith, s.some))

  -- no block is in use, so no ticket is looked at
  fresh_fails : (t : ℕ → ℕ → ℕ) (i : ℕ) → i < virtuals l * sectors → fails_at t (fresh l) i ≡ false
  unfolding fails_at sector_fails
  fresh_fails t i h = rw (fresh_free (i / sectors) (omega arith))

  pub fresh_tickets : (t : ℕ → ℕ → ℕ) → bad_ticket l t (fresh l) ≡ None
  unfolding bad_ticket
  fresh_tickets t = go l.large
    where
      go : (b : Bool) → pick b None (first_of (fails_at t (fresh l)) (virtuals l * sectors)) ≡ None
      go true = refl
      go false = first_misses (fails_at t (fresh l)) 0 (virtuals l * sectors) (λ i a b. fresh_fails t i (omega arith))

  module _ (z : List ℕ) (long : length z ≡ image_len l) where
    pub length_cleared : length (splice z 0 (rep (map_len l) 0)) ≡ image_len l
    length_cleared =
        length-splice {A = ℕ} z 0 (rep (map_len l) 0)
        (omega (arith, length-replicate {A = ℕ} (map_len l) 0, map_fits l s, s.some)) ∙ long

    -- steps 2 to 6 of a formatted block zero
    pub formatted_steps : steps2to6 l (take block_len (formatted l z)) ≡ outcome Accepted (fresh l)
    unfolding formatted
    formatted_steps =
        put_steps l s (fresh l) fresh_opened fresh_low fresh_reserved (splice z 0 (rep (map_len l) 0)) length_cleared

    -- and step 7
    pub formatted_step7
        : and_then (steps2to6 l (take block_len (formatted l z))) (step7 l (formatted l z)) ≡ outcome Accepted (fresh l)
    formatted_step7 = rw (formatted_steps, fresh_tickets (ticket_in (formatted l z)))

-- the fresh mapping fits an image of its chip
pub fresh_fits : (k : Chip) → fits (image_len (layout_of k)) (fresh (layout_of k)) ≡ true
fresh_fits k =
    let l : Layout = layout_of k in
    let e : (fresh l).len ≡ image_len l = (fresh_is l (sound k)).len in
    let a : fits_as l (fresh l) ≡ true =
    and_both (each_once l (fresh l)) (reserved_free l (fresh l))
    (apart_once (fresh l) l (omega (arith, (sound k).some)) (fresh_opened l (sound k)).numbers) (fresh_reserved l (sound k)) in
    fits_is (fresh l) (image_len l)
    ∙ and_both (eqb (fresh l).len (image_len l)) (fits_own (fresh l)) (eq-eqb (fresh l).len (image_len l) e)
    (own_known (fresh l) k (ap from_len e ∙ from_own k) ∙ a)

module _ (k : Chip) where
  -- its save is the chip's
  pub fresh_save : len_of (fresh (layout_of k)) ≡ save_len (layout_of k)
  fresh_save = fits_save (image_len (layout_of k)) (fresh (layout_of k)) (fresh_fits k) k (from_own k)

  fresh_byte : (image : List ℕ) (i : ℕ) → i < save_len (layout_of k) → byte_at image (fresh (layout_of k)) i ≡ erased
  unfolding byte_at
  fresh_byte image i h = rw (fresh_free (layout_of k) (sound k) (i / block_len) (omega arith))

  -- on any image the save of the fresh mapping is all 0xFF
  pub fresh_bytes : (image : List ℕ) → save_bytes image (fresh (layout_of k)) ≡ rep (save_len (layout_of k)) erased
  unfolding save_bytes
  fresh_bytes image =
      rw fresh_save (sym (tabulate_same {A = ℕ} (byte_at image (fresh (layout_of k))) (save_len (layout_of k)) erased (fresh_byte image)))

  module _ (z : List ℕ) (long : length z ≡ image_len (layout_of k)) where
    -- a formatted image opens, all blocks free
    pub formatted_opens : open_of (formatted (layout_of k) z) ≡ outcome Accepted (fresh (layout_of k))
    unfolding formatted
    formatted_opens =
        let l : Layout = layout_of k in
        let c : List ℕ = splice z 0 (rep (map_len l) 0) in
        put_opens k (fresh l) (fresh_opened l (sound k)) (fresh_low l (sound k)) (fresh_reserved l (sound k)) c
        (length_cleared l (sound k) z long) (fresh_tickets l (sound k) (ticket_in c))

    -- and its save is all 0xFF
    pub formatted_save : save_bytes (formatted (layout_of k) z) (fresh (layout_of k)) ≡ rep (save_len (layout_of k)) erased
    formatted_save = fresh_bytes (formatted (layout_of k) z)
