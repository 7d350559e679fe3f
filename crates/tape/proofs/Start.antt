-- Where a run starts: whatever `open` accepts is in good order. Steps 1 to 6 give the numbers, the blank records and the zero
-- tickets, step 7 the tickets that fit, and nothing is changed yet. Assumes nothing.
use Rattle.std.specs.Prelude.{Option, Some, None}
use mathlib.Core.Path.{◌≡◌, refl, sym, ap, ◌∙◌}
use mathlib.Core.Bool.{true, false}
use mathlib.Core.List.{List}
use Prim.Native.Nat.{ℕ, ◌+◌, ◌*◌, ◌/◌, ◌%◌, ◌<◌, ◌≤◌}
use native.Mathlib.Decide.{ℕ_discrete}
use native.Mathlib.Omega.{arith}
use borrow.Author.Tests.{eq-eqb, ne_eqb, eqb-true, not-false}
use lib.ListN.{length, get_or, take}
use lib.Seq.{length-take-le}
use Rattle.lists.proofs.Orders.{split}
use Rattle.chip.specs.declared.Chip.{Chip}
use Rattle.chip.specs.Figures.{layout_of, virtuals, block_len, sectors, from_len}
use Rattle.chip.proofs.Layouts.{from_is, from_short}
use Rattle.answers.specs.declared.Answer.TheVariants.{Accepted, WrongTicket}
use Rattle.mapping.specs.declared.Condition.TheVariants.{Clean}
use Rattle.mapping.specs.declared.Mapping.{Mapping}
use Rattle.mapping.specs.declared.Outcome.{Outcome}
use Rattle.mapping.specs.Blocks.{is_free, block_at, number_at}
use Rattle.mapping.specs.Fits.{fits}
use Rattle.mapping.specs.Fits.Laws.{own_known, fits_is}
use Rattle.answers.specs.Answers.{number_of}
use Rattle.mapping.specs.Outcomes.{outcome, and_then, unless_found}
use Rattle.answers.proofs.Numbers.{zero_accepted}
use Rattle.answers.proofs.Searches.{first_none}
use Rattle.journal.specs.Opened.{Opened, OpenedAs}
use Rattle.journal.specs.Steps.{steps1to6}
use Rattle.journal.proofs.Accepted.{accepted_as}
use Rattle.tickets.specs.Tickets.{ticket_in, sector_fails, fails_at, bad_ticket, step7, tickets_of}
use Rattle.save.specs.Save.{save_bytes}
use Rattle.save.specs.Visits.{state}
use Rattle.wear_leveling.specs.Open.{open_of}
use Rattle.tape.specs.Good.{Good}

-- an accepted outcome of two steps comes from two accepted ones
then_first : (o : Outcome) (next : Mapping → Outcome) (m : Mapping) → and_then o next ≡ outcome Accepted m → number_of o.answer ≡ 0
then_first o next m e = go (ℕ_discrete (number_of o.answer) 0)
  where
    go : Dec (number_of o.answer ≡ 0) → number_of o.answer ≡ 0
    go (yes p) = p
    go (no p) =
        let q : o ≡ outcome Accepted m = rw (ne_eqb (number_of o.answer) 0 p) at e in
        ap (λ (x : Outcome). number_of x.answer) q

then_next : (o : Outcome) (next : Mapping → Outcome) (m : Mapping) → and_then o next ≡ outcome Accepted m → next o.mapping ≡ outcome Accepted m
then_next o next m e = rw (eq-eqb (number_of o.answer) 0 (then_first o next m e)) at e

-- a search that ended in acceptance found nothing, and left the mapping as it was
unless_none : (f : Option ℕ) (n m : Mapping) → unless_found f WrongTicket (outcome Accepted n) ≡ outcome Accepted m → f ≡ None
unless_none (Some s) n m e = let z : ◌≡◌ {A = ℕ} 7 0 = ap (λ (x : Outcome). number_of x.answer) e in absurd (omega arith)
unless_none None n m e = refl

unless_same : (f : Option ℕ) (n m : Mapping) → unless_found f WrongTicket (outcome Accepted n) ≡ outcome Accepted m → n ≡ m
unless_same (Some s) n m e = let z : ◌≡◌ {A = ℕ} 7 0 = ap (λ (x : Outcome). number_of x.answer) e in absurd (omega arith)
unless_same None n m e = ap (λ (x : Outcome). x.mapping) e

module _ (image : List ℕ) (m : Mapping) (accepted : open_of image ≡ outcome Accepted m) where
  first : number_of (steps1to6 (take block_len image) (length image)).answer ≡ 0
  unfolding open_of
  first = then_first (steps1to6 (take block_len image) (length image)) (tickets_of image) m accepted

  next : tickets_of image (steps1to6 (take block_len image) (length image)).mapping ≡ outcome Accepted m
  unfolding open_of
  next = then_next (steps1to6 (take block_len image) (length image)) (tickets_of image) m accepted

  -- less than a block is refused by step 1
  whole : block_len ≤ length image
  unfolding steps1to6
  whole = split block_len (length image) (λ p. p) (λ p. absurd (short p))
    where
      short : length image < block_len → ⊥
      short p = let z : ◌≡◌ {A = ℕ} 1 0 = (rw (from_short (length image) p) at first) in omega arith

  both : steps1to6 (take block_len image) (length image) ≡ outcome Accepted (steps1to6 (take block_len image) (length image)).mapping
  both = λ i. outcome (zero_accepted (steps1to6 (take block_len image) (length image)).answer first i) (steps1to6 (take block_len image) (length image)).mapping

  as_found : OpenedAs (length image) (steps1to6 (take block_len image) (length image)).mapping
  as_found = accepted_as (take block_len image) (length image) (length-take-le block_len image whole) (steps1to6 (take block_len image) (length image)).mapping both

  pub chip : Chip
  chip = as_found.chip

  pub known : from_len (length image) ≡ Some chip
  unfolding chip
  known = as_found.known

  seventh : step7 (layout_of chip) image (steps1to6 (take block_len image) (length image)).mapping ≡ outcome Accepted m
  unfolding tickets_of
  seventh = rw known at next

  same : (steps1to6 (take block_len image) (length image)).mapping ≡ m
  same = unless_same (bad_ticket (layout_of chip) (ticket_in image) _) _ m seventh

  fit : bad_ticket (layout_of chip) (ticket_in image) m ≡ None
  fit = rw same at (unless_none (bad_ticket (layout_of chip) (ticket_in image) _) _ m seventh)

  opened : Opened (layout_of chip) m
  unfolding chip
  opened = rw same at as_found.opened

  fitting : fits (length image) m ≡ true
  unfolding chip
  fitting =
      fits_is m (length image)
      ∙ rw (eq-eqb m.len (length image) len, own_known m as_found.chip (ap from_len len ∙ as_found.known), rw same at as_found.fitting)
    where
      len : m.len ≡ length image
      len = opened.image ∙ sym (from_is (length image) as_found.chip as_found.known)

  clean : (layout_of chip).large ≡ false → (v j : ℕ) → v < virtuals (layout_of chip) → (block_at m v).condition ≡ Clean → j < sectors
      → ticket_in image (number_at m v) j ≡ get_or m.tickets (v * sectors + j) 0
  unfolding bad_ticket fails_at sector_fails
  clean small v j h c b =
      let n = rw small at fit in
      let z = first_none (fails_at (ticket_in image) m) 0 (virtuals (layout_of chip) * sectors) n (v * sectors + j) (omega arith) (omega arith) in
      let d : (v * sectors + j) / sectors ≡ v = omega arith in
      let r : (v * sectors + j) % sectors ≡ j = omega arith in
      let y = rw (d, r, ap is_free c) at z in
      eqb-true _ _ (not-false _ y)

  pub start_good : Good chip (state image m) (save_bytes image m)
  start_good =
      record {
        known = known;
        fitting = fitting;
        blocks_length = opened.blocks_length;
        tickets_length = opened.tickets_length;
        holds = refl;
        past_blocks = opened.past_blocks;
        past_tickets = opened.past_tickets;
        free_tickets = opened.free_tickets;
        large_tickets = opened.large_tickets;
        clean_tickets = clean;
        quiet = λ q. accepted;
      }
