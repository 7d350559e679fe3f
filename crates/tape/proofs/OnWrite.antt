-- A write, accepted or refused, keeps what a run keeps: its save is the tape's splice, tickets and numbers stay, a block that
-- it did not visit is as it was, and where it leaves no block changed it did nothing. Assumes nothing.
use mathlib.Core.Path.{◌≡◌, refl, sym, ap, ◌∙◌}
use mathlib.Core.Bool.{true}
use mathlib.Core.List.{List}
use Prim.Native.Nat.{ℕ, ◌+◌, ◌*◌}
use native.Mathlib.Decide.{ℕ_discrete}
use native.Mathlib.Omega.{arith}
use borrow.Author.Tests.{eq-eqb, ne_eqb}
use lib.ListN.{length, get_or}
use Rattle.lists.specs.Words.{splice}
use Rattle.lists.proofs.Orders.{not_both}
use Rattle.chip.specs.declared.Chip.{Chip}
use Rattle.chip.specs.Figures.{sectors}
use Rattle.answers.specs.declared.Answer.TheVariants.{Accepted}
use Rattle.mapping.specs.declared.Condition.{Condition}
use Rattle.mapping.specs.declared.Condition.TheVariants.{Clean, Changed}
use Rattle.mapping.specs.declared.Mapping.{Mapping}
use Rattle.mapping.specs.Blocks.{is_free, block_at}
use Rattle.answers.specs.Answers.{number_of}
use Rattle.answers.proofs.Numbers.{zero_accepted}
use Rattle.tickets.specs.Tickets.{ticket_in}
use Rattle.save.specs.Visits.{State, state, written}
use Rattle.wear_leveling.specs.Read.{admission, if_accepted}
use Rattle.wear_leveling.specs.Write.{after_write}
use Rattle.tape.specs.Demand.{Quiet}
use Rattle.tape.specs.Good.{Good}
use Rattle.tape.proofs.Granted.{write_is, write_refused}
use Rattle.tape.proofs.Writes.{write_save, write_length, write_tickets, write_number, write_size, write_fits, unvisited, write_beyond, write_block_bytes, write_still}

-- a block that is free or clean is not changed
free_unchanged : (d : Condition) → is_free d ≡ true → d ≡ Changed → ⊥
free_unchanged d e f = let z : is_free Changed ≡ true = rw f at e in not_both z refl

clean_unchanged : (d : Condition) → d ≡ Clean → d ≡ Changed → ⊥
clean_unchanged d e f = let z : ◌≡◌ {A = ℕ} 0 1 = cc in omega arith

module _ (k : Chip) (image : List ℕ) (m : Mapping) (t : List ℕ) (g : Good k (state image m) t) (place : ℕ) (d : List ℕ) where
  module _ (ok : admission (length image) m place (length d) ≡ Accepted) where
    new : State
    new = written place d (state image m)

    same_length : length new.image ≡ length image
    unfolding new
    same_length = write_length image m place d k g.known ok

    accepted_good : Good k (written place d (state image m)) (splice t place d)
    unfolding new
    accepted_good =
        record {
          known = rw same_length g.known;
          fitting = write_fits image m place d k g.known ok;
          blocks_length = write_size image m place d k g.known ok ∙ g.blocks_length;
          tickets_length = ap length (write_tickets image m place d k g.known ok) ∙ g.tickets_length;
          holds = write_save image m place d k g.known ok ∙ ap (λ (x : List ℕ). splice x place d) g.holds;
          past_blocks = λ u h. write_beyond image m place d k g.known ok u (omega arith) ∙ g.past_blocks u h;
          past_tickets = λ j h. rw (write_tickets image m place d k g.known ok) (g.past_tickets j h);
          free_tickets = λ v j h e b.
              let same : block_at new.mapping v ≡ block_at m v =
              unvisited image m place d k g.known ok v (free_unchanged (block_at new.mapping v).condition e) in
              rw (write_tickets image m place d k g.known ok) (g.free_tickets v j h (rw same at e) b);
          large_tickets = λ e j. rw (write_tickets image m place d k g.known ok) (g.large_tickets e j);
          clean_tickets = λ e v j h c b.
              let quiet : (block_at new.mapping v).condition ≡ Changed → ⊥ = clean_unchanged (block_at new.mapping v).condition c in
              let same : block_at new.mapping v ≡ block_at m v = unvisited image m place d k g.known ok v quiet in
              ap (λ (n : ℕ). ticket_in new.image n j) (write_number image m place d k g.known ok v)
              ∙ write_block_bytes image m place d k g.known ok v j h b quiet
              ∙ g.clean_tickets e v j h (rw same at c) b
              ∙ sym (ap (λ (x : List ℕ). get_or x (v * sectors + j) 0) (write_tickets image m place d k g.known ok));
          quiet = λ q.
              let still : new ≡ state image m = write_still image m place d k g.known ok q in
              let before : Quiet k m = λ v h c. q v h (rw still c) in
              rw still (g.quiet before);
        }

  -- refused writes leave state and tape alone, accepted ones splice the tape
  pub write_good
      : Good k (after_write image m place d) (if_accepted (admission (length image) m place (length d)) (splice t place d) t)
  write_good = go (ℕ_discrete (number_of (admission (length image) m place (length d))) 0)
    where
      go
          : Dec (number_of (admission (length image) m place (length d)) ≡ 0)
          → Good k (after_write image m place d) (if_accepted (admission (length image) m place (length d)) (splice t place d) t)
      go (yes e) =
          let ok : admission (length image) m place (length d) ≡ Accepted = zero_accepted (admission (length image) m place (length d)) e in
          rw (eq-eqb (number_of (admission (length image) m place (length d))) 0 e, write_is image m place d ok) (accepted_good ok)
      go (no ne) =
          rw (
            ne_eqb (number_of (admission (length image) m place (length d))) 0 ne,
            write_refused image m place d (λ q. ne (ap number_of q)),
          )
          g
