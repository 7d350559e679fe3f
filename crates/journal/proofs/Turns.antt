-- A turn of the replay's loop over the slots: what the slots from k on make of m, if none is left, if the copies of slot k
-- differ, if the journal ends there, if its entry is refused, and if it is applied. The laws of `Entered`, as the code asks
-- them. Assumes nothing.
use mathlib.Core.Path.{◌≡◌, refl, sym, ap, ◌∙◌}
use mathlib.Core.Bool.{true, false}
use mathlib.Core.List.{List, []}
use Prim.Native.Nat.{ℕ, ◌+◌, ◌-◌, ◌≤◌, ◌<◌}
use native.Mathlib.Omega.{arith}
use lib.ListN.{length, get_or, set}
use Rattle.lists.specs.Words.{tabulate, rep}
use Rattle.lists.proofs.Tabulate.{length-tabulate, get_or-tabulate}
use Rattle.chip.specs.Figures.{Layout, sectors, erased, slot_count, journal_at}
use Rattle.answers.specs.declared.Answer.TheVariants.{Accepted, CopiesDiffer, BadEntry}
use Rattle.mapping.specs.declared.Condition.TheVariants.{Free, Clean}
use Rattle.mapping.specs.declared.Mapping.{Mapping}
use Rattle.mapping.specs.declared.Outcome.{Outcome}
use Rattle.mapping.specs.Blocks.{block_of, block_at, mapping_of, with_tickets}
use Rattle.mapping.specs.Outcomes.{outcome, refused}
use Rattle.journal.specs.declared.Entry.{Entry}
use Rattle.journal.specs.Entries.{slot_at, twins, entry_of, allowed}
use Rattle.journal.specs.Replay.{journal_from}
use Rattle.journal.proofs.Slots.{slots_end}
use Rattle.journal.proofs.Entered.{lent, Turn, slot, torn, ended, Entered, bad, goes_large, goes_small}

-- all slots
abbrev pub all_slots : Layout → List ℕ → List (List ℕ)
all_slots l z = tabulate (slot_at l z) (slot_count l)

module _ (l : Layout) (m : Mapping) (z : List ℕ) (k : ℕ) where
  abbrev s : List ℕ
  s = get_or (all_slots l z) k []

  abbrev rest : Mapping → ℕ → Outcome
  rest n i = journal_from l n z i (slot_count l - i)

  inside : k < length (all_slots l z) → k < slot_count l
  inside h = omega (arith, h, length-tabulate (slot_at l z) (slot_count l))

  pub turns_out : length (all_slots l z) ≤ k → rest m k ≡ outcome Accepted m
  turns_out h = sym (slots_end l m z k (slot_count l) (omega (arith, h, length-tabulate (slot_at l z) (slot_count l))))

  module _ (h : k < length (all_slots l z)) where
    turn : Turn l m z (journal_at l) k (slot_count l) (rest m k)
    turn = record { start = refl; more = inside h; rest = refl }

    as_lent : s ≡ lent z (journal_at l) k
    as_lent = get_or-tabulate (slot_at l z) (slot_count l) k [] (inside h) ∙ sym (slot turn)

    pub turn_torn : twins s ≡ false → rest m k ≡ refused (CopiesDiffer k)
    turn_torn t = sym (torn turn (rw as_lent at t))

    pub turn_ends : twins s ≡ true → get_or s 0 0 ≡ erased → rest m k ≡ outcome Accepted m
    turn_ends t f = sym (ended turn (rw as_lent at t) (rw as_lent at f))

    module _ (t : twins s ≡ true) (f : get_or s 0 0 ≡ erased → ⊥) where
      abbrev x : Entry
      x = entry_of s

      entered : Entered l m z (journal_at l) k (slot_count l) (rest m k) x x.v.0 x.w.0
      entered =
          record {
            turn = turn;
            same = rw as_lent at t;
            going = rw as_lent at f;
            entry = ap entry_of as_lent;
            at_v = refl;
            at_w = refl;
          }

      pub turn_refused : allowed l (block_at m x.v.0) (block_at m x.w.0) x ≡ false → rest m k ≡ refused (BadEntry k)
      turn_refused r = sym (bad entered _ refl r)

      module _ (r : allowed l (block_at m x.v.0) (block_at m x.w.0) x ≡ true) where
        -- w's record and then v's are stored
        abbrev moved : Mapping
        moved = mapping_of m.len (set (set m.blocks x.w.0 (block_of x.q.0 x.d Free)) x.v.0 (block_of x.p.0 x.c Clean)) m.tickets

        pub turn_large : l.large ≡ true → rest m k ≡ rest moved (k + 1)
        turn_large q = goes_large entered _ refl r _ _ refl refl q

        pub turn_small
            : l.large ≡ false
            → rest m k ≡ rest (with_tickets (with_tickets moved x.w.0 (rep sectors 0)) x.v.0 x.tickets) (k + 1)
        turn_small q = goes_small entered _ refl r _ _ refl refl q _ refl

-- what `replay` names
pub ruleset turns = (turns_out, turn_refused)
