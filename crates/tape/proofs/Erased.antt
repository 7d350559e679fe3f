-- A journal whose area is all 0xFF: its first slot has equal copies and ends it, so that nothing is replayed.
-- Assumes nothing.
use mathlib.Core.Path.{◌≡◌, sym, ◌∙◌}
use mathlib.Core.Bool.{true}
use mathlib.Core.List.{List}
use Prim.Native.Nat.{ℕ, suc, ◌+◌, ◌-◌, ◌*◌, ◌<◌, ◌≤◌}
use native.Mathlib.Omega.{arith}
use borrow.Author.Tests.{eq-eqb}
use lib.ListN.{get_or}
use Rattle.lists.proofs.Tests.{all_by}
use Rattle.lists.proofs.Windows.{get_or-window}
use Rattle.chip.specs.Figures.{Layout, block_len, slot_len, journal_at, slot_count, erased}
use Rattle.chip.proofs.Layouts.{Sound, slot_fits}
use Rattle.answers.specs.declared.Answer.TheVariants.{Accepted}
use Rattle.mapping.specs.declared.Mapping.{Mapping}
use Rattle.mapping.specs.Outcomes.{outcome}
use Rattle.journal.specs.Entries.{slot_at, entry_len, twins, ends}
use Rattle.journal.specs.Replay.{entries_from, torn_from, replay, journal_of}

module _ (l : Layout) (s : Sound l) (z : List ℕ) (blank : (i : ℕ) → journal_at l ≤ i → i < block_len → get_or z i 0 ≡ erased) where
  slot_byte : (i : ℕ) → i < slot_len → get_or (slot_at l z 0) i 0 ≡ erased
  slot_byte i h =
      get_or-window (journal_at l + 0 * slot_len) slot_len z i 0 h
      ∙ blank (journal_at l + 0 * slot_len + i) (omega arith) (omega (arith, slot_fits l s))

  first_twins : twins (slot_at l z 0) ≡ true
  unfolding twins
  first_twins =
      all_by _ entry_len
      (λ i h. eq-eqb _ _ (slot_byte i (omega arith) ∙ sym (slot_byte (entry_len + i) (omega arith))))

  first_ends : ends (slot_at l z 0) ≡ true
  first_ends = eq-eqb _ _ (slot_byte 0 (omega arith))

  -- the replay of an erased journal leaves the mapping as it is
  pub erased_journal : (m : Mapping) → journal_of l m z ≡ outcome Accepted m
  unfolding journal_of entries_from torn_from replay
  erased_journal m =
      let e : slot_count l ≡ suc (slot_count l - 1) = omega (arith, slot_fits l s) in
      rw (e, first_twins, first_ends)
