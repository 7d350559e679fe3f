-- A turn of the replay, in the order of the code: the copies differ, the journal ends, the entry is refused, or it is
-- applied and the slots after it are left; and no slot is left. An applied entry is two stores of blocks, w's and then
-- v's, and on small chips two of tickets. Assumes nothing.
use mathlib.Core.Path.{◌≡◌, sym, ap, ◌∙◌}
use mathlib.Core.Bool.{true, false}
use mathlib.Core.List.{List}
use Prim.Native.Nat.{ℕ, suc, ◌+◌, ◌-◌, ◌≤◌, ◌<◌}
use native.Mathlib.Omega.{arith}
use borrow.Author.Tests.{eq-eqb, ne_eqb}
use lib.ListN.{get_or, set}
use Rattle.lists.specs.Words.{rep}
use Rattle.chip.specs.Figures.{Layout, sectors, erased}
use Rattle.answers.specs.declared.Answer.TheVariants.{Accepted, CopiesDiffer, BadEntry}
use Rattle.mapping.specs.declared.Block.{Block}
use Rattle.mapping.specs.declared.Condition.TheVariants.{Free, Clean}
use Rattle.mapping.specs.declared.Mapping.{Mapping}
use Rattle.mapping.specs.Blocks.{block_of, block_at, mapping_of, with_block, with_tickets}
use Rattle.mapping.specs.Outcomes.{outcome, refused}
use Rattle.journal.specs.declared.Entry.{Entry}
use Rattle.journal.specs.Entries.{slot_at, twins, entry_of, allowed, entry_ok, ticketed, freed, kept, applied}
use Rattle.journal.specs.Replay.{entries_from, torn_from, replay, journal_from}

module _ (l : Layout) (m : Mapping) (z s : List ℕ) (k n : ℕ) (e : s ≡ slot_at l z k) (h : k < n) where
  opened : journal_from l m z k (n - k) ≡ journal_from l m z k (suc (n - (k + 1)))
  opened = let d : n - k ≡ suc (n - (k + 1)) = omega arith in ap (journal_from l m z k) d

  pub slot_torn : twins s ≡ false → refused (CopiesDiffer k) ≡ journal_from l m z k (n - k)
  unfolding entries_from torn_from replay
  slot_torn t = sym (opened ∙ rw (← e) (simp t))

  pub slot_ends : twins s ≡ true → get_or s 0 0 ≡ erased → outcome Accepted m ≡ journal_from l m z k (n - k)
  unfolding entries_from torn_from replay
  slot_ends t f = sym (opened ∙ rw (← e) (simp (t, eq-eqb _ _ f)))

  -- x is the entry that was read
  module _ (x : Entry) (d : x ≡ entry_of s) (t : twins s ≡ true) (f : get_or s 0 0 ≡ erased → ⊥) where
    pub slot_refused
        : allowed l (block_at m x.v.0) (block_at m x.w.0) x ≡ false → refused (BadEntry k) ≡ journal_from l m z k (n - k)
    unfolding entries_from torn_from replay entry_ok
    slot_refused r = sym (opened ∙ rw (← e, ← d) (simp (t, ne_eqb _ _ f, r)))

    pub slot_passed
        : allowed l (block_at m x.v.0) (block_at m x.w.0) x ≡ true
        → journal_from l m z k (n - k) ≡ journal_from l (applied l m x) z (k + 1) (n - (k + 1))
    unfolding entries_from torn_from replay entry_ok
    slot_passed r = opened ∙ rw (← e, ← d) (simp (t, ne_eqb _ _ f, r))

pub slots_end : (l : Layout) (m : Mapping) (z : List ℕ) (k n : ℕ) → n ≤ k → outcome Accepted m ≡ journal_from l m z k (n - k)
unfolding entries_from torn_from replay
slots_end l m z k n h = let d : n - k ≡ 0 = omega arith in rw d

-- the records that are stored, as their functions gave them
module _
    (l : Layout) (m : Mapping) (x : Entry) (a b : Block)
    (ea : a ≡ block_of x.q.0 x.d Free)
    (eb : b ≡ block_of x.p.0 x.c Clean) where
  abbrev pub stored : Mapping
  stored = mapping_of m.len (set (set m.blocks x.w.0 a) x.v.0 b) m.tickets

  pub applied_large : l.large ≡ true → stored ≡ applied l m x
  unfolding applied kept freed ticketed with_block
  applied_large t = rw (ea, eb) (simp t)

  pub applied_small
      : l.large ≡ false
      → with_tickets (with_tickets stored x.w.0 (rep sectors 0)) x.v.0 x.tickets ≡ applied l m x
  unfolding applied kept freed ticketed with_block with_tickets
  applied_small t = rw (ea, eb) (simp t)
