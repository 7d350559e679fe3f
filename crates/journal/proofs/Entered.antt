-- A turn of a replay over any number of slots, from what holds when it begins: each way out of it, with the outcome of the whole
-- journal, and what it leaves for the next turn. Each is the law of `Slots` for that case, at the slot as it is lent from block
-- zero, and then the fact with which the turn began: what the slots from k on make of m. `Turns` asks them of the replay in the
-- code, over the layout's own number of slots. Assumes nothing.
use mathlib.Core.Path.{◌≡◌, sym, ap, ◌∙◌}
use mathlib.Core.Bool.{Bool, true, false}
use mathlib.Core.List.{List}
use Prim.Native.Nat.{ℕ, ◌+◌, ◌-◌, ◌*◌, ◌<◌}
use native.Mathlib.Omega.{arith}
use lib.ListN.{get_or, set, take, drop}
use Rattle.lists.specs.Words.{rep}
use Rattle.chip.specs.Figures.{Layout, sectors, erased, slot_len, journal_at}
use Rattle.answers.specs.declared.Answer.TheVariants.{Accepted, CopiesDiffer, BadEntry}
use Rattle.mapping.specs.declared.Block.{Block}
use Rattle.mapping.specs.declared.Condition.TheVariants.{Free, Clean}
use Rattle.mapping.specs.declared.Mapping.{Mapping}
use Rattle.mapping.specs.declared.Outcome.{Outcome}
use Rattle.mapping.specs.Blocks.{block_of, block_at, mapping_of, with_tickets}
use Rattle.mapping.specs.Outcomes.{outcome, refused}
use Rattle.journal.specs.declared.Entry.{Entry}
use Rattle.journal.specs.Entries.{slot_at, twins, entry_of, allowed, applied}
use Rattle.journal.specs.Replay.{journal_from}
use Rattle.journal.proofs.Slots.{slot_torn, slot_ends, slot_refused, slot_passed, applied_large, applied_small}

-- slot k of a journal that starts at a, as it is lent from block zero
abbrev pub lent : List ℕ → ℕ → ℕ → List ℕ
lent z a k = take (a + k * slot_len + slot_len - (a + k * slot_len)) (drop (a + k * slot_len) z)

-- slot k is one of n, and j is what the slots from k on make of m
pub record Turn (l : Layout) (m : Mapping) (z : List ℕ) (a k n : ℕ) (j : Outcome) : Type 0 where
  pub start : a ≡ journal_at l
  pub more : k < n
  pub rest : j ≡ journal_from l m z k (n - k)

module _ {l : Layout} {m : Mapping} {z : List ℕ} {a k n : ℕ} {j : Outcome} (turn : Turn l m z a k n j) where
  pub slot : lent z a k ≡ slot_at l z k
  slot =
      let d : a + k * slot_len + slot_len - (a + k * slot_len) ≡ slot_len = omega arith in
      rw (d, turn.start)

  pub torn : twins (lent z a k) ≡ false → refused (CopiesDiffer k) ≡ j
  torn t = slot_torn l m z (lent z a k) k n slot turn.more t ∙ sym turn.rest

  pub ended : twins (lent z a k) ≡ true → get_or (lent z a k) 0 0 ≡ erased → outcome Accepted m ≡ j
  ended t f = slot_ends l m z (lent z a k) k n slot turn.more t f ∙ sym turn.rest

-- and it goes on with the entry x, whose records stand at v and w
pub record Entered (l : Layout) (m : Mapping) (z : List ℕ) (a k n : ℕ) (j : Outcome) (x : Entry) (v w : ℕ) : Type 0 where
  pub turn : Turn l m z a k n j
  pub same : twins (lent z a k) ≡ true
  pub going : get_or (lent z a k) 0 0 ≡ erased → ⊥
  pub entry : x ≡ entry_of (lent z a k)
  pub at_v : v ≡ x.v.0
  pub at_w : w ≡ x.w.0

module _ {l : Layout} {m : Mapping} {z : List ℕ} {a k n : ℕ} {j : Outcome} {x : Entry} {v w : ℕ} (e : Entered l m z a k n j x v w) where
  -- what the test of the entry said
  module _ (ok : Bool) (asked : ok ≡ allowed l (block_at m v) (block_at m w) x) where
    said : (b : Bool) → ok ≡ b → allowed l (block_at m x.v.0) (block_at m x.w.0) x ≡ b
    said b r = sym (rw (e.at_v, e.at_w) at asked) ∙ r

    pub bad : ok ≡ false → refused (BadEntry k) ≡ j
    bad r =
        slot_refused l m z (lent z a k) k n (slot e.turn) e.turn.more x e.entry e.same e.going (said false r)
        ∙ sym e.turn.rest

    -- b and c are the records that are stored at w and v
    module _
        (r : ok ≡ true) (b c : Block)
        (eb : b ≡ block_of x.q.0 x.d Free) (ec : c ≡ block_of x.p.0 x.c Clean) where
      abbrev moved : Mapping
      moved = mapping_of m.len (set (set m.blocks w b) v c) m.tickets

      goes : (y : Mapping) → y ≡ applied l m x → j ≡ journal_from l y z (k + 1) (n - (k + 1))
      goes y q =
          e.turn.rest
          ∙ slot_passed l m z (lent z a k) k n (slot e.turn) e.turn.more x e.entry e.same e.going (said true r)
          ∙ ap (λ (u : Mapping). journal_from l u z (k + 1) (n - (k + 1))) (sym q)

      pub goes_large : l.large ≡ true → j ≡ journal_from l moved z (k + 1) (n - (k + 1))
      goes_large q = goes moved (rw (e.at_v, e.at_w) (applied_large l m x b c eb ec q))

      pub goes_small
          : l.large ≡ false
          → (y : Mapping) → y ≡ with_tickets (with_tickets moved x.w.0 (rep sectors 0)) x.v.0 x.tickets
          → j ≡ journal_from l y z (k + 1) (n - (k + 1))
      goes_small q y d = goes y (d ∙ rw (e.at_v, e.at_w) (applied_small l m x b c eb ec q))
