-- What steps 1 to 6 accept is a mapping in good order. An accepted outcome comes through every step: the map's mapping is
-- in good order by step 3, each entry of the journal keeps it so, and step 6 adds that the reserved block is free.
-- Assumes nothing.
use Rattle.std.specs.Prelude.{Option, Some, None}
use mathlib.Core.Path.{◌≡◌, refl, ap, subst, ◌∙◌}
use mathlib.Core.Bool.{Bool, true, false}
use mathlib.Core.List.{List, [], ◌∷◌}
use Prim.Native.Nat.{ℕ, zero, suc, ◌+◌, ◌*◌, ◌/◌, ◌-◌, ◌≤◌, ◌<◌}
use native.Mathlib.Omega.{arith}
use borrow.Author.Tests.{eqb-true, eqb-false}
use lib.Dec.{eqb}
use lib.ListN.{length}
use Rattle.lists.specs.Words.{pick}
use Rattle.lists.proofs.Tests.{and_both}
use Rattle.lists.proofs.Windows.{length-window}
use Rattle.chip.specs.declared.Chip.{Chip}
use Rattle.chip.specs.Figures.{Layout, layout_of, reserved, sectors, block_len, slot_len, slot_count, journal_at, from_len, by_chip}
use Rattle.chip.proofs.Layouts.{Sound, sound, map_fits}
use Rattle.answers.specs.declared.Answer.{Answer}
use Rattle.answers.specs.declared.Answer.TheVariants.{Accepted, WrongLength, WrongMapSum, BadNumber, CopiesDiffer, BadEntry, ReservedInUse}
use Rattle.mapping.specs.declared.Mapping.{Mapping}
use Rattle.mapping.specs.declared.Outcome.{Outcome}
use Rattle.mapping.specs.Fits.{each_once, reserved_free, fits_as}
use Rattle.answers.specs.Answers.{number_of}
use Rattle.mapping.specs.Outcomes.{outcome, refused, and_then, unless_found}
use Rattle.answers.proofs.Numbers.{zero_accepted}
use Rattle.mapping.proofs.Onto.{apart_once}
use Rattle.block_map.specs.Items.{loaded, sum_holds, bad_number}
use Rattle.journal.specs.declared.Entry.{Entry}
use Rattle.journal.specs.Entries.{slot_at, twins, ends, entry_of, entry_ok, applied}
use Rattle.journal.specs.Replay.{entries_from, torn_from, unless_torn, replay, journal_of}
use Rattle.journal.specs.Steps.{step6, steps2to6, steps3to6, steps4to6, steps1to6}
use Rattle.journal.specs.Opened.{Opened, OpenedAs}
use Rattle.journal.proofs.Loaded.{loaded_opened}
use Rattle.journal.proofs.Applied.{applied_opened}

-- ---- an accepted outcome, taken back through a step

-- it is no refusal
not_refused : (a : Answer) (m : Mapping) → (number_of a ≡ 0 → ⊥) → refused a ≡ outcome Accepted m → ⊥
not_refused a m r e = r (ap (λ (o : Outcome). number_of o.answer) e)

pick_accepted
    : (t : Bool) (o : Outcome) (a : Answer) (m : Mapping)
    → (number_of a ≡ 0 → ⊥) → pick t o (refused a) ≡ outcome Accepted m → (t ≡ true) × (o ≡ outcome Accepted m)
pick_accepted true o a m r e = (refl, e)
pick_accepted false o a m r e = absurd (not_refused a m r e)

found_accepted
    : (f : Option ℕ) (a : ℕ → Answer) (o : Outcome) (m : Mapping)
    → ((n : ℕ) → number_of (a n) ≡ 0 → ⊥) → unless_found f a o ≡ outcome Accepted m
    → (f ≡ None) × (o ≡ outcome Accepted m)
found_accepted (Some n) a o m r e = absurd (not_refused (a n) m (r n) e)
found_accepted None a o m r e = (refl, e)

torn_accepted : (f : Option ℕ) (m n : Mapping) → unless_torn f m ≡ outcome Accepted n → m ≡ n
torn_accepted (Some k) m n e = absurd (not_refused (CopiesDiffer k) n (λ d. omega arith) e)
torn_accepted None m n e = ap (λ (o : Outcome). o.mapping) e

then_accepted
    : (o : Outcome) (next : Mapping → Outcome) (m : Mapping) → and_then o next ≡ outcome Accepted m
    → (o ≡ outcome Accepted o.mapping) × (next o.mapping ≡ outcome Accepted m)
then_accepted o next m e = go (eqb (number_of o.answer) 0) refl e
  where
    go
        : (t : Bool) → eqb (number_of o.answer) 0 ≡ t → pick t (next o.mapping) o ≡ outcome Accepted m
        → (o ≡ outcome Accepted o.mapping) × (next o.mapping ≡ outcome Accepted m)
    go true p d =
        let a : o.answer ≡ Accepted = zero_accepted o.answer (eqb-true _ _ p) in
        ((λ i. record { answer = a i; mapping = o.mapping }), d)
    go false p d = absurd (eqb-false _ _ p (ap (λ (x : Outcome). number_of x.answer) d))

-- ---- the entries of the slots have 8 tickets each

pub data Eights : List Entry → Type 0 where
  none : Eights []
  more : {e : Entry} {es : List Entry} → length e.tickets ≡ sectors → Eights es → Eights (e ∷ es)

module _ (l : Layout) (s : Sound l) (z : List ℕ) (size : block_len ≤ length z) where
  -- a slot lies in block zero
  slot_room : (a k : ℕ) → a ≤ block_len → k < (block_len - a) / slot_len → a + k * slot_len + slot_len ≤ length z
  slot_room a k h b = omega arith

  slot_length : (k : ℕ) → k < slot_count l → length (slot_at l z k) ≡ slot_len
  slot_length k h = length-window (journal_at l + k * slot_len) slot_len z (slot_room (journal_at l) k (map_fits l s) h)

  slot_eight : (t : List ℕ) → length t ≡ slot_len → length (entry_of t).tickets ≡ sectors
  unfolding entry_of
  slot_eight t e = length-window 6 sectors t (omega arith)

  -- the n slots from k on
  pub entries_eight : (k n : ℕ) → k + n ≤ slot_count l → Eights (entries_from l z k n)
  unfolding entries_from
  entries_eight k zero h = none
  entries_eight k (suc n) h = go (twins (slot_at l z k)) (ends (slot_at l z k)) (entries_eight (k + 1) n (omega arith))
    where
      go
          : (t u : Bool) → Eights (entries_from l z (k + 1) n)
          → Eights (pick t (pick u [] (entry_of (slot_at l z k) ∷ entries_from l z (k + 1) n)) [])
      go false u r = none
      go true true r = none
      go true false r = more (slot_eight (slot_at l z k) (slot_length k (omega arith))) r

-- ---- good order through the steps

-- entries of 8 tickets, replayed
pub replay_opened
    : (l : Layout) (m : Mapping) (k : ℕ) (es : List Entry) (torn : Option ℕ) (n : Mapping)
    → Opened l m → Eights es → replay l m k es torn ≡ outcome Accepted n → Opened l n
unfolding replay
replay_opened l m k [] torn n o none e = subst (λ (x : Mapping). Opened l x) (torn_accepted torn m n e) o
replay_opened l m k (x ∷ es) torn n o (more t ts) e =
    let r = pick_accepted (entry_ok l m x) (replay l (applied l m x) (k + 1) es torn) (BadEntry k) n (λ d. omega arith) e in
    replay_opened l (applied l m x) (k + 1) es torn n (applied_opened l m x o r.0 t) ts r.1

module _ (l : Layout) (s : Sound l) (z : List ℕ) (size : length z ≡ block_len) (m : Mapping) where
  journal_opened : (n : Mapping) → Opened l n → journal_of l n z ≡ outcome Accepted m → Opened l m
  unfolding journal_of
  journal_opened n o e =
      replay_opened l n 0 (entries_from l z 0 (slot_count l)) (torn_from l z 0 (slot_count l)) m o
      (entries_eight l s z (omega arith) 0 (slot_count l) (omega arith)) e

  step6_accepted : (n : Mapping) → step6 l n ≡ outcome Accepted m → (n ≡ m) × (reserved_free l m ≡ true)
  unfolding step6
  step6_accepted n e =
      let r = pick_accepted (reserved_free l n) (outcome Accepted n) (ReservedInUse (reserved l)) m (λ d. omega arith) e in
      let d : n ≡ m = ap (λ (o : Outcome). o.mapping) r.1 in
      (d, subst (λ (x : Mapping). reserved_free l x ≡ true) d r.0)

  -- what steps 2 to 6 accept is in good order, with a free reserved block
  pub accepted_opened : steps2to6 l z ≡ outcome Accepted m → Opened l m × (reserved_free l m ≡ true)
  unfolding steps2to6
  accepted_opened e =
      let a = pick_accepted (sum_holds l z) (steps3to6 l z (loaded l z)) WrongMapSum m (λ d. omega arith) e in
      let r : Mapping = loaded l z in
      let b = found_accepted (bad_number l r) BadNumber (steps4to6 l z r) m (λ n d. omega arith) a.1 in
      let c = then_accepted (journal_of l r z) (step6 l) m b.1 in
      let d = step6_accepted (journal_of l r z).mapping c.1 in
      (journal_opened r (loaded_opened l s z b.0) (c.0 ∙ ap (outcome Accepted) d.0), d.1)

  -- and fits
  pub accepted_fits : steps2to6 l z ≡ outcome Accepted m → fits_as l m ≡ true
  accepted_fits e =
      let a = accepted_opened e in
      and_both (each_once l m) (reserved_free l m) (apart_once m l (omega (arith, s.some)) a.0.numbers) a.1

-- what steps 1 to 6 accept is in good order for the chip of the image's length, and fits it
pub accepted_as
    : (z : List ℕ) (n : ℕ) → length z ≡ block_len → (m : Mapping) → steps1to6 z n ≡ outcome Accepted m → OpenedAs n m
unfolding steps1to6
accepted_as z n size m e = go (from_len n) refl e
  where
    go
        : (c : Option Chip) → from_len n ≡ c
        → by_chip c (λ k. steps2to6 (layout_of k) z) (refused WrongLength) ≡ outcome Accepted m → OpenedAs n m
    go (Some k) p d =
        record {
          chip = k;
          known = p;
          opened = (accepted_opened (layout_of k) (sound k) z size m d).0;
          fitting = accepted_fits (layout_of k) (sound k) z size m d;
        }
    go None p d = absurd (not_refused WrongLength m (λ x. omega arith) d)
