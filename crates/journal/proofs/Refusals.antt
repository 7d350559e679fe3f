-- "open's refusal returns the blank mapping": each step either accepts, or refuses by `refused`, or hands on an outcome of
-- which this holds, so that it holds of steps 1 to 6. Assumes nothing.
use Rattle.std.specs.Prelude.{Option, Some, None}
use mathlib.Core.Path.{◌≡◌, refl}
use mathlib.Core.Bool.{Bool, true, false}
use mathlib.Core.List.{List, [], ◌∷◌}
use Prim.Native.Nat.{ℕ, ◌+◌}
use lib.Dec.{eqb}
use Rattle.lists.specs.Words.{pick}
use Rattle.chip.specs.declared.Chip.{Chip}
use Rattle.chip.specs.Figures.{Layout, layout_of, reserved, slot_count, from_len, by_chip}
use Rattle.answers.specs.declared.Answer.{Answer}
use Rattle.answers.specs.declared.Answer.TheVariants.{Accepted, WrongLength, WrongMapSum, BadNumber, CopiesDiffer, BadEntry, ReservedInUse}
use Rattle.mapping.specs.declared.Mapping.{Mapping}
use Rattle.mapping.specs.declared.Outcome.{Outcome}
use Rattle.mapping.specs.Blocks.{blank}
use Rattle.mapping.specs.Fits.{reserved_free}
use Rattle.answers.specs.Answers.{number_of}
use Rattle.mapping.specs.Outcomes.{outcome, refused, and_then, unless_found}
use Rattle.block_map.specs.Items.{loaded, sum_holds, bad_number}
use Rattle.journal.specs.declared.Entry.{Entry}
use Rattle.journal.specs.Entries.{entry_ok, applied}
use Rattle.journal.specs.Replay.{entries_from, torn_from, unless_torn, replay, journal_of}
use Rattle.journal.specs.Steps.{step6, steps3to6, steps4to6, steps2to6, steps1to6}

-- a mapping that comes with a refusal is blank
abbrev pub Blanked : Outcome → Type 0
Blanked o = (number_of o.answer ≡ 0 → ⊥) → o.mapping ≡ blank

pub accepted_blanked : (m : Mapping) → Blanked (outcome Accepted m)
accepted_blanked m r = absurd (r refl)

pub refused_blanked : (a : Answer) → Blanked (refused a)
refused_blanked a r = refl

pick_blanked : (t : Bool) (o p : Outcome) → Blanked o → Blanked p → Blanked (pick t o p)
pick_blanked true o p f g = f
pick_blanked false o p f g = g

pub then_blanked
    : (o : Outcome) (next : Mapping → Outcome) → Blanked o → ((m : Mapping) → Blanked (next m)) → Blanked (and_then o next)
then_blanked o next f g = pick_blanked (eqb (number_of o.answer) 0) (next o.mapping) o (g o.mapping) f

pub found_blanked : (f : Option ℕ) (a : ℕ → Answer) (o : Outcome) → Blanked o → Blanked (unless_found f a o)
found_blanked (Some n) a o g = refused_blanked (a n)
found_blanked None a o g = g

torn_blanked : (f : Option ℕ) (m : Mapping) → Blanked (unless_torn f m)
torn_blanked (Some k) m = refused_blanked (CopiesDiffer k)
torn_blanked None m = accepted_blanked m

replay_blanked : (l : Layout) (m : Mapping) (k : ℕ) (es : List Entry) (torn : Option ℕ) → Blanked (replay l m k es torn)
unfolding replay
replay_blanked l m k [] torn = torn_blanked torn m
replay_blanked l m k (e ∷ es) torn =
    pick_blanked (entry_ok l m e) (replay l (applied l m e) (k + 1) es torn) (refused (BadEntry k))
    (replay_blanked l (applied l m e) (k + 1) es torn) (refused_blanked (BadEntry k))

journal_blanked : (l : Layout) (m : Mapping) (z : List ℕ) → Blanked (journal_of l m z)
unfolding journal_of
journal_blanked l m z = replay_blanked l m 0 (entries_from l z 0 (slot_count l)) (torn_from l z 0 (slot_count l))

step6_blanked : (l : Layout) (m : Mapping) → Blanked (step6 l m)
unfolding step6
step6_blanked l m =
    pick_blanked (reserved_free l m) (outcome Accepted m) (refused (ReservedInUse (reserved l))) (accepted_blanked m)
    (refused_blanked (ReservedInUse (reserved l)))

-- a refusal of steps 2 to 6
pub blank_2to6 : (l : Layout) (z : List ℕ) → Blanked (steps2to6 l z)
unfolding steps2to6
blank_2to6 l z =
    let m = loaded l z in
    pick_blanked (sum_holds l z) (steps3to6 l z m) (refused WrongMapSum)
    (found_blanked (bad_number l m) BadNumber (steps4to6 l z m)
    (then_blanked (journal_of l m z) (step6 l) (journal_blanked l m z) (step6_blanked l)))
    (refused_blanked WrongMapSum)

-- a refusal of steps 1 to 6
pub blank_1to6 : (z : List ℕ) (n : ℕ) → Blanked (steps1to6 z n)
unfolding steps1to6
blank_1to6 z n = go (from_len n)
  where
    go : (c : Option Chip) → Blanked (by_chip c (λ k. steps2to6 (layout_of k) z) (refused WrongLength))
    go (Some k) = blank_2to6 (layout_of k) z
    go None = refused_blanked WrongLength
