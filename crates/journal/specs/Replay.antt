-- Steps 4 and 5 over all slots (01, "Opening"): the slots up to the end or to one whose copies differ hold a list of
-- entries, and the entries are replayed one after the other; "the first bad slot decides". Assumes nothing.
use Rattle.std.specs.Prelude.{List, [], ◌∷◌, ℕ, zero, suc, ◌+◌, Option, Some, None}
use Rattle.lists.specs.Words.{pick}
use Rattle.chip.specs.Figures.{Layout, slot_count}
use Rattle.answers.specs.declared.Answer.TheVariants.{Accepted, CopiesDiffer, BadEntry}
use Rattle.mapping.specs.declared.Mapping.{Mapping}
use Rattle.mapping.specs.declared.Outcome.{Outcome}
use Rattle.mapping.specs.Outcomes.{outcome, refused}
use Rattle.journal.specs.declared.Entry.{Entry}
use Rattle.journal.specs.Entries.{slot_at, twins, ends, entry_of, entry_ok, applied}

-- the entries of the n slots from k on, up to the end or to a slot whose copies differ
unfoldable pub entries_from : Layout → List ℕ → ℕ → ℕ → List Entry
entries_from l z k zero = []
entries_from l z k (suc n) =
    pick (twins (slot_at l z k))
    (pick (ends (slot_at l z k)) [] (entry_of (slot_at l z k) ∷ entries_from l z (k + 1) n))
    []

-- the slot at which the n slots from k on stop because its copies differ; "this comparison comes before the end test"
unfoldable pub torn_from : Layout → List ℕ → ℕ → ℕ → Option ℕ
torn_from l z k zero = None
torn_from l z k (suc n) =
    pick (twins (slot_at l z k)) (pick (ends (slot_at l z k)) None (torn_from l z (k + 1) n)) (Some k)

-- what is left to say once the entries are replayed
abbrev pub unless_torn : Option ℕ → Mapping → Outcome
unless_torn (Some k) m = refused (CopiesDiffer k)
unless_torn None m = outcome Accepted m

-- the entries es from slot k on, replayed; then `torn`
unfoldable pub replay : Layout → Mapping → ℕ → List Entry → Option ℕ → Outcome
replay l m k [] torn = unless_torn torn m
replay l m k (e ∷ es) torn = pick (entry_ok l m e) (replay l (applied l m e) (k + 1) es torn) (refused (BadEntry k))

-- the n slots from k on
abbrev pub journal_from : Layout → Mapping → List ℕ → ℕ → ℕ → Outcome
journal_from l m z k n = replay l m k (entries_from l z k n) (torn_from l z k n)

-- steps 4 and 5
unfoldable pub journal_of : Layout → Mapping → List ℕ → Outcome
journal_of l m z = journal_from l m z 0 (slot_count l)
