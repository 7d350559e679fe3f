-- Demand 3, sentence by sentence, as facts about one point of a run: image and mapping as they are there, and the tape
-- beside them. The theorem in proofs/Demand says that every point of every run from an accepted open has them. It says
-- nothing of calls with another mapping than the latest, or of an image that somebody else stores to. Assumes nothing.
use Rattle.std.specs.Prelude.{◌≡◌, true, List, ℕ, ◌<◌, ◌≤◌, length, take, drop, get_or, Some}
use Rattle.chip.specs.declared.Chip.{Chip}
use Rattle.chip.specs.declared.Chip.TheVariants.{Mib1}
use Rattle.chip.specs.Figures.{layout_of, block_len, virtuals, journal_at, from_len}
use Rattle.answers.specs.declared.Answer.{Answer}
use Rattle.answers.specs.declared.Answer.TheVariants.{Accepted, CountTooHigh}
use Rattle.mapping.specs.declared.Condition.TheVariants.{Changed}
use Rattle.mapping.specs.declared.Mapping.{Mapping}
use Rattle.mapping.specs.Blocks.{block_at, count_at}
use Rattle.mapping.specs.Fits.{fits}
use Rattle.mapping.specs.Outcomes.{outcome}
use Rattle.save.specs.Save.{save_bytes}
use Rattle.save.specs.Visits.{State}
use Rattle.wear_leveling.specs.Open.{open_of}
use Rattle.wear_leveling.specs.Read.{admission, read_into}
use Rattle.wear_leveling.specs.Commit.{commit_answer, after_commit}
use Rattle.tape.specs.Handed.{Gives}

-- no block of the first V is changed
abbrev pub Quiet : Chip → Mapping → Type 0
Quiet k m = (v : ℕ) → v < virtuals (layout_of k) → (block_at m v).condition ≡ Changed → ⊥

-- "a fresh open is accepted, finds the journal area all 0xFF, and holds that same tape": the mapping it gives is the latest
pub record Fresh (k : Chip) (st : State) (t : List ℕ) : Type 0 where
  pub opens : open_of st.image ≡ outcome Accepted st.mapping
  pub journal : (i : ℕ) → journal_at (layout_of k) ≤ i → i < block_len → get_or st.image i 0 ≡ 0xFF
  pub holds : save_bytes st.image st.mapping ≡ t

-- no count of the first V is above 127
abbrev pub LowCounts : Chip → Mapping → Type 0
LowCounts k m = (v : ℕ) → v < virtuals (layout_of k) → count_at m v ≤ 127

-- "Commit refuses a latest mapping exactly when, on a 1 MiB chip, it has a count above 127": what is said of its answer a to
-- the mapping m on the chip k. So each answer is determined, its number and its place
pub record Refuses (k : Chip) (m : Mapping) (a : Answer) : Type 0 where
  pub other_chips : (k ≡ Mib1 → ⊥) → a ≡ Accepted
  pub low_counts : LowCounts k m → a ≡ Accepted
  -- the first block with such a count
  pub refuses_high
      : (v : ℕ) → k ≡ Mib1 → v < virtuals (layout_of k) → 127 < count_at m v → ((u : ℕ) → u < v → count_at m u ≤ 127)
      → (a ≡ CountTooHigh v) × Gives a 10 v
  -- and the other way
  pub accepted : k ≡ Mib1 → a ≡ Accepted → LowCounts k m

pub record Kept (k : Chip) (st : State) (t : List ℕ) : Type 0 where
  -- the image stays one of the same chip, and the latest mapping always fits it: 8 is never given
  pub chip : from_len (length st.image) ≡ Some k
  pub fitting : fits (length st.image) st.mapping ≡ true
  -- "every accepted read gives what a plain tape gives"
  pub reads
      : (place : ℕ) (buf : List ℕ)
      → admission (length st.image) st.mapping place (length buf) ≡ Accepted
      → read_into st.image st.mapping place buf ≡ take (length buf) (drop place t)
  -- "straight after any accepted commit"
  pub commits : commit_answer (length st.image) st.mapping ≡ Accepted → Fresh k (after_commit st.image st.mapping) t
  -- "commit refuses a latest mapping exactly when, on a 1 MiB chip, it has a count above 127"
  pub refuses : Refuses k st.mapping (commit_answer (length st.image) st.mapping)
  -- stronger: whenever no block is changed, a fresh open gives exactly the latest mapping
  pub quiet : Quiet k st.mapping → open_of st.image ≡ outcome Accepted st.mapping
