-- What every point of a run keeps to: image and mapping belong together, the save is the tape, and nothing stands in the
-- mapping that an open would not give back once every block is clean. Assumes nothing.
use Rattle.std.specs.Prelude.{◌≡◌, true, false, List, ℕ, ◌+◌, ◌*◌, ◌<◌, ◌≤◌, length, get_or, Some}
use Rattle.chip.specs.declared.Chip.{Chip}
use Rattle.chip.specs.Figures.{layout_of, virtuals, sectors, from_len, records}
use Rattle.answers.specs.declared.Answer.TheVariants.{Accepted}
use Rattle.mapping.specs.declared.Condition.TheVariants.{Clean}
use Rattle.mapping.specs.Blocks.{no_block, block_at, number_at, free_at}
use Rattle.mapping.specs.Fits.{fits}
use Rattle.mapping.specs.Outcomes.{outcome}
use Rattle.tickets.specs.Tickets.{ticket_in}
use Rattle.save.specs.Save.{save_bytes}
use Rattle.save.specs.Visits.{State}
use Rattle.wear_leveling.specs.Open.{open_of}
use Rattle.tape.specs.Demand.{Quiet}

pub record Good (k : Chip) (st : State) (t : List ℕ) : Type 0 where
  pub known : from_len (length st.image) ≡ Some k
  pub fitting : fits (length st.image) st.mapping ≡ true
  pub blocks_length : length st.mapping.blocks ≡ records
  pub tickets_length : length st.mapping.tickets ≡ records * sectors
  pub holds : save_bytes st.image st.mapping ≡ t
  -- records and tickets past V, of free blocks and of large chips are blank
  pub past_blocks : (u : ℕ) → virtuals (layout_of k) ≤ u → block_at st.mapping u ≡ no_block
  pub past_tickets : (j : ℕ) → virtuals (layout_of k) * sectors ≤ j → get_or st.mapping.tickets j 0 ≡ 0
  pub free_tickets
      : (v j : ℕ)
      → v < virtuals (layout_of k)
      → free_at st.mapping v ≡ true
      → j < sectors
      → get_or st.mapping.tickets (v * sectors + j) 0 ≡ 0
  pub large_tickets : (layout_of k).large ≡ true → (j : ℕ) → get_or st.mapping.tickets j 0 ≡ 0
  -- the tickets of a clean block of a small chip fit its sectors
  pub clean_tickets
      : (layout_of k).large ≡ false
      → (v j : ℕ)
      → v < virtuals (layout_of k)
      → (block_at st.mapping v).condition ≡ Clean
      → j < sectors
      → ticket_in st.image (number_at st.mapping v) j ≡ get_or st.mapping.tickets (v * sectors + j) 0
  -- where no block is changed, an open gives exactly this mapping
  pub quiet : Quiet k st.mapping → open_of st.image ≡ outcome Accepted st.mapping
