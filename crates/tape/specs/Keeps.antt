-- What each call leaves as it was (01), of any image and mapping and not only of those of a run. That open stores nothing and
-- an accepted read leaves the mapping is said by their types. Assumes nothing.
use Rattle.std.specs.Prelude.{◌≡◌, List, ℕ, ◌*◌, ◌<◌, ◌≤◌, length, get_or, take, drop}
use Rattle.chip.specs.declared.Chip.{Chip}
use Rattle.chip.specs.declared.Chip.TheVariants.{Mib1}
use Rattle.chip.specs.Figures.{layout_of, virtuals, block_len, header_len, sectors, records}
use Rattle.answers.specs.Answers.{number_of}
use Rattle.mapping.specs.declared.Mapping.{Mapping}
use Rattle.mapping.specs.Blocks.{block_at, count_at}
use Rattle.save.specs.Visits.{state}
use Rattle.wear_leveling.specs.Read.{admission, read_into}
use Rattle.wear_leveling.specs.Write.{after_write}
use Rattle.wear_leveling.specs.Commit.{commit_answer, after_commit}
use Rattle.wear_leveling.specs.Format.{format_answer, after_format}
use Rattle.tape.specs.Cases.{Sized}

pub record Keeps : Type 0 where
  -- "a refusal stores nothing"; "a refused read, write or commit returns the mapping it got"
  pub read_refused
      : (image : List ℕ) (m : Mapping) (place : ℕ) (buf : List ℕ)
      → (number_of (admission (length image) m place (length buf)) ≡ 0 → ⊥) → read_into image m place buf ≡ buf
  pub write_refused
      : (image : List ℕ) (m : Mapping) (place : ℕ) (d : List ℕ)
      → (number_of (admission (length image) m place (length d)) ≡ 0 → ⊥) → after_write image m place d ≡ state image m
  pub commit_refused
      : (image : List ℕ) (m : Mapping) → (number_of (commit_answer (length image) m) ≡ 0 → ⊥) → after_commit image m ≡ state image m
  pub format_refused : (z : List ℕ) → (number_of (format_answer (length z)) ≡ 0 → ⊥) → after_format z ≡ z
  -- "data blocks aren't stored to"
  pub commit_data : (image : List ℕ) (m : Mapping) → drop block_len (after_commit image m).image ≡ drop block_len image
  pub format_data : (z : List ℕ) → drop block_len (after_format z) ≡ drop block_len z
  -- commit: "header and padding stay"
  pub commit_header : (image : List ℕ) (m : Mapping) → take header_len (after_commit image m).image ≡ take header_len image
  pub commit_padding
      : (image : List ℕ) (m : Mapping) → Sized Mib1 image
      → (i : ℕ) → 0x206 ≤ i → i ≤ 0x3FD → get_or (after_commit image m).image i 0 ≡ get_or image i 0
  -- "entries past V are ignored and kept"
  pub write_past
      : (k : Chip) (image : List ℕ) (m : Mapping) (place : ℕ) (d : List ℕ) → Sized k image
      → (v : ℕ) → virtuals (layout_of k) ≤ v → block_at (after_write image m place d).mapping v ≡ block_at m v
  pub commit_past
      : (k : Chip) (image : List ℕ) (m : Mapping) → Sized k image
      → (v : ℕ) → virtuals (layout_of k) ≤ v → v < records → block_at (after_commit image m).mapping v ≡ block_at m v
  pub commit_past_tickets
      : (k : Chip) (image : List ℕ) (m : Mapping) → Sized k image
      → (j : ℕ) → virtuals (layout_of k) * sectors ≤ j → j < records * sectors
      → get_or (after_commit image m).mapping.tickets j 0 ≡ get_or m.tickets j 0
  -- "on a large chip a mapping's tickets are ignored and kept by every call"; a write keeps them on every chip
  pub write_tickets
      : (image : List ℕ) (m : Mapping) (place : ℕ) (d : List ℕ) → (after_write image m place d).mapping.tickets ≡ m.tickets
  pub commit_large_tickets
      : (image : List ℕ) (m : Mapping) → Sized Mib1 image
      → (j : ℕ) → j < records * sectors → get_or (after_commit image m).mapping.tickets j 0 ≡ get_or m.tickets j 0
  -- "raises count 0 to 1": every other count stays
  pub write_counts
      : (image : List ℕ) (m : Mapping) (place : ℕ) (d : List ℕ) (v : ℕ)
      → 1 ≤ count_at m v → count_at (after_write image m place d).mapping v ≡ count_at m v
  pub commit_counts
      : (k : Chip) (image : List ℕ) (m : Mapping) → Sized k image
      → (v : ℕ) → v < virtuals (layout_of k) → count_at (after_commit image m).mapping v ≡ count_at m v
