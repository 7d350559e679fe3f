-- Writing (01, "Working on an open image"): the sectors that are visited, and what each visit does to image and mapping.
-- A write is its visits one after the other. Assumes nothing.
use Rattle.std.specs.Prelude.{◌≡◌, true, List, ℕ, zero, suc, ◌+◌, ◌-◌, ◌*◌, ◌/◌, ◌%◌, ◌≤◌, min, max, eqb, length}
use Rattle.std.proofs.Math.Seq.{slice}
use Rattle.lists.specs.Words.{pick, splice, rep}
use Rattle.chip.specs.Figures.{block_len, sector_len, sectors, erased}
use Rattle.mapping.specs.declared.Block.{Block}
use Rattle.mapping.specs.declared.Condition.TheVariants.{Changed}
use Rattle.mapping.specs.declared.Mapping.{Mapping}
use Rattle.mapping.specs.Blocks.{is_free, block_of, block_at, with_block, len_of}
use Rattle.mapping.specs.Fits.{fits}
use Rattle.tickets.specs.Tickets.{sector_place}

-- an image with its mapping
pub record State : Type 0 where
  pub image : List ℕ
  pub mapping : Mapping

abbrev pub state : List ℕ → Mapping → State
state image m = record { image = image; mapping = m }

-- "the sectors visited run from place / 0x200 (rounded down)"
abbrev pub first_sector : ℕ → ℕ
first_sector place = place / sector_len

-- "up to, not including, (place + length) / 0x200 rounded up"
abbrev pub end_sector : ℕ → ℕ → ℕ
end_sector place n = (place + n + (sector_len - 1)) / sector_len

-- how many these are
abbrev pub visit_count : ℕ → ℕ → ℕ
visit_count place n = end_sector place n - first_sector place

-- "raises count 0 to 1"
unfoldable pub first_count : ℕ → ℕ
first_count k = pick (eqb k 0) 1 k

-- "puts it in use": a free block's count is raised; "each visited block becomes changed"
unfoldable pub visited_block : Block → Block
visited_block b = block_of b.physical.0 (pick (is_free b.condition) (first_count b.count) b.count) Changed

-- "fills it with 0xFF": the first visit to a free block
unfoldable pub opened_image : Block → List ℕ → List ℕ
opened_image b image = pick (is_free b.condition) (splice image (b.physical.0 * block_len) (rep block_len erased)) image

-- the bytes of d, which are to stand from place on, that fall into sector s: where they start in the save, and where they end
unfoldable pub part_from : ℕ → ℕ → ℕ
part_from place s = max place (s * sector_len)

unfoldable pub part_end : ℕ → ℕ → ℕ → ℕ
part_end place n s = min (place + n) (s * sector_len + sector_len)

-- those bytes stored in the sector, of physical block n
unfoldable pub stored_part : ℕ → ℕ → List ℕ → ℕ → List ℕ → List ℕ
stored_part n place d s image =
    splice image (sector_place n (s % sectors) + (part_from place s - s * sector_len))
    (slice (part_from place s - place) (part_end place (length d) s - place) d)

-- one visit: sector s of the save
unfoldable pub visit : ℕ → List ℕ → ℕ → State → State
visit place d s st =
    record {
      image = stored_part (block_at st.mapping (s / sectors)).physical.0 place d s (opened_image (block_at st.mapping (s / sectors)) st.image);
      mapping = with_block st.mapping (s / sectors) (visited_block (block_at st.mapping (s / sectors)));
    }

-- the first k visits
unfoldable pub visits : ℕ → List ℕ → ℕ → State → State
visits place d zero st = st
visits place d (suc k) st = visit place d (first_sector place + k) (visits place d k st)

-- all of them
unfoldable pub written : ℕ → List ℕ → State → State
written place d st = visits place d (visit_count place (length d)) st

-- what an accepted write has shown
pub record CanWrite (image : List ℕ) (m : Mapping) (place k : ℕ) : Type 0 where
  pub fitting : fits (length image) m ≡ true
  pub inside : place + k ≤ len_of m
