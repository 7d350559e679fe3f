-- What the code of a write stores in one block at once: the parts of d that fall into sectors s up to, not including, stop,
-- which are neighbours in the block as they are in the save. proofs/Parts shows that this is what the visits of these sectors
-- store. Assumes nothing.
use Rattle.std.specs.Prelude.{List, ℕ, ◌+◌, ◌-◌, ◌*◌, ◌/◌, ◌%◌, ◌<◌, ◌≤◌, min, length}
use Rattle.std.proofs.Math.Seq.{slice}
use Rattle.lists.specs.Words.{splice}
use Rattle.chip.specs.Figures.{block_len, sector_len, sectors}
use Rattle.tickets.specs.Tickets.{sector_place}
use Rattle.save.specs.Visits.{first_sector, end_sector, part_from}

-- where they end in the save
unfoldable pub parts_end : ℕ → ℕ → ℕ → ℕ
parts_end place n stop = min (place + n) (stop * sector_len)

-- they are stored, in physical block n
unfoldable pub stored_parts : ℕ → ℕ → List ℕ → ℕ → ℕ → List ℕ → List ℕ
stored_parts n place d s stop image =
    splice image (sector_place n (s % sectors) + (part_from place s - s * sector_len))
    (slice (part_from place s - place) (parts_end place (length d) stop - place) d)

-- what that asks for: the block lies in the image, all of these sectors are visited by a write of k bytes from place on and
-- are of one block, and the save is at least a sector shorter than the image
pub record CanStore (image : List ℕ) (n place k s stop : ℕ) : Type 0 where
  pub within : n * block_len + block_len ≤ length image
  pub from : first_sector place ≤ s
  pub some : s < stop
  pub to : stop ≤ end_sector place k
  pub one : stop ≤ (s / sectors + 1) * sectors
  pub short : place + k + sector_len ≤ length image
