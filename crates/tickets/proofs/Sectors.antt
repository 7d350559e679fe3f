-- The sector that the loops have come to, 8 × block + sector, is the one whose test the definition makes; and on a small chip
-- the definition's search is the loops'. Assumes nothing.
use mathlib.Core.Path.{◌≡◌}
use mathlib.Core.Bool.{false}
use Prim.Native.Nat.{ℕ, ◌+◌, ◌*◌, ◌/◌, ◌%◌, ◌<◌}
use native.Mathlib.Omega.{arith}
use lib.ListN.{get_or}
use Rattle.chip.specs.Figures.{Layout, virtuals, sectors}
use Rattle.mapping.specs.declared.Mapping.{Mapping}
use Rattle.mapping.specs.Blocks.{block_at}
use Rattle.answers.specs.Search.{first_of}
use Rattle.tickets.specs.Tickets.{sector_fails, fails_at, bad_ticket}

pub fails_is
    : (t : ℕ → ℕ → ℕ) (m : Mapping) (b j : ℕ)
    → j < sectors → sector_fails t (block_at m b) j (get_or m.tickets (b * sectors + j) 0) ≡ fails_at t m (b * sectors + j)
unfolding fails_at
fails_is t m b j h =
    let d : (b * sectors + j) / sectors ≡ b = omega arith in
    let r : (b * sectors + j) % sectors ≡ j = omega arith in
    rw (d, r)

-- the search on a small chip
pub bad_small
    : (l : Layout) (t : ℕ → ℕ → ℕ) (m : Mapping) (v : ℕ)
    → l.large ≡ false → v ≡ virtuals l → first_of (fails_at t m) (v * sectors) ≡ bad_ticket l t m
unfolding bad_ticket
bad_small l t m v e h = rw (e, h)
