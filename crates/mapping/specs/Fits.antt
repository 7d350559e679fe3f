-- When a mapping fits: 01, "Numbers handed back", number 8, with the words of step 3, which it shares. Said by membership
-- and not by flags. `fits_own` and `fits` are shut: what others need of them is in the module below. Assumes nothing.
use Rattle.std.specs.Prelude.{◌≡◌, Bool, false, not, ◌&&◌, ℕ, ◌<◌, ◌≤◌, eqb, leb, ltb}
use Rattle.lists.specs.Words.{all, any}
use Rattle.chip.specs.Figures.{Layout, layout_of, virtuals, reserved, from_len, by_chip}
use Rattle.mapping.specs.declared.Mapping.{Mapping}
use Rattle.mapping.specs.Blocks.{number_at, free_at}
pub mod Laws

-- a physical number "lies in 1..P−1"
abbrev pub inside : ℕ → ℕ → Bool
inside p n = leb 1 n && ltb n p

-- n is the physical number of one of the first v blocks
unfoldable pub appeared : Mapping → ℕ → ℕ → Bool
appeared m v n = any (λ u. eqb (number_at m u) n) v

-- block v's physical number "lies in 1..P−1 and has not appeared before"
unfoldable pub placed : ℕ → Mapping → ℕ → Bool
placed p m v = inside p (number_at m v) && not (appeared m v (number_at m v))

-- "its first V physical numbers [are] 1..P−1 each once"
abbrev pub each_once : Layout → Mapping → Bool
each_once l m = all (placed l.p m) (virtuals l)

-- "its reserved block [is] free"
abbrev pub reserved_free : Layout → Mapping → Bool
reserved_free l m = free_at m (reserved l)

-- fits an image of this layout
abbrev pub fits_as : Layout → Mapping → Bool
fits_as l m = each_once l m && reserved_free l m

-- fits an image of its own length, which is "one of the three"
pub fits_own : Mapping → Bool
fits_own m = by_chip (from_len m.len) (λ k. fits_as (layout_of k) m) false

-- fits an image of n bytes: "its length [is] the image's"
pub fits : ℕ → Mapping → Bool
fits n m = eqb m.len n && fits_own m

-- the same as a fact about each block: the numbers of the first n blocks lie in 1..n, and no two are the same
pub record Apart (m : Mapping) (n : ℕ) : Type 0 where
  pub low : (v : ℕ) → v < n → 1 ≤ number_at m v
  pub high : (v : ℕ) → v < n → number_at m v ≤ n
  pub apart : (u v : ℕ) → u < n → v < n → number_at m u ≡ number_at m v → u ≡ v
