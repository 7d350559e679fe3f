-- When a mapping fits an image of n bytes (01, "Numbers handed back", number 8), a second time and as facts, in words that
-- no code shares. proofs/Fitted shows that the test of Fits holds exactly when these do. Assumes nothing.
use Rattle.std.specs.Prelude.{◌≡◌, ℕ, ◌<◌, ◌≤◌}
use Rattle.chip.specs.declared.Chip.{Chip}
use Rattle.chip.specs.Figures.{layout_of, virtuals, reserved, image_len}
use Rattle.mapping.specs.declared.Condition.TheVariants.{Free}
use Rattle.mapping.specs.declared.Mapping.{Mapping}
use Rattle.mapping.specs.Blocks.{block_at, number_at}

pub record Fitted (n : ℕ) (m : Mapping) : Type 0 where
  -- "its length [is] the image's" and "one of the three"
  pub own : m.len ≡ n
  pub chip : Chip
  pub image : n ≡ image_len (layout_of chip)
  -- "its first V physical numbers [are] 1..P−1 each once": each lies there, no two are the same, and each of 1..P−1 is one
  pub low : (v : ℕ) → v < virtuals (layout_of chip) → 1 ≤ number_at m v
  pub high : (v : ℕ) → v < virtuals (layout_of chip) → number_at m v < (layout_of chip).p
  pub apart
      : (u v : ℕ) → u < virtuals (layout_of chip) → v < virtuals (layout_of chip) → number_at m u ≡ number_at m v → u ≡ v
  pub each : (p : ℕ) → 1 ≤ p → p < (layout_of chip).p → (v : ℕ) × (v < virtuals (layout_of chip)) × (number_at m v ≡ p)
  -- "its reserved block [is] free"
  pub free : (block_at m (reserved (layout_of chip))).condition ≡ Free
