-- A search that goes up and stops at the first hit. Assumes nothing.
use Rattle.std.specs.Prelude.{Bool, ℕ, zero, suc, ◌+◌, Option, Some, None}
use Rattle.lists.specs.Words.{pick}

-- the first of v, v + 1, .. , v + n - 1 of which f holds
unfoldable pub first_from : (ℕ → Bool) → ℕ → ℕ → Option ℕ
first_from f v zero = None
first_from f v (suc n) = pick (f v) (Some v) (first_from f (v + 1) n)

-- the first of 0, .., n - 1 of which f holds
abbrev pub first_of : (ℕ → Bool) → ℕ → Option ℕ
first_of f n = first_from f 0 n
