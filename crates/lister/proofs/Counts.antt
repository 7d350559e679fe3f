-- Below the limit the count of bytes grows with every byte that comes, so that reading ends. Assumes nothing.
use mathlib.Core.Bool.{Bool, true, false}
use mathlib.Core.Path.{◌≡◌, refl}
use Prim.Native.Nat.{ℕ, ◌≤◌, ◌<◌, ◌+◌, ◌-◌}
use native.Mathlib.Omega.{arith}
use borrow.Author.Tests.{leb-true}
use lib.Dec.{leb}
use Rattle.lists.specs.Words.{pick}
use Rattle.listing.specs.Lines.{limit, counted_of}

by_test : (t m : ℕ) → t < limit → 1 ≤ m → (b : Bool) → leb (t + m) limit ≡ b → limit - pick b (t + m) limit < limit - t
by_test t m h k true e = omega (arith, leb-true (t + m) limit e)
by_test t m h k false e = omega arith

-- what is left to count gets less
pub counts_more : (t m : ℕ) → t < limit → 1 ≤ m → limit - counted_of t m < limit - t
counts_more t m h k = by_test t m h k (leb (t + m) limit) refl
