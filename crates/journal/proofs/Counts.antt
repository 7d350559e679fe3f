-- "w's count is c − 1", said the other way round: one more than w's count is c. Assumes nothing.
use mathlib.Core.Path.{◌≡◌}
use mathlib.Core.Bool.{◌&&◌}
use Prim.Native.Nat.{ℕ, ◌+◌, ◌-◌, ◌≤◌}
use native.Mathlib.Omega.{arith}
use borrow.Author.Tests.{leb-true, eq-eqb, eqb-true}
use lib.Dec.{eqb, leb}
use Rattle.lists.proofs.Orders.{by_test, bool_ext}
use Rattle.journal.specs.Entries.{count_before}

pub before_one_less : (k c : ℕ) → (leb 1 c && eqb (k + 1) c) ≡ count_before k c
before_one_less k c = by_test (leb 1 c) (λ t. rw (t, same (leb-true 1 c t))) (λ t. rw t)
  where
    same : 1 ≤ c → eqb (k + 1) c ≡ eqb k (c - 1)
    same h =
        bool_ext (eqb (k + 1) c) (eqb k (c - 1))
        (λ p. let q = eqb-true (k + 1) c p in eq-eqb k (c - 1) (omega arith))
        (λ p. let q = eqb-true k (c - 1) p in eq-eqb (k + 1) c (omega arith))
