-- Laws of the sum, each by walking the list once: the turn and the end of a loop over it, a list in two parts, and the
-- bound that a sum of bytes keeps, which each step keeps. Assumes nothing.
use mathlib.Core.Path.{◌≡◌, refl}
use mathlib.Core.Bool.{Bool, true, false}
use mathlib.Core.List.{List, [], ◌∷◌, ◌++◌}
use Prim.Native.Nat.{ℕ, zero, suc, ◌+◌, ◌/◌, ◌%◌, ◌^◌, ◌≤◌, ◌<◌}
use native.Mathlib.Numerals.{add-one}
use native.Mathlib.Omega.{arith}
use lib.Bits.{bit_xor, xor_lt}
use lib.Dec.{eqb}
use lib.ListN.{length, drop, get_or, drop_of_length-le}
use lib.Seq.{drop-cons}
use Rattle.lists.specs.Words.{pick}
use Rattle.crc16.specs.Crc.{bit_step, times, byte_step, crc_from}

-- a turn of the loop: the byte at i, then what is left
pub from_at
    : (s : ℕ) (xs : List ℕ) (i : ℕ)
    → i < length xs → crc_from s (drop i xs) ≡ crc_from (byte_step s (get_or xs i 0)) (drop (i + 1) xs)
unfolding crc_from
from_at s xs i h = rw (add-one, drop-cons xs i 0)

-- nothing is left
pub from_end : (s : ℕ) (xs : List ℕ) (i : ℕ) → length xs ≤ i → crc_from s (drop i xs) ≡ s
unfolding crc_from
from_end s xs i h = rw (drop_of_length-le xs h)

-- the sum of two joined parts is the second part's, begun at the first's
pub from_append : (s : ℕ) (xs ys : List ℕ) → crc_from s (xs ++ ys) ≡ crc_from (crc_from s xs) ys
unfolding crc_from
from_append s [] ys = refl
from_append s (x ∷ xs) ys = from_append (byte_step s x) xs ys

step_below : (s : ℕ) → s < 2 ^ 16 → bit_step s < 2 ^ 16
unfolding bit_step
step_below s h = go (eqb (s % 2) 1)
  where
    half : s / 2 < 2 ^ 16
    half = omega arith

    go : (t : Bool) → pick t (bit_xor (s / 2) 0xA001) (s / 2) < 2 ^ 16
    go true = xor_lt 16 (s / 2) 0xA001 half (omega arith)
    go false = half

times_below : (n s : ℕ) → s < 2 ^ 16 → times n bit_step s < 2 ^ 16
times_below zero s h = h
times_below (suc n) s h = times_below n (bit_step s) (step_below s h)

-- a sum that goes on over bytes stays a 16-bit number
pub from_below
    : (s : ℕ) (xs : List ℕ)
    → s < 2 ^ 16 → ((i : ℕ) → i < length xs → get_or xs i 0 < 2 ^ 8) → crc_from s xs < 2 ^ 16
unfolding crc_from byte_step
from_below s [] h bytes = h
from_below s (x ∷ xs) h bytes =
    let b : x < 2 ^ 8 = bytes 0 (omega arith) in
    from_below (byte_step s x) xs (times_below 8 (bit_xor s x) (xor_lt 16 s x h (omega arith)))
    (λ i l. bytes (suc i) (omega arith))
