-- What every chip's layout keeps to, so that laws need not know the kinds: a few blocks at least, 256 at most, 128 on a
-- small chip. From that the map, its sum and the journal lie in block zero. Assumes nothing.
use Rattle.std.specs.Prelude.{Some, None}
use mathlib.Core.Path.{◌≡◌, refl}
use mathlib.Core.List.{List, [], ◌∷◌}
use mathlib.Core.Bool.{Bool, true, false}
use Prim.Native.Nat.{ℕ, ◌+◌, ◌*◌, ◌<◌, ◌≤◌}
use native.Mathlib.Omega.{arith}
use borrow.Author.Tests.{ne_eqb, eqb-true}
use lib.Dec.{eqb}
use Rattle.lists.specs.Words.{pick}
use Rattle.lists.proofs.Orders.{by_test, not_both}
use Rattle.chip.specs.declared.Chip.{Chip}
use Rattle.chip.specs.declared.Chip.TheVariants.{Kib128, Kib512, Mib1}
use Rattle.chip.specs.Figures.{Layout, journal_at, slot_len, layout_of, block_len, virtuals, small_item, map_len, image_len, header_len, chips, among, from_len}

pub record Sound (l : Layout) : Type 0 where
  pub some : 2 ≤ l.p
  pub few : l.p ≤ 256
  pub small : l.large ≡ false → l.p ≤ 128

pub sound : (k : Chip) → Sound (layout_of k)
sound Kib128 = record { some = omega arith; few = omega arith; small = λ e. omega arith }
sound Kib512 = record { some = omega arith; few = omega arith; small = λ e. omega arith }
sound Mib1 = record { some = omega arith; few = omega arith; small = λ e. absurd (not_both refl e) }

-- the map, its sum and a first journal slot lie in block zero
pub slot_fits : (l : Layout) → Sound l → journal_at l + slot_len ≤ block_len
slot_fits l s = go l.large
  where
    go : (b : Bool) → pick b 0x3FE (header_len + virtuals l * small_item) + 2 + slot_len ≤ block_len
    go true = omega arith
    go false = omega (arith, s.few)

pub map_fits : (l : Layout) → Sound l → map_len l + 2 ≤ block_len
map_fits l s = omega (arith, slot_fits l s)

-- a chip's own length leads back to it
pub from_own : (k : Chip) → from_len (image_len (layout_of k)) ≡ Some k
unfolding from_len
from_own Kib128 = refl
from_own Kib512 = refl
from_own Mib1 = refl

among_is : (n : ℕ) (k : Chip) (ks : List Chip) → among n ks ≡ Some k → n ≡ image_len (layout_of k)
among_is n k [] q = let z : ◌≡◌ {A = ℕ} 0 1 = cc in absurd (omega arith)
among_is n k (x ∷ xs) q =
    by_test (eqb n (image_len (layout_of x)))
    (λ t.
    let d : Some x ≡ Some k = rw t at q in
    let c : x ≡ k = cc in
    rw (← c) (eqb-true n (image_len (layout_of x)) t))
    (λ t. among_is n k xs (rw t at q))

-- a length that leads to a chip is that chip's
pub from_is : (n : ℕ) (k : Chip) → from_len n ≡ Some k → n ≡ image_len (layout_of k)
unfolding from_len
from_is n k e = among_is n k chips e

-- a length that is no chip's leads to none
pub from_none : (n : ℕ) → ((k : Chip) → n ≡ image_len (layout_of k) → ⊥) → from_len n ≡ None
unfolding from_len
from_none n h =
    rw (
      ne_eqb n (image_len (layout_of Kib128)) (h Kib128),
      ne_eqb n (image_len (layout_of Kib512)) (h Kib512),
      ne_eqb n (image_len (layout_of Mib1)) (h Mib1),
    )

-- as one that is less than a block
pub from_short : (n : ℕ) → n < block_len → from_len n ≡ None
from_short n h = from_none n (λ k e. omega (arith, (sound k).some))
