-- What a mapping that fits an image of n bytes has: n is a chip's length and the mapping's, and by that chip's layout its
-- numbers are apart, its reserved block is free, it lies in the image, and its save is that of the chip. And back: these facts
-- make it fit. Assumes nothing.
use Rattle.std.specs.Prelude.{Some}
use mathlib.Core.Path.{◌≡◌, sym, ap, ◌∙◌}
use mathlib.Core.Bool.{true}
use mathlib.Core.List.{List}
use Prim.Native.Nat.{ℕ, ◌≤◌}
use native.Mathlib.Omega.{arith}
use borrow.Author.Tests.{eq-eqb}
use lib.Dec.{eqb}
use lib.ListN.{length}
use Rattle.lists.proofs.Tests.{and_both}
use Rattle.chip.specs.declared.Chip.{Chip}
use Rattle.chip.specs.Figures.{layout_of, virtuals, block_len, image_len, save_len, from_len}
use Rattle.chip.proofs.Layouts.{sound, from_is, from_own}
use Rattle.mapping.specs.declared.Mapping.{Mapping}
use Rattle.mapping.specs.Blocks.{is_free, len_of}
use Rattle.mapping.specs.Fits.{each_once, reserved_free, fits_own, fits, Apart}
use Rattle.mapping.specs.Fits.Laws.{own_known, fits_is}
use Rattle.mapping.specs.Fitted.{Fitted}
use Rattle.mapping.proofs.Onto.{apart_once}
use Rattle.mapping.proofs.Fitted.{fits_fitted}
use Rattle.tickets.specs.Tickets.{Lies}

-- an image of a chip's length has a block zero
pub known_long : (n : ℕ) (k : Chip) → from_len n ≡ Some k → block_len ≤ n
known_long n k e = omega (arith, from_is n k e, (sound k).some)

module _ (n : ℕ) (m : Mapping) (f : fits n m ≡ true) where
  fitted : Fitted n m
  fitted = fits_fitted n m f

  pub fits_len : m.len ≡ n
  fits_len = fitted.own

  module _ (k : Chip) (e : from_len n ≡ Some k) where
    -- there is one chip of n bytes
    same : fitted.chip ≡ k
    same = let d : Some fitted.chip ≡ Some k = sym (ap from_len fitted.image ∙ from_own fitted.chip) ∙ e in cc

    -- "its first V physical numbers [are] 1..P−1 each once"
    pub fits_apart : Apart m (virtuals (layout_of k))
    fits_apart =
        rw (← same)
        (record { low = fitted.low; high = λ v h. omega (arith, fitted.high v h); apart = fitted.apart })

    -- "its reserved block [is] free"
    pub fits_reserved : reserved_free (layout_of k) m ≡ true
    fits_reserved = rw (← same) (ap is_free fitted.free)

    -- its save is the chip's
    pub fits_save : len_of m ≡ save_len (layout_of k)
    unfolding len_of
    fits_save = let d : from_len m.len ≡ Some k = ap from_len fits_len ∙ e in rw d

-- the other way
pub fits_by
    : (n : ℕ) (m : Mapping) (k : Chip)
    → from_len n ≡ Some k → m.len ≡ n → Apart m (virtuals (layout_of k)) → reserved_free (layout_of k) m ≡ true → fits n m ≡ true
fits_by n m k known e a r =
    fits_is m n
    ∙ and_both (eqb m.len n) (fits_own m) (eq-eqb m.len n e)
    (own_known m k (ap from_len e ∙ known)
    ∙ and_both (each_once (layout_of k) m) (reserved_free (layout_of k) m)
    (apart_once m (layout_of k) (omega (arith, (sound k).some)) a) r)

-- each of its blocks lies in the image, as those of any mapping with such numbers
pub apart_lies
    : (image : List ℕ) (m : Mapping) (k : Chip)
    → Apart m (virtuals (layout_of k)) → from_len (length image) ≡ Some k → Lies (layout_of k) m image
apart_lies image m k a e =
    record {
      within = λ v h. omega (arith, a.high v h, (sound k).some, from_is (length image) k e);
    }

pub fits_lies
    : (image : List ℕ) (m : Mapping)
    → fits (length image) m ≡ true
    → (k : Chip)
    → from_len (length image) ≡ Some k
    → Lies (layout_of k) m image
fits_lies image m f k e = apart_lies image m k (fits_apart (length image) m f k e) e

-- all of it at once: the mapping m fits an image of n bytes
pub record Fitting (n : ℕ) (m : Mapping) : Type 0 where
  pub chip : Chip
  pub known : from_len n ≡ Some chip
  pub image : n ≡ image_len (layout_of chip)
  pub save : len_of m ≡ save_len (layout_of chip)
  pub numbers : Apart m (virtuals (layout_of chip))

pub fitting : (n : ℕ) (m : Mapping) → fits n m ≡ true → Fitting n m
fitting n m f =
    let r = fits_fitted n m f in
    let known : from_len n ≡ Some r.chip = ap from_len r.image ∙ from_own r.chip in
    record {
      chip = r.chip;
      known = known;
      image = r.image;
      save = fits_save n m f r.chip known;
      numbers = fits_apart n m f r.chip known;
    }
