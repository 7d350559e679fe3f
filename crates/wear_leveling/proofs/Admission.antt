-- The three ways that the tests for 8 and 9 can go, what is shown where both were passed, and that the blank mapping passes
-- none. Assumes nothing.
use mathlib.Core.Path.{◌≡◌}
use mathlib.Core.Bool.{true, false}
use mathlib.Core.List.{List}
use Prim.Native.Nat.{ℕ}
use native.Mathlib.Omega.{arith}
use lib.ListN.{length}
use Rattle.chip.proofs.Layouts.{sound}
use Rattle.answers.specs.declared.Answer.TheVariants.{Accepted, DoesNotFit, OutOfRange}
use Rattle.mapping.specs.declared.Mapping.{Mapping}
use Rattle.mapping.specs.Limits.{in_save}
use Rattle.mapping.specs.Blocks.{len_of, blank}
use Rattle.mapping.specs.Fits.{fits}
use Rattle.mapping.specs.Fits.Laws.{blank_unfit}
use Rattle.mapping.proofs.Fitted.{range_in}
use Rattle.tickets.proofs.Fitting.{Fitting, fitting, fits_lies}
use Rattle.save.specs.Readable.{Readable}
use Rattle.save.specs.Visits.{CanWrite}
use Rattle.wear_leveling.specs.Read.{admission}
use Rattle.wear_leveling.specs.Commit.{commit_answer}

module _ (n : ℕ) (m : Mapping) (place k : ℕ) where
  pub not_fitting : fits n m ≡ false → admission n m place k ≡ DoesNotFit
  unfolding admission
  not_fitting f = rw f

  module _ (f : fits n m ≡ true) where
    pub out_of_range : in_save (len_of m) place k ≡ false → admission n m place k ≡ OutOfRange
    unfolding admission
    out_of_range r = rw (f, r)

    pub admitted : in_save (len_of m) place k ≡ true → admission n m place k ≡ Accepted
    unfolding admission
    admitted r = rw (f, r)

-- a mapping that fits, and a range in its save: it can be written to, and read from
module _
    (image : List ℕ) (m : Mapping) (place k : ℕ)
    (f : fits (length image) m ≡ true) (r : in_save (len_of m) place k ≡ true)
  where
    pub can_write : CanWrite image m place k
    can_write = record { fitting = f; inside = range_in (len_of m) place k r }

    pub readable : Readable image m place k
    readable =
        let c : Fitting (length image) m = fitting (length image) m f in
        record {
          lies_in_save = range_in (len_of m) place k r;
          few = omega (arith, (sound c.chip).few, c.save);
          lies = λ v h. (fits_lies image m f c.chip c.known).within v (omega (arith, c.save, h));
        }

-- the blank mapping: "read, write and commit refuse it with 8"
pub blank_admission : (n place k : ℕ) → admission n blank place k ≡ DoesNotFit
blank_admission n place k = not_fitting n blank place k (blank_unfit n)

pub blank_commit : (n : ℕ) → commit_answer n blank ≡ DoesNotFit
unfolding commit_answer
blank_commit n = rw (blank_unfit n)
