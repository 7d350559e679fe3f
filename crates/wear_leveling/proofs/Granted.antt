-- Where the result of an act's tests is no refusal, each of them was passed: a test that had failed would have given its
-- number. Assumes nothing.
use Rattle.std.specs.Prelude.{Ok}
use mathlib.Core.Path.{◌≡◌}
use mathlib.Core.Bool.{true}
use mathlib.Core.List.{List}
use Prim.Native.Nat.{ℕ}
use lib.ListN.{length}
use Rattle.lists.proofs.Orders.{by_test}
use Rattle.mapping.specs.declared.Mapping.{Mapping}
use Rattle.mapping.specs.Limits.{in_save}
use Rattle.mapping.specs.Blocks.{len_of}
use Rattle.mapping.specs.Fits.{fits}
use Rattle.save.specs.Readable.{Readable}
use Rattle.save.specs.Visits.{CanWrite}
use Rattle.wear_leveling.specs.Read.{admission, admitted}
use Rattle.wear_leveling.specs.Commit.{commit_answer}
use Rattle.wear_leveling.proofs.Admission.{not_fitting, out_of_range, can_write, readable}

-- read and write
module _
    (image : List ℕ) (m : Mapping) (place k : ℕ)
    (e : Ok tt ≡ admitted (admission (length image) m place k))
  where
    fits_then : fits (length image) m ≡ true
    fits_then = by_test (fits (length image) m) (λ t. t) (λ t. let d = rw (not_fitting (length image) m place k t) at e in cc)

    in_then : in_save (len_of m) place k ≡ true
    in_then =
        by_test (in_save (len_of m) place k) (λ t. t) (λ t. let d = rw (out_of_range (length image) m place k fits_then t) at e in cc)

    pub granted_read : Readable image m place k
    granted_read = readable image m place k fits_then in_then

    pub granted_write : CanWrite image m place k
    granted_write = can_write image m place k fits_then in_then

-- commit
pub granted_commit : (n : ℕ) (m : Mapping) → Ok tt ≡ admitted (commit_answer n m) → fits n m ≡ true
unfolding commit_answer
granted_commit n m e = by_test (fits n m) (λ t. t) (λ t. let d = rw t at e in cc)
