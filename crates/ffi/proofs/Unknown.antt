-- A struct with a byte that is no condition is refused with 8 by every call that takes a mapping: it comes in as the blank
-- mapping, which fits no image. Assumes nothing.
use mathlib.Core.Path.{◌≡◌}
use mathlib.Core.Bool.{false}
use Prim.Native.Nat.{ℕ}
use Rattle.answers.specs.declared.Answer.TheVariants.{DoesNotFit}
use Rattle.wear_leveling.specs.Read.{admission}
use Rattle.wear_leveling.specs.Commit.{commit_answer}
use Rattle.wear_leveling.proofs.Admission.{blank_admission, blank_commit}
use Rattle.crossing.specs.declared.CMapping.{CMapping}
use Rattle.crossing.specs.Crossing.{from_c, known}
use Rattle.crossing.proofs.OneToOne.{unknown_blank}

pub unknown_admission
    : (c : CMapping) (n place k : ℕ)
    → known c.blocks ≡ false → admission n (from_c c) place k ≡ DoesNotFit
unknown_admission c n place k u = rw (unknown_blank c u) (blank_admission n place k)

pub unknown_commit : (c : CMapping) (n : ℕ) → known c.blocks ≡ false → commit_answer n (from_c c) ≡ DoesNotFit
unknown_commit c n u = rw (unknown_blank c u) (blank_commit n)
