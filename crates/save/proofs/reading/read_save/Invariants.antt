-- The buffer's bytes that come before block v are the save's, and the others as they were.
use Rattle.std.proofs.Common.{◌≡◌, take, drop}
use Rattle.lists.specs.Words.{splice}
use Rattle.save.specs.Save.{save_bytes}
use Rattle.save.proofs.ByBlocks.{read_before}
use Rattle.save.proofs.reading.read_save.Given as goal

abbrev pub invariant-loop-v : goal.invariant-loop-v
invariant-loop-v l =
    l.buf ≡ splice l.fn.buf 0 (take (read_before l.place l.n l.v) (drop l.place (save_bytes l.image l.m)))
