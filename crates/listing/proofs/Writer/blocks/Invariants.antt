-- After v turns the writer grew by the lines of the first v blocks.
use Rattle.std.proofs.Common.{◌+◌, ◌*◌, ◌≤◌}
use Rattle.listing.specs.Lines.{block_lines, line_room, Grew}
use Rattle.listing.proofs.Writer.blocks.Given as goal

abbrev pub invariant-loop-v : goal.invariant-loop-v
invariant-loop-v l = (l.self.at ≤ l.initial.self.at + l.v * line_room) × Grew l.initial.self (block_lines l.m l.v) l.self
