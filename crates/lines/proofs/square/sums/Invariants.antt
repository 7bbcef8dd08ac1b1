-- After r turns r frequencies are stored.
use Rattle.laws.proofs.Store.{Stored}
use Rattle.lines.specs.Line.{itself, line_at, rounded}
use Rattle.lines.proofs.square.sums.Given as goal

abbrev pub invariant-loop-r : goal.invariant-loop-r
invariant-loop-r l =
    Stored l.y l.initial.y l.r itself
    (rounded l.rounding.shift.bits l.square.side l.square.numbers.now l.square.at (line_at l.line.numbers.now l.line.at l.line.stride))
