-- After k turns k sums and k differences are stored.
use lib.ListN.{length}
use Rattle.laws.proofs.Store.{Stored}
use Rattle.lines.specs.Line.{itself, line_at, sum_of, diff_of}
use Rattle.lines.proofs.fold.fold.Given as goal

abbrev pub invariant-loop-k : goal.invariant-loop-k
invariant-loop-k l =
    Stored l.s l.initial.s l.k itself (sum_of (line_at l.line.numbers.now l.line.at l.line.stride) (length l.fn.s))
    × Stored l.d l.initial.d l.k itself (diff_of (line_at l.line.numbers.now l.line.at l.line.stride) (length l.fn.s))
