-- After d turns d squares are widened.
use Rattle.lines.proofs.Squares.{Widened}
use Rattle.lines.proofs.wide.widen_odd_squares.Given as goal

abbrev pub invariant-loop-d : goal.invariant-loop-d
invariant-loop-d l = Widened l.d l.wide l.initial.wide
