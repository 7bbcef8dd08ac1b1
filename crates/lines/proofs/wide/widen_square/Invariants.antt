-- After r turns r rows are stored.
use Rattle.laws.proofs.Store.{Lined}
use Rattle.lines.proofs.Squares.{row_places, row_numbers}
use Rattle.lines.proofs.wide.widen_square.Given as goal

abbrev pub invariant-loop-r : goal.invariant-loop-r
invariant-loop-r l = Lined l.wide l.initial.wide l.r l.n (row_places l.to l.n) (row_numbers l.numbers l.first l.apart)
