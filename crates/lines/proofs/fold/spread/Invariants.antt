-- After r turns r numbers are stored.
use Rattle.laws.proofs.Store.{Stored}
use Rattle.lines.specs.Line.{place, number}
use Rattle.lines.proofs.fold.spread.Given as goal

abbrev pub invariant-loop-r : goal.invariant-loop-r
invariant-loop-r l = Stored l.o l.initial.o l.r (place l.first l.apart) (number l.y)
