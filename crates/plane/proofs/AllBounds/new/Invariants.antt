-- After i turns the bounds of the first i tiles are stored.
use Rattle.plane.proofs.Clear.{Bounded}
use Rattle.plane.proofs.AllBounds.new.Given as goal

abbrev pub invariant-loop-i : goal.invariant-loop-i
invariant-loop-i l = Bounded l.p l.i l.all
