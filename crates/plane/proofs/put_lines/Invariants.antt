-- After i turns the first i lines are put.
use Rattle.laws.proofs.Store.{Lined}
use Rattle.plane.specs.Places.{plane_place, line_number}
use Rattle.plane.proofs.put_lines.Given as goal

abbrev pub invariant-loop-i : goal.invariant-loop-i
invariant-loop-i l = Lined l.output l.initial.output l.i l.w (plane_place l.width l.x l.y) (line_number l.from l.w)
