-- After j turns j lines are there; within a turn, f numbers of the next.
use Rattle.laws.proofs.Store.{Stored, Lined}
use Rattle.lines.specs.Line.{line_at}
use Rattle.lines.specs.Room.{on_line}
use Rattle.passes.proofs.rows.to_lines.Given as goal

abbrev pub invariant-loop-j : goal.invariant-loop-j
invariant-loop-j l = Lined l.dst l.initial.dst l.j l.n (on_line l.n) (λ j f. line_at l.rows j l.lines f)

abbrev pub invariant-loop-f : goal.invariant-loop-f
invariant-loop-f l = Stored l.dst l.initial.dst l.f (on_line l.n l.j) (line_at l.rows l.j l.lines)
