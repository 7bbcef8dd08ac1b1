-- After i turns i lines are written.
use Rattle.lines.proofs.Loop.{Written}
use Rattle.lines.proofs.transform.each_line.Given as goal

abbrev pub invariant-loop-i : goal.invariant-loop-i
invariant-loop-i g l =
    let t = g.T.Transform in
    Written (t.kind l.transform) (t.side l.transform) (t.shift l.transform) l.source.lines l.source.numbers.now l.start l.start l.i l.dst l.initial.dst
