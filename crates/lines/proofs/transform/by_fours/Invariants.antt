-- Lines are written four at a time, staged in o, and then one at a time.
use mathlib.Core.Path.{◌≡◌}
use Prim.Native.Nat.{◌*◌}
use lib.ListN.{length}
use Rattle.lines.proofs.Loop.{Written}
use Rattle.lines.proofs.transform.by_fours.Given as goal

-- q lines are staged
abbrev pub invariant-loop-q : goal.invariant-loop-q
invariant-loop-q g l = Written (g.T.Transform.kind l.transform) g.row.N (g.T.Transform.shift l.transform) l.source.lines l.source.numbers.now l.j 0 l.q l.o l.initial.o

-- four lines are written at each turn
abbrev pub invariant-loop-four : goal.invariant-loop-four
invariant-loop-four g l =
    Written (g.T.Transform.kind l.transform) g.row.N (g.T.Transform.shift l.transform) l.source.lines l.source.numbers.now l.start l.start (4 * l.four) l.dst l.initial.dst
    × (length l.o ≡ g.row.L)

-- i lines are written
abbrev pub invariant-loop-i : goal.invariant-loop-i
invariant-loop-i g l =
    Written (g.T.Transform.kind l.transform) g.row.N (g.T.Transform.shift l.transform) l.source.lines l.source.numbers.now l.start l.start l.i l.dst l.fn.dst
