-- After i turns sample k of i lines is there.
use Prim.Native.Nat.{◌+◌}
use Rattle.laws.proofs.Store.{Stored}
use Rattle.lines.specs.Line.{itself, line_at}
use Rattle.passes.proofs.rows.samples.Given as goal

abbrev pub invariant-loop-i : goal.invariant-loop-i
invariant-loop-i g l = Stored l.x l.initial.x l.i itself (λ i. line_at l.source.numbers.now (l.j + i) l.source.lines l.k)
