-- After b turns the frequency of b times B lines is stored; within a turn, that of i lines more.
use Prim.Native.Nat.{◌+◌, ◌*◌}
use Rattle.laws.proofs.Store.{Stored}
use Rattle.fixed.specs.Fixed.{round_shift}
use Rattle.lines.specs.Line.{dot, from, line_at}
use Rattle.passes.proofs.rows.frequency.Given as goal

abbrev pub invariant-loop-b : goal.invariant-loop-b
invariant-loop-b g l =
    Stored l.o l.fn.o (g.row.B * l.b) (from l.to)
    (λ j. round_shift l.rounding.shift.bits (dot l.factors.count (line_at l.factors.numbers.now l.factors.at l.factors.stride) (line_at l.source.numbers.now j l.source.lines)))

abbrev pub invariant-loop-i : goal.invariant-loop-i
invariant-loop-i g l =
    Stored l.o l.fn.o (g.row.B * l.b + l.i) (from l.to)
    (λ j. round_shift l.rounding.shift.bits (dot l.factors.count (line_at l.factors.numbers.now l.factors.at l.factors.stride) (line_at l.source.numbers.now j l.source.lines)))
