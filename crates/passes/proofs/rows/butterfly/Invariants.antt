-- After b turns row k is there for b times B lines; within a turn, for i lines more.
use Prim.Native.Nat.{ℕ, ◌+◌, ◌*◌}
use Rattle.laws.proofs.Store.{Stored}
use Rattle.lines.specs.Line.{line_at, sum_of, diff_of}
use Rattle.passes.specs.Fold.{row}
use Rattle.passes.proofs.rows.butterfly.Given as goal

abbrev pub invariant-loop-b : goal.invariant-loop-b
invariant-loop-b g l =
    let n = l.source.lines in
    let z = λ (j : ℕ). line_at l.source.numbers.now j n in
    Stored l.sums l.fn.sums (g.row.B * l.b) (row n l.k) (λ j. sum_of (z j) l.h l.k) × Stored l.diffs l.fn.diffs (g.row.B * l.b) (row n l.k) (λ j. diff_of (z j) l.h l.k)

abbrev pub invariant-loop-i : goal.invariant-loop-i
invariant-loop-i g l = Stored l.sums l.fn.sums (l.j + l.i) (row l.source.lines l.k) (λ j. sum_of (line_at l.source.numbers.now j l.source.lines) l.h l.k)

abbrev pub invariant-loop-i-2 : goal.invariant-loop-i-2
invariant-loop-i-2 g l = Stored l.diffs l.fn.diffs (l.j + l.i) (row l.source.lines l.k) (λ j. diff_of (line_at l.source.numbers.now j l.source.lines) l.h l.k)
