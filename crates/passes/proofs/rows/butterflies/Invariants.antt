-- After k turns k rows are there.
use Rattle.laws.proofs.Store.{Lined}
use Rattle.lines.specs.Line.{line_at, sum_of, diff_of}
use Rattle.passes.specs.Fold.{row}
use Rattle.passes.proofs.rows.butterflies.Given as goal

abbrev pub invariant-loop-k : goal.invariant-loop-k
invariant-loop-k g l =
    Lined l.sums l.initial.sums l.k l.source.lines (row l.source.lines) (λ k j. sum_of (line_at l.source.numbers.now j l.source.lines) l.h k)
    × Lined l.diffs l.initial.diffs l.k l.source.lines (row l.source.lines) (λ k j. diff_of (line_at l.source.numbers.now j l.source.lines) l.h k)
