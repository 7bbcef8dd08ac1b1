-- After k turns 2k products are added for every line; within a turn, two more for i lines.
use Prim.Native.Nat.{◌+◌, ◌*◌}
use lib.IntN.{◌+ℤ◌}
use Rattle.laws.specs.Integer.{wrap32}
use Rattle.laws.proofs.Store.{Stored}
use Rattle.lines.specs.Line.{dot, itself, line_at}
use Rattle.passes.proofs.Abreast.{Added}
use Rattle.passes.proofs.rows.add_products.Given as goal

abbrev pub invariant-loop-k : goal.invariant-loop-k
invariant-loop-k g l =
    Added g.row.B (2 * l.k) l.half (line_at l.factors.numbers.now l.factors.at l.factors.stride) (λ i. line_at l.source.numbers.now (l.j + i) l.source.lines) l.sums

abbrev pub invariant-loop-i : goal.invariant-loop-i
invariant-loop-i g l =
    Stored l.sums l.initial.sums l.i itself
    (λ i. wrap32 (l.half +ℤ dot (2 * l.k + 1 + 1) (line_at l.factors.numbers.now l.factors.at l.factors.stride) (line_at l.source.numbers.now (l.j + i) l.source.lines)))
