-- After k turns the sum is the half and k products.
use Rattle.lines.specs.Line.{line_at}
use Rattle.lines.proofs.Sum.{Summed}
use Rattle.lines.proofs.square.add_products.Given as goal

abbrev pub invariant-loop-k : goal.invariant-loop-k
invariant-loop-k l = Summed l.sum l.half l.k (line_at l.row.numbers.now l.row.at l.row.stride) (line_at l.line.numbers.now l.line.at l.line.stride)
