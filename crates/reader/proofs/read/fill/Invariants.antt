-- `reader::read::fill` meets its contract. Assumes nothing.
use Rattle.reader.proofs.Filling.{Filling}
use Rattle.reader.proofs.read.fill.Given as goal

abbrev pub invariant-loop-k : goal.invariant-loop-k
invariant-loop-k l = Filling l.bytes l.initial.numbers l.initial.sides l.initial.levels l.numbers l.sides l.levels l.at l.k l.place
