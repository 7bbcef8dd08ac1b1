-- After k turns k numbers are stored.
use Rattle.laws.proofs.Store.{Stored}
use Rattle.lines.specs.Line.{from}
use Rattle.lines.specs.Table.{from_place}
use Rattle.lines.proofs.wide.widen.Given as goal

abbrev pub invariant-loop-k : goal.invariant-loop-k
invariant-loop-k l = Stored l.wide l.initial.wide l.k (from l.to) (from_place l.numbers l.at)
