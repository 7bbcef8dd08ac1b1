-- `writer::write::put_eight` meets its contract. Assumes nothing.
use Rattle.writer.specs.Write.{level_at}
use Rattle.writer.proofs.Backwards.{Put}
use Rattle.writer.proofs.write.put_eight.Given as goal

abbrev pub invariant-loop-i : goal.invariant-loop-i
invariant-loop-i l = Put (level_at l.levels) 8 l.initial.out l.end l.i l.out l.to
