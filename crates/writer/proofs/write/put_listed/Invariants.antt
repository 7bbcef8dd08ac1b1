-- `writer::write::put_listed` meets its contract. Assumes nothing.
use Rattle.std.proofs.Common.{◌*◌, length}
use Rattle.writer.specs.Write.{level_at}
use Rattle.writer.proofs.Backwards.{Put}
use Rattle.writer.proofs.write.put_listed.Given as goal

abbrev pub invariant-loop-j : goal.invariant-loop-j
invariant-loop-j l = Put (level_at l.levels) (length l.levels) l.initial.out l.end (8 * l.j) l.out l.to
