-- `writer::write::put_map` meets its contract. Assumes nothing.
use Rattle.std.proofs.Common.{◌+◌, ◌*◌}
use Rattle.laws.proofs.Store.{Stored}
use Rattle.format.specs.Pieces.{packed, stands}
use Rattle.writer.specs.Write.{level_at}
use Rattle.writer.proofs.write.put_map.Given as goal

abbrev pub invariant-loop-j : goal.invariant-loop-j
invariant-loop-j l = Stored l.out l.initial.out l.j (λ k. k) (λ j. packed (λ i. stands (level_at l.levels (j * 8 + i))))
