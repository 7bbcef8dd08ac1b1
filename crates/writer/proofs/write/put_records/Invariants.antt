-- `writer::write::put_records` meets its contract. Assumes nothing.
use Rattle.std.proofs.Common.{◌≡◌, length}
use Rattle.laws.specs.Store.{over}
use Rattle.format.specs.Format.{bytes_of}
use Rattle.writer.specs.Write.{place_at, blocks_in}
use Rattle.writer.proofs.write.put_records.Given as goal

abbrev pub invariant-loop-k : goal.invariant-loop-k
invariant-loop-k l = record {
  out : l.out ≡ over (bytes_of (blocks_in l.k l.numbers l.sides l.levels)) l.initial.out;
  at : l.at ≡ length (bytes_of (blocks_in l.k l.numbers l.sides l.levels));
  place : l.place ≡ place_at l.sides l.k;
}
