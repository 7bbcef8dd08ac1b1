-- `reader::read::lay_eight` meets its contract. Assumes nothing.
use Rattle.std.proofs.Common.{◌≡◌, ◌+◌, ◌*◌}
use Rattle.laws.proofs.Store.{Stored}
use Rattle.format.specs.Format.{count_in, list_in, level_in}
use Rattle.reader.proofs.read.lay_eight.Given as goal

abbrev pub invariant-loop-i : goal.invariant-loop-i
invariant-loop-i l = record {
  laid : Stored l.levels l.initial.levels l.i (λ k. k) (λ i. level_in l.s (l.q + i));
  next : l.from ≡ list_in l.s + 4 * count_in l.s (l.q + l.i);
}
