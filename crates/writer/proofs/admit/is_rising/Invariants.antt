-- `writer::admit::is_rising` meets its contract. Assumes nothing.
use Rattle.std.proofs.Common.{◌≡◌, ◌+◌, ◌-◌, ◌≤◌, length, get_or}
use lib.Dec.{ltb}
use Rattle.laws.specs.Table.{every}
use Rattle.writer.proofs.admit.is_rising.Given as goal

abbrev pub invariant-loop-k : goal.invariant-loop-k
invariant-loop-k l = record {
  rising : l.ok ≡ every (l.k - 1) (λ k. ltb (get_or l.numbers k 0) (get_or l.numbers (k + 1) 0));
  few : l.k - 1 ≤ length l.numbers - 1;
}
