-- `totals::add_up` meets its contract. Assumes nothing.
use Prim.Native.Nat.{◌-◌}
use lib.ListN.{length}
use Rattle.totals.proofs.Added.{Added}
use Rattle.totals.proofs.add_up.Given as goal

abbrev pub invariant-loop-at : goal.invariant-loop-at
invariant-loop-at l = Added l.bytes l.at l.low l.totals.blocks l.totals.levels l.totals.magnitude

abbrev pub decreases-loop-at : goal.decreases-loop-at
decreases-loop-at l = length l.bytes - l.at
