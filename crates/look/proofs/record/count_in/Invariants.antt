-- `look::record::count_in` meets its contract. Assumes nothing.
use Rattle.std.proofs.Common.{◌≡◌, ◌*◌}
use Rattle.format.specs.Format.{count_in}
use Rattle.look.proofs.record.count_in.Given as goal

abbrev pub invariant-loop-j : goal.invariant-loop-j
invariant-loop-j l = l.count ≡ count_in l.s (8 * l.j)
