-- `look::levels::sum_levels` meets its contract. Assumes nothing.
use Rattle.look.proofs.Summed.{Summed}
use Rattle.look.proofs.levels.sum_levels.Given as goal

abbrev pub invariant-loop-i : goal.invariant-loop-i
invariant-loop-i l = Summed l.s l.lower l.upper l.reach l.i
