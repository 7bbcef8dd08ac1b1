-- `passes::two_samples` meets its contract. Assumes nothing.
use native.Mathlib.Omega.{arith}
use Rattle.passes.proofs.Abreast.{by_fours, by_eights}
use Rattle.passes.proofs.fold.two_samples.Goals as goal

pub two_by-requires : goal.two_by-requires
two_by-requires c = (by_fours (omega arith), c.requires.0, c.requires.1)

pub two_by-requires-else-source-eq4 : goal.two_by-requires-else-source-eq4
two_by-requires-else-source-eq4 c = (by_eights c.requires.0.sided (λ e. omega (arith, e)), c.requires.0, c.requires.1)
