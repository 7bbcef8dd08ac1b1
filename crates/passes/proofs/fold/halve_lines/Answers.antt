-- `passes::halve_lines` meets its contract. Assumes nothing.
use native.Mathlib.Omega.{arith}
use Rattle.passes.proofs.Abreast.{by_fours, by_eights}
use Rattle.passes.proofs.fold.halve_lines.Goals as goal

pub halve_by-requires-clause-rows : goal.halve_by-requires-clause-rows
halve_by-requires-clause-rows c = (by_fours (omega arith), c.requires.rows.0, c.requires.rows.1)

pub halve_by-requires-else-source-eq4-clause-rows : goal.halve_by-requires-else-source-eq4-clause-rows
halve_by-requires-else-source-eq4-clause-rows c = (by_eights c.requires.rows.0.rows.sided (λ e. omega (arith, e)), c.requires.rows.0, c.requires.rows.1)
