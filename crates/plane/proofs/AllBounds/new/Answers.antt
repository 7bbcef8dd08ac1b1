-- `plane::AllBounds::new` meets its contract. Assumes nothing.
use mathlib.Core.Path.{◌≡◌}
use native.Mathlib.Omega.{arith}
use borrow.Author.Rules.{rules}
use Rattle.plane.proofs.Clear.{bounded_none, bounded_turn, all_bounds}
use Rattle.plane.proofs.AllBounds.new.Goals as goal

pub loop-i-init : goal.loop-i-init
loop-i-init c = bounded_none

pub loop-i-preserved : goal.loop-i-preserved
loop-i-preserved c = bounded_turn c.loop-i.invariant c.bounds_of-b.ensures

pub returns : goal.returns
returns c = let e : c.loop-i.i ≡ 16 = omega arith in all_bounds (search rules) (rw e at c.loop-i.invariant)
