-- `plane::AllBounds::is_clear_at` meets its contract. Assumes nothing.
use mathlib.Core.Path.{◌≡◌}
use native.Mathlib.Omega.{arith}
use Rattle.plane.specs.Bounds.{clear_at}
use Rattle.plane.proofs.AllBounds.is_clear_at.Goals as goal

pub returns : goal.returns
unfolding clear_at
returns c = let e : c.loop-i.i ≡ 16 = omega arith in rw e at c.loop-i.invariant
