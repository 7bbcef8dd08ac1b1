-- After k turns `clear` speaks of tiles at most k numbers apart.
use mathlib.Core.Path.{◌≡◌}
use Prim.Native.Nat.{suc}
use Rattle.laws.specs.Table.{every}
use Rattle.plane.specs.Bounds.{bounds_in, clear_at}
use Rattle.plane.proofs.AllBounds.is_clear.Given as goal

abbrev pub invariant-loop-k : goal.invariant-loop-k
invariant-loop-k l = l.clear ≡ every l.k (λ k. clear_at (suc k) (bounds_in l.self))
