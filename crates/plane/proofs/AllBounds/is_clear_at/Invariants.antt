-- After i turns `clear` speaks of the first i tiles.
use mathlib.Core.Path.{◌≡◌}
use mathlib.Core.Bool.{not}
use Prim.Native.Nat.{◌+◌}
use Rattle.laws.specs.Table.{every}
use Rattle.plane.specs.Bounds.{bounds_in, meet}
use Rattle.plane.proofs.AllBounds.is_clear_at.Given as goal

abbrev pub invariant-loop-i : goal.invariant-loop-i
invariant-loop-i l = l.clear ≡ every l.i (λ i. not (meet (bounds_in l.self i) (bounds_in l.self (i + l.k))))
