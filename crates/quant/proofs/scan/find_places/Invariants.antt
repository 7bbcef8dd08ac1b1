-- After i turns the first i places are there, and tested.
use mathlib.Core.Path.{◌≡◌}
use mathlib.Core.Bool.{Bool}
use mathlib.Core.List.{List}
use Prim.Native.Nat.{ℕ}
use lib.Dec.{ltb}
use lib.ListN.{get_or}
use Rattle.laws.specs.Table.{every}
use Rattle.laws.proofs.Store.{Stored}
use Rattle.quant.specs.Scan.{meant}
use Rattle.quant.proofs.scan.find_places.Given as goal

-- the place that entry i means, and the test of it
abbrev pub place : Bool → ℕ → List ℕ → ℕ → ℕ
place direct width scan i = meant direct width (get_or scan i 0)

abbrev pub below : Bool → ℕ → List ℕ → ℕ → ℕ → Bool
below direct width scan limit i = ltb (place direct width scan i) limit

abbrev pub invariant-loop-i : goal.invariant-loop-i
invariant-loop-i l =
    Stored l.places l.initial.places l.i (λ k. k) (place l.reading.by_width l.reading.width l.scan)
    × (l.ok ≡ every l.i (below l.reading.by_width l.reading.width l.scan l.limit))
