-- `lanes::dct_side` meets its contract. Assumes nothing.
use mathlib.Core.Path.{refl}
use Prim.Native.Nat.{◌≤◌}
use native.Mathlib.Omega.{arith}
use lib.IntN.{pos}
use lib.ListN.{length-replicate}
use Rattle.sizes.proofs.Side.{side_bounds, side_power}
use Rattle.lanes.proofs.dct_side.Goals as goal

pub widen_odd_squares-requires : goal.widen_odd_squares-requires
widen_odd_squares-requires g c =
    let n = g.row.N in
    let here = side_power n c.log2.result c.requires.0 c.log2.ensures.value in
    (c.log2.ensures.bounds.1, rw (here, length-replicate g.row.M (pos 0), ← c.requires.3) (let l : g.row.M ≤ g.row.M = omega arith in l))

pub invariant_of-dct : goal.invariant_of-dct
invariant_of-dct g c =
    record { squares = rw (side_power g.row.N c.log2.result c.requires.0 c.log2.ensures.value) at c.widen_odd_squares.ensures; whole = c.requires.1 }

pub run_lines-requires-clause-side : goal.run_lines-requires-clause-side
run_lines-requires-clause-side g c = let b = side_bounds g.row.N c.requires.0 in (refl, omega (arith, b.low), b.high, c.requires.4)
