-- `passes::dct_side` meets its contract. Assumes nothing.
use Prim.Native.Nat.{◌*◌, ◌≤◌}
use native.Mathlib.Nat.{mul-le-mul_left}
use native.Mathlib.Omega.{arith}
use lib.IntN.{pos}
use lib.ListN.{length-replicate}
use Rattle.sizes.proofs.Side.{side_bounds, side_power}
use Rattle.passes.proofs.fold.dct_side.Goals as goal

pub widen_odd_squares-requires : goal.widen_odd_squares-requires
widen_odd_squares-requires g c =
    let n = g.row.N in
    let here = side_power n c.log2.result c.requires.side.0 c.log2.ensures.value in
    (c.log2.ensures.bounds.1, rw (here, length-replicate g.row.M (pos 0), ← c.requires.side.2) (let l : g.row.M ≤ g.row.M = omega arith in l))

pub all_lines-requires-clause-side : goal.all_lines-requires-clause-side
all_lines-requires-clause-side g c = (c.requires.side.0, rw (side_power g.row.N c.log2.result c.requires.side.0 c.log2.ensures.value) at c.widen_odd_squares.ensures)

pub all_lines-requires-else-source-le8-clause-side : goal.all_lines-requires-else-source-le8-clause-side
all_lines-requires-else-source-le8-clause-side g c = (c.requires.side.0, rw (side_power g.row.N c.log2.result c.requires.side.0 c.log2.ensures.value) at c.widen_odd_squares.ensures)

pub all_lines-requires-clause-room : goal.all_lines-requires-clause-room
all_lines-requires-clause-room g c =
    let s = c.requires.side in
    let m : g.row.N * c.args.source.now.lines ≤ g.row.N * 8 = mul-le-mul_left g.row.N (omega arith) in (omega (arith, s.3, s.4, s.5), omega (arith, s.4))

pub all_lines-requires-else-source-le8-clause-room : goal.all_lines-requires-else-source-le8-clause-room
all_lines-requires-else-source-le8-clause-room g c =
    let s = c.requires.side in
    let lines = c.args.source.now.lines in
    let m : g.row.N * lines ≤ g.row.N * 32 = mul-le-mul_left g.row.N (side_bounds lines c.requires.lines.0).high in (s.3, omega (arith, s.5))
