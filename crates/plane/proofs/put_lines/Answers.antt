-- `plane::put_lines` meets its contract. Assumes nothing.
use native.Mathlib.Omega.{arith}
use lib.ListN.{length}
use Rattle.laws.proofs.Store.{lined_none, lined_turn, lined_length}
use Rattle.plane.proofs.Put.{in_row, line_copied}
use Rattle.plane.proofs.put_lines.Goals as goal

pub loop-i-init : goal.loop-i-init
loop-i-init c = lined_none

pub loop-i-preserved : goal.loop-i-preserved
loop-i-preserved c =
    let a = c.args in
    let p = c.requires in
    let l = c.loop-i in
    let k = in_row a.w a.count a.width a.x a.y l.i (length a.from.now) (length l.output) p.0 p.1 p.2
    (omega (arith, lined_length l.invariant, p.3)) c.loop-i-test.true in
    lined_turn l.invariant (line_copied l.output a.from.now _ a.w l.i (omega (arith, k.source)) (omega (arith, k.target)) c.copy_from_slice.ensures.after)
