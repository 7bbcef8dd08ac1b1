-- `lines::widen_square` meets its contract. Assumes nothing.
use native.Mathlib.Omega.{arith}
use Rattle.laws.proofs.Store.{lined_none, lined_turn}
use Rattle.lines.proofs.Squares.{all_rows}
use Rattle.lines.proofs.wide.widen_square.Goals as goal

pub loop-r-init : goal.loop-r-init
loop-r-init c = lined_none

pub loop-r-preserved : goal.loop-r-preserved
loop-r-preserved c = lined_turn c.loop-r.invariant c.widen.ensures

pub returns : goal.returns
returns c = let a = c.args in all_rows a.to a.first a.apart a.numbers.now c.requires.size.0 c.requires.places.2 c.loop-r.invariant (omega arith)
