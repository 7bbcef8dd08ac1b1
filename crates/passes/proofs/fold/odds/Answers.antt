-- `passes::odds` meets its contract. Assumes nothing.
use Prim.Native.Nat.{◌+◌, ◌*◌, ◌≤◌, ◌<◌}
use native.Mathlib.Omega.{arith}
use lib.Arith.{digits_lt}
use Rattle.laws.proofs.Place.{line_ends}
use Rattle.laws.proofs.Store.{lined_none, lined_turn, lined_all}
use Rattle.passes.proofs.fold.odds.Goals as goal

pub loop-r-init : goal.loop-r-init
loop-r-init g c = lined_none

pub frequency-requires-clause-room : goal.frequency-requires-clause-room
frequency-requires-clause-room g c =
    let n = c.args.diffs.now.lines in
    let q = (2 * c.loop-r.r + 1) * c.args.step in
    let few : q + 0 < 2 * c.args.h * c.args.step = digits_lt (omega arith) c.requires.rows.2.some in
    let all : n ≤ n = omega arith in
    omega (arith, line_ends q n c.requires.rows.2.inside (omega arith) all, c.loop-r.auto.o)

pub loop-r-preserved : goal.loop-r-preserved
loop-r-preserved g c = lined_turn c.loop-r.invariant (rw c.square_at.ensures at c.frequency.ensures)

pub returns : goal.returns
returns g c = lined_all c.loop-r.invariant (omega arith)
