-- `passes::two_by` meets its contract. Assumes nothing.
use Prim.Native.Nat.{ℕ, ◌+◌, ◌*◌, ◌≤◌}
use native.Mathlib.Omega.{arith}
use Rattle.laws.proofs.Place.{line_ends}
use Rattle.passes.specs.Fold.{RowRoom}
use Rattle.passes.proofs.Stages.{two_done}
use Rattle.passes.proofs.fold.two_by.Goals as goal

pub returns : goal.returns
returns g c =
    let a = c.args in
    let w = c.whole.ensures in
    let v = c.whole-2.ensures in
    two_done a.step a.rounding.shift.bits a.source.now.lines a.source.now.numbers.now a.o.now (rw (w.0, w.1, w.2, w.3) at c.frequency.ensures) (rw (v.0, v.1, v.2, v.3) at c.frequency-2.ensures)

-- two rows, step apart
ends : {step lines lo : ℕ} → RowRoom 2 step lines lo → step * lines + lines ≤ lo
ends {step} {lines} r = let s = r.some in let all : lines ≤ lines = omega arith in line_ends step lines r.inside (omega arith) all

pub frequency-requires-clause-room : goal.frequency-requires-clause-room
frequency-requires-clause-room g c = let e = ends c.requires.2 in omega arith

pub frequency-requires-2-clause-room : goal.frequency-requires-2-clause-room
frequency-requires-2-clause-room g c = let e = ends c.requires.2 in omega (arith, c.frequency.auto.o)
