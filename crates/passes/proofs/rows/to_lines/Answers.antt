-- `passes::to_lines` meets its contract. Assumes nothing.
use mathlib.Core.Path.{refl}
use borrow.Author.Rules.{rules}
use native.Mathlib.Omega.{arith}
use mir.Syntax.{w32}
use mir.Val.{SFits}
use mir.Facts.{to_z-of_z}
use Rattle.laws.proofs.Store.{stored_none, stored_turn, stored_all, lined_none, lined_turn, lined_all}
use Rattle.lines.specs.Line.{line_at}
use Rattle.passes.proofs.rows.to_lines.Goals as goal

pub loop-j-init : goal.loop-j-init
loop-j-init c = lined_none

pub loop-f-init : goal.loop-f-init
loop-f-init c = stored_none

pub loop-f-preserved : goal.loop-f-preserved
loop-f-preserved c =
    let x : SFits w32 (line_at c.args.rows.now c.loop-j.j c.args.lines c.loop-f.f) = search rules in stored_turn c.loop-f.invariant refl (to_z-of_z x)

pub loop-j-preserved : goal.loop-j-preserved
loop-j-preserved c = lined_turn c.loop-j.invariant (stored_all c.loop-f.invariant (omega arith))

pub returns : goal.returns
returns c = lined_all c.loop-j.invariant (omega arith)
