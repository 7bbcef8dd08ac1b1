-- `lines::spread` meets its contract. Assumes nothing.
use mathlib.Core.Path.{refl}
use native.Mathlib.Omega.{arith}
use borrow.Author.Rules.{rules}
use mir.Syntax.{w32}
use mir.Val.{SFits}
use mir.Facts.{to_z-of_z}
use Rattle.laws.proofs.Store.{stored_none, stored_turn, stored_all}
use Rattle.lines.specs.Line.{number}
use Rattle.lines.proofs.fold.spread.Goals as goal

pub loop-r-init : goal.loop-r-init
loop-r-init c = stored_none

pub loop-r-preserved : goal.loop-r-preserved
loop-r-preserved c =
    let y : SFits w32 (number c.args.y.now c.loop-r.r) = search rules in stored_turn c.loop-r.invariant refl (to_z-of_z y)

pub returns : goal.returns
returns c = stored_all c.loop-r.invariant (omega arith)
