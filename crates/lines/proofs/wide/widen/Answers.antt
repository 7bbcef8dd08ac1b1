-- `lines::widen` meets its contract. Assumes nothing.
use mathlib.Core.Path.{refl, ◌∙◌}
use native.Mathlib.Omega.{arith}
use borrow.Author.Rules.{rules}
use mir.Syntax.{w8, w32}
use mir.Val.{SFits}
use mir.Facts.{to_z-of_z}
use Rattle.laws.proofs.Machine.{read_at}
use Rattle.laws.proofs.Store.{stored_none, stored_turn, stored_all}
use Rattle.lines.specs.Table.{from_place}
use Rattle.lines.proofs.wide.widen.Goals as goal

pub loop-k-init : goal.loop-k-init
loop-k-init c = stored_none

pub loop-k-preserved : goal.loop-k-preserved
loop-k-preserved c =
    let number : SFits w8 (from_place c.args.numbers.now c.args.at c.loop-k.k) = search rules in
    stored_turn c.loop-k.invariant refl (read_at w32 _ c.from.type_inv ∙ c.from.ensures ∙ to_z-of_z number)

pub returns : goal.returns
returns c = stored_all c.loop-k.invariant (omega arith)
