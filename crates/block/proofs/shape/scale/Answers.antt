-- `block::shape::scale` meets its contract. Assumes nothing.
use mathlib.Core.Path.{refl, ap, ◌∙◌}
use Prim.Native.Nat.{◌+◌}
use native.Mathlib.Omega.{arith}
use borrow.Author.Rules.{rules}
use mathlib.Core.List.{List}
use mir.Syntax.{w32}
use mir.Val.{SFits}
use mir.Facts.{to_z-of_z}
use lib.IntN.{ℤ, pos}
use lib.ListN.{get_or}
use Rattle.laws.specs.Integer.{wrap32}
use Rattle.laws.proofs.Store.{stored_none, stored_turn, stored_all, stores_out}
use Rattle.laws.proofs.Laid.{stores_laid}
use Rattle.fixed.specs.Fixed.{scaled}
use Rattle.laws.proofs.Machine.{read_at}
use Rattle.block.specs.Lines.{scaled_at}
use Rattle.block.proofs.shape.scale.Goals as goal

pub loop-i-init : goal.loop-i-init
loop-i-init c = stored_none

pub loop-i-preserved : goal.loop-i-preserved
loop-i-preserved c =
    let l = c.loop-i in
    let a = c.args in
    let fits : SFits w32 (get_or l.numbers (a.at + l.i) (pos 0)) = search rules in
    let before = ap (λ (d : List ℤ). get_or d (a.at + l.i) (pos 0)) l.invariant.is
    ∙ stores_out a.numbers.now l.i (λ k. a.at + k) (scaled_at a.numbers.now a.at) (a.at + l.i) (pos 0) (λ k b e. omega arith) in
    stored_turn l.invariant refl
    (read_at w32 _ c.rect_scale.type_inv ∙ c.rect_scale.ensures ∙ ap (λ (z : ℤ). wrap32 (scaled z)) (to_z-of_z fits ∙ before))

pub returns : goal.returns
returns c =
    let a = c.args in
    stored_all c.loop-i.invariant (omega arith) ∙ stores_laid a.numbers.now a.at a.n c.requires (pos 0) (scaled_at a.numbers.now a.at)
