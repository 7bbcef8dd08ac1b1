-- `lines::sums` meets its contract. Assumes nothing.
use mathlib.Core.Path.{refl, ap, ◌∙◌}
use Prim.Native.Nat.{◌+◌}
use borrow.Author.Rules.{rules}
use lib.IntN.{ℤ, ◌+ℤ◌}
use mir.Syntax.{w32}
use mir.Val.{SFits}
use mir.Facts.{to_z-of_z}
use Rattle.laws.specs.Integer.{wrap32}
use Rattle.laws.proofs.Store.{stored_none, stored_turn}
use Rattle.laws.proofs.Machine.{read_at}
use Rattle.fixed.specs.Fixed.{floor_shift}
use Rattle.fixed.proofs.Round.{starts_at_half}
use Rattle.lines.specs.Line.{dot, line_at}
use Rattle.lines.proofs.square.sums.Goals as goal

pub loop-r-init : goal.loop-r-init
loop-r-init c = stored_none

pub loop-r-preserved : goal.loop-r-preserved
loop-r-preserved c =
    let a = c.args in
    let q = a.square.now in
    let l = a.line.now in
    let bits = a.rounding.shift.bits in
    let all = dot q.side (line_at q.numbers.now (q.at + c.loop-r.r) q.side) (line_at l.numbers.now l.at l.stride) in
    let half : SFits w32 a.rounding.half = search rules in
    stored_turn c.loop-r.invariant refl
    (read_at w32 _ c.finish.type_inv ∙ c.finish.ensures
    ∙ ap (floor_shift bits)
    (read_at w32 _ c.add_products.type_inv ∙ rw c.requires.1 at c.add_products.ensures ∙ ap (λ (z : ℤ). wrap32 (z +ℤ all)) (to_z-of_z half ∙ a.rounding.built))
    ∙ starts_at_half bits all)
