-- `lines::add_products` meets its contract. Assumes nothing.
use mathlib.Core.Path.{◌∙◌, ap, sym, subst}
use Prim.Native.Nat.{◌+◌}
use borrow.Author.Rules.{rules}
use lib.IntN.{ℤ, ◌+ℤ◌}
use mir.Syntax.{w32}
use mir.Val.{SFits, to_z, of_z}
use mir.Facts.{to_z-of_z}
use Rattle.laws.specs.Integer.{wrap32}
use Rattle.laws.proofs.Machine.{read_at}
use Rattle.lines.specs.Line.{line_at}
use Rattle.lines.proofs.Sum.{Summed, sum_none, sum_turn}
use Rattle.lines.proofs.square.add_products.Goals as goal

pub loop-k-init : goal.loop-k-init
loop-k-init c =
    let r = c.args.row.now in
    let l = c.args.line.now in
    subst (λ (z : ℤ). Summed z z 0 (line_at r.numbers.now r.at r.stride) (line_at l.numbers.now l.at l.stride)) (sym (to_z-of_z c.ranges.half)) (sum_none c.ranges.half)

pub loop-k-preserved : goal.loop-k-preserved
loop-k-preserved c =
    let r = c.args.row.now in
    let l = c.args.line.now in
    let k = c.loop-k.k in
    let factor : SFits w32 (line_at r.numbers.now r.at r.stride k) = search rules in
    let sample : SFits w32 (line_at l.numbers.now l.at l.stride k) = search rules in
    subst (λ (z : ℤ). Summed z (to_z w32 (of_z w32 c.args.half)) (k + 1) (line_at r.numbers.now r.at r.stride) (line_at l.numbers.now l.at l.stride))
    (sym (read_at w32 _ c.wrapping_add-sum.type_inv))
    (sum_turn c.loop-k.invariant (to_z-of_z factor) (to_z-of_z sample) c.wrapping_mul.ensures
    (c.wrapping_add-sum.ensures ∙ ap (λ (y : ℤ). wrap32 (to_z w32 c.loop-k.sum-bits +ℤ y)) (read_at w32 _ c.wrapping_mul.type_inv)))
