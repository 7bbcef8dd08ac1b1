-- `passes::frequency` meets its contract. Assumes nothing.
use mathlib.Core.Path.{◌≡◌, refl, ap, ◌∙◌}
use Prim.Native.Nat.{ℕ, ◌+◌, ◌*◌}
use native.Mathlib.Omega.{arith}
use borrow.Author.Rules.{rules}
use lib.IntN.{ℤ, ◌+ℤ◌}
use mir.Syntax.{w32}
use mir.Val.{SFits, to_z, of_z}
use mir.Facts.{to_z-of_z}
use Rattle.laws.specs.Integer.{wrap32}
use Rattle.laws.proofs.Machine.{read_at}
use Rattle.laws.proofs.Store.{stored_all, stored_before, stored_within, stored_after}
use Rattle.fixed.specs.Fixed.{floor_shift, round_shift}
use Rattle.fixed.proofs.Round.{starts_at_half}
use Rattle.lines.specs.Line.{dot, line_at, number}
use Rattle.passes.proofs.Abreast.{all_done}
use Rattle.passes.proofs.rows.frequency.Goals as goal

pub loop-b-init : goal.loop-b-init
loop-b-init g c = stored_before g.row.B

pub loop-i-preserved : goal.loop-i-preserved
loop-i-preserved g c =
    let f = c.args.factors.now in
    let s = c.args.source.now in
    let i = c.loop-i.i in
    let bits = c.args.rounding.shift.bits in
    let sum_at : ℕ → ℤ = λ j. dot f.count (line_at f.numbers.now f.at f.stride) (line_at s.numbers.now j s.lines) in
    let all = sum_at (g.row.B * c.loop-b.b + i) in
    let half : SFits w32 c.args.rounding.half = search rules in
    let sum : SFits w32 (number c.add_products-sums.result i) = search rules in
    let summed : number c.add_products-sums.result i ≡ wrap32 (to_z w32 (of_z w32 c.args.rounding.half) +ℤ all) = c.add_products-sums.ensures i (omega arith) in
    let value : to_z w32 (of_z w32 c.finish.result) ≡ round_shift bits all =
    read_at w32 _ c.finish.type_inv ∙ c.finish.ensures
    ∙ ap (floor_shift bits) (to_z-of_z sum ∙ summed ∙ ap (λ (h : ℤ). wrap32 (h +ℤ all)) (to_z-of_z half ∙ c.args.rounding.built))
    ∙ starts_at_half bits all in
    stored_within {g = λ j. round_shift bits (sum_at j)} (g.row.B * c.loop-b.b) i c.loop-i.invariant refl value

pub loop-b-preserved : goal.loop-b-preserved
loop-b-preserved g c = stored_after g.row.B c.loop-b.b (omega arith) c.loop-i.invariant

pub returns : goal.returns
returns g c = stored_all c.loop-b.invariant (all_done c.requires.rows.0 c.loop-b.b (omega arith))
