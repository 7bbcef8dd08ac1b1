-- `lines::fold` meets its contract. Assumes nothing.
use mathlib.Core.Path.{refl, ap, ap₂, ◌∙◌}
use Prim.Native.Nat.{◌*◌, ◌-◌}
use native.Mathlib.Omega.{arith}
use borrow.Author.Rules.{rules}
use lib.IntN.{ℤ, pos, ◌+ℤ◌, ◌-ℤ◌}
use lib.ListN.{get_or, length}
use mir.Syntax.{w32}
use mir.Val.{SFits}
use mir.Facts.{to_z-of_z}
use Rattle.laws.specs.Integer.{wrap32}
use Rattle.laws.proofs.Store.{stored_none, stored_turn, stored_all, stores_front}
use Rattle.laws.proofs.Machine.{read_at}
use Rattle.lines.specs.Line.{line_at}
use Rattle.lines.proofs.fold.fold.Goals as goal

pub loop-k-init : goal.loop-k-init
loop-k-init c = (stored_none, stored_none)

pub loop-k-preserved : goal.loop-k-preserved
loop-k-preserved c =
    let l = c.args.line.now in
    let k = c.loop-k.k in
    let p : SFits w32 (line_at l.numbers.now l.at l.stride k) = search rules in
    let q : SFits w32 (line_at l.numbers.now l.at l.stride (2 * length c.args.s.now - 1 - k)) = search rules in (
      stored_turn c.loop-k.invariant.0 refl
          (read_at w32 _ c.wrapping_add.type_inv ∙ c.wrapping_add.ensures ∙ ap₂ (λ (a b : ℤ). wrap32 (a +ℤ b)) (to_z-of_z p) (to_z-of_z q)),
      stored_turn c.loop-k.invariant.1 refl
          (read_at w32 _ c.wrapping_sub.type_inv ∙ c.wrapping_sub.ensures ∙ ap₂ (λ (a b : ℤ). wrap32 (a -ℤ b)) (to_z-of_z p) (to_z-of_z q)),
    )

pub returns : goal.returns
returns c =
    let i = c.loop-k.invariant in
    record {
      sums = λ k b. ap (λ l. get_or l k (pos 0)) (stored_all i.0 (omega arith)) ∙ stores_front _ _ _ k (pos 0) b (omega arith);
      diffs = λ k b. ap (λ l. get_or l k (pos 0)) (stored_all i.1 (omega arith)) ∙ stores_front _ _ _ k (pos 0) b (omega arith);
    }
