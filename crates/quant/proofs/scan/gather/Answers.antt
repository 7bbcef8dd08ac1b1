-- `quant::scan::gather` meets its contract. Assumes nothing.
use mathlib.Core.Path.{refl, ap, ◌∙◌}
use Prim.Native.Nat.{ℕ}
use native.Mathlib.Omega.{arith}
use borrow.Author.Rules.{rules}
use lib.IntN.{pos}
use lib.ListN.{length, get_or}
use mir.Syntax.{w32}
use mir.Val.{SFits}
use mir.ValLaws.{to_z-of_z}
use Rattle.laws.proofs.Store.{stored_none, stored_turn}
use Rattle.laws.proofs.Filled.{filled}
use Rattle.quant.proofs.scan.gather.Goals as goal

pub loop-i-init : goal.loop-i-init
loop-i-init c = stored_none

pub loop-i-preserved : goal.loop-i-preserved
loop-i-preserved c =
    let l = c.args.coefficients.now in
    let p : SFits w32 (get_or l c.from.result (pos 0)) = search rules in
    stored_turn c.loop-i.invariant refl (to_z-of_z w32 _ p ∙ ap (λ (k : ℕ). get_or l k (pos 0)) c.from.ensures)

pub returns : goal.returns
returns c = filled (length c.args.places.now) (pos 0) c.loop-i.invariant (omega arith) c.requires.room
