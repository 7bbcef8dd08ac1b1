-- `passes::samples` meets its contract. Assumes nothing.
use mathlib.Core.Path.{refl, ap, ◌∙◌}
use Prim.Native.Nat.{◌+◌}
use native.Mathlib.Omega.{arith}
use borrow.Author.Rules.{rules}
use lib.IntN.{pos}
use lib.ListN.{get_or, length-replicate}
use mir.Syntax.{w32}
use mir.Val.{SFits}
use mir.Facts.{to_z-of_z}
use Rattle.laws.proofs.Store.{stored_none, stored_turn, stored_all, stores_front}
use Rattle.lines.specs.Line.{line_at}
use Rattle.passes.proofs.rows.samples.Goals as goal

pub loop-i-init : goal.loop-i-init
loop-i-init g c = stored_none

pub loop-i-preserved : goal.loop-i-preserved
loop-i-preserved g c =
    let s = c.args.source.now in
    let x : SFits w32 (line_at s.numbers.now (c.args.j + c.loop-i.i) s.lines c.args.k) = search rules in stored_turn c.loop-i.invariant refl (to_z-of_z x)

pub returns : goal.returns
returns g c i b =
    ap (λ l. get_or l i (pos 0)) (stored_all c.loop-i.invariant (omega arith))
    ∙ stores_front _ _ _ i (pos 0) b (omega (arith, length-replicate g.row.B (pos 0)))
