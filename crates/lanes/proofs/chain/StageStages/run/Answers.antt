-- A stage, and those after it. Assumes nothing.
use mathlib.Core.Path.{sym, ◌∙◌, subst}
use Prim.Native.Nat.{ℕ, ◌*◌}
use lib.IntN.{pos}
use lib.ListN.{length, length-replicate}
use Rattle.lines.specs.Stage.{Staging}
use Rattle.lines.proofs.Chain.{rest_asked, completed}
use Rattle.lanes.proofs.chain.StageStages.run.Goals as goal

pub run-requires : goal.run-requires
run-requires g c =
    let s = c.args.self.now in
    let setup = c.args.setup.now in
    subst (λ (m : ℕ). Staging m (2 * c.args.step) c.whole.result.count (length c.halve.new.o) setup.numbers.now) (sym s.left)
    (rest_asked g.row.D g.row.H s.power s.few c.args.step c.requires (c.whole.ensures.3 ∙ c.halve.auto.s ∙ length-replicate g.row.H (pos 0)) c.halve.auto.o)

pub returns : goal.returns
returns g c =
    let s = c.args.self.now in
    completed g.row.D g.row.H s.power s.few c.args.step c.requires (rw (length-replicate g.row.H (pos 0)) at c.halve.ensures)
    (rw (s.left, c.whole.ensures.0, c.whole.ensures.1, c.whole.ensures.2) at c.run.ensures)
