-- `block::Shape::column_lines` meets its contract. Assumes nothing.
use mathlib.Core.Path.{ap, ◌∙◌}
use Prim.Native.Nat.{ℕ}
use Rattle.kernels.specs.Kind.{kind_number}
use Rattle.lines.specs.Pass.{pass_lines}
use Rattle.block.specs.Lines.{column_lines}
use Rattle.block.proofs.Room.{columns_room}
use Rattle.block.proofs.shape.Shape.column_lines.Goals as goal

pub run-requires : goal.run-requires
run-requires c =
    let a = c.args in
    let z = a.self.size in
    (z.sides.1, a.self.column_kernel, columns_room a.start a.count z.sides.0 z.sides.1 c.requires)

pub returns : goal.returns
unfolding column_lines
returns c =
    let a = c.args in
    let z = a.self.size in
    c.run.ensures
    ∙ ap (λ (s : ℕ). pass_lines (kind_number a.self.columns) z.h s z.w a.residuals.now a.start a.count a.scratch.now) c.shifts.ensures.0
