-- `block::Shape::row_lines` meets its contract: the pass, and what is scaled of it. Assumes nothing.
use mathlib.Core.Path.{sym, ◌∙◌, subst}
use Prim.Native.Nat.{ℕ, ◌+◌, ◌*◌, ◌≤◌}
use native.Mathlib.Omega.{arith}
use Rattle.kernels.specs.Kind.{kind_number}
use Rattle.sizes.proofs.Shift.{shift_bounds}
use Rattle.block.proofs.Room.{rows_room, rows_end}
use Rattle.block.proofs.Scaled.{rows_scaled, rows_plain}
use Rattle.block.proofs.shape.Shape.row_lines.Goals as goal

pub run-requires : goal.run-requires
run-requires c =
    let z = c.args.self.size in
    (z.sides.0, c.args.self.row_kernel, rows_room c.args.start c.args.count z.sides.0 z.sides.1 c.requires)

pub overflow_mul-start : goal.overflow_mul-start
overflow_mul-start c =
    let a = c.args in let z = a.self.size in
    omega (arith, rows_end a.start a.count z.sides.0 z.sides.1 c.requires)

pub scale-requires : goal.scale-requires
scale-requires c =
    let a = c.args in let z = a.self.size in
    subst (λ (l : ℕ). a.start * z.w + a.count * z.w ≤ l) (sym c.run.auto.dst)
    (rows_end a.start a.count z.sides.0 z.sides.1 c.requires).0

pub returns-then-is_odd : goal.returns-then-is_odd
returns-then-is_odd c =
    let a = c.args in
    let z = a.self.size in
    let low = (shift_bounds z.w z.h z.sides.0 z.sides.1).second_low in
    rows_scaled z.w z.h (kind_number a.self.rows) a.start a.count a.scratch.now a.output.now
    (rows_end a.start a.count z.sides.0 z.sides.1 c.requires).0 (omega arith) (sym c.is_odd.ensures ∙ c.if-is_odd.true) _ (rw c.shifts.ensures.1 at c.run.ensures) c.scale.ensures

pub returns-else-is_odd : goal.returns-else-is_odd
returns-else-is_odd c =
    let a = c.args in
    let z = a.self.size in
    rows_plain z.w z.h (kind_number a.self.rows) a.start a.count a.scratch.now a.output.now (sym c.is_odd.ensures ∙ c.if-is_odd.false) (rw c.shifts.ensures.1 at c.run.ensures)
