-- `lanes::dense_side` meets its contract. Assumes nothing.
use mathlib.Core.Path.{◌≡◌, refl, ap, ◌∙◌}
use mathlib.Core.List.{List}
use Prim.Native.Nat.{ℕ, ◌+◌, ◌*◌, ◌/◌, ◌%◌}
use native.Mathlib.Nat.{div-add-mod', zero-add}
use native.Mathlib.Omega.{arith}
use lib.IntN.{ℤ, pos}
use lib.ListN.{length, get_or, replicate, length-replicate}
use Rattle.laws.specs.Store.{laid}
use Rattle.laws.proofs.Filled.{laid_whole}
use Rattle.sizes.proofs.Side.{side_bounds}
use Rattle.kernels.specs.Kernel.{by_sample}
use Rattle.lines.specs.Table.{row_number}
use Rattle.lines.proofs.PassLine.{length_by_sample}
use Rattle.lanes.proofs.dense_side.Goals as goal

-- a kernel's n × n numbers, widened
widened : (kind n m : ℕ) {ts wide : List ℤ} → ts ≡ by_sample kind n → m ≡ n * n → wide ≡ laid (replicate m (pos 0)) 0 (n * n) (row_number ts 0 n n)
    → wide ≡ by_sample kind n
widened kind n m {ts} e u w =
    w
    ∙ laid_whole (replicate m (pos 0)) ts (n * n) (row_number ts 0 n n) (pos 0) (length-replicate m (pos 0) ∙ u) (ap length e ∙ length_by_sample kind n)
    (λ p b. ap (λ (i : ℕ). get_or ts (i + p % n) (pos 0)) (zero-add (p / n * n)) ∙ ap (λ (i : ℕ). get_or ts i (pos 0)) (div-add-mod' p n))
    ∙ e

pub widen_square-requires-clause-size : goal.widen_square-requires-clause-size
widen_square-requires-clause-size g c = let b = side_bounds g.row.N c.requires.0 in (omega (arith, b.low), c.requires.1)

pub invariant_of-dense : goal.invariant_of-dense
invariant_of-dense g c = record { kernel = widened g.row.KIND g.row.N g.row.M c.requires.4 c.requires.2 c.widen_square.ensures }

pub run_lines-requires-clause-side : goal.run_lines-requires-clause-side
run_lines-requires-clause-side g c = let b = side_bounds g.row.N c.requires.0 in (refl, omega (arith, b.low), b.high, c.requires.3)
