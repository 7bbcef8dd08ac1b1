-- `vectors::transforms::turned` meets its contract. Assumes nothing.
use Prim.Native.Nat.{◌*◌, ◌%◌, ◌≤◌}
use native.Mathlib.Nat.{le_trans, mod-le, div-le_self, mul-le-mul}
use native.Mathlib.Omega.{arith}
use Rattle.vectors.proofs.transforms.turned.Goals as goal

small : (c : goal.Start) → c.args.i % c.args.n * c.args.n ≤ 1024 * 1024
small c = mul-le-mul (le_trans (mod-le c.args.i c.args.n) c.requires.0) c.requires.2

pub overflow_mul-result : goal.overflow_mul-result
overflow_mul-result c = omega (arith, small c)

pub overflow_add-result : goal.overflow_add-result
overflow_add-result c = omega (arith, small c, div-le_self c.args.i c.args.n)
