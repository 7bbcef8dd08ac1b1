-- The code's shift of a table entry is the step, by one test over every index. Assumes nothing.
use mathlib.Core.Path.{◌≡◌, refl}
use mathlib.Core.Bool.{Bool, true}
use Prim.Native.Nat.{ℕ, ◌+◌, ◌-◌, ◌*◌, ◌/◌, ◌%◌, ◌^◌, ◌≤◌}
use native.Mathlib.Omega.{arith}
use borrow.Author.Tests.{eqb-true}
use lib.Dec.{eqb}
use lib.ListN.{get_or}
use Rattle.laws.specs.Table.{every}
use Rattle.laws.proofs.Every.{every_each}
use Rattle.quant.specs.Step.{steps, step_at}

-- entry ((q-1) mod 24)+1, shifted within 32 bits
abbrev shifted : ℕ → ℕ
shifted q = get_or steps ((q - 1) % 24 + 1) 0 * 2 ^ ((q - 1) / 24) % 4294967296

abbrev right : ℕ → Bool
right k = eqb (shifted (k + 1)) (step_at (k + 1))

all_right_lem : every 255 right ≡ true
unfolding steps step_at
all_right_lem = refl

pub shifted_is : (q : ℕ) → 1 ≤ q → q ≤ 255 → shifted q ≡ step_at q
shifted_is q lo hi =
    let e : q - 1 + 1 ≡ q = omega arith in
    rw e at (eqb-true (shifted (q - 1 + 1)) (step_at (q - 1 + 1)) (every_each 255 right all_right_lem (q - 1) (omega arith)))
