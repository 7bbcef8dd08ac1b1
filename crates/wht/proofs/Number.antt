-- Straight-line code on signed numbers of 32 bits that do not wrap. `Holds n z b` says that the bits n are those of z, whose size is at most b;
-- each operation has the fact that it fits, and the `Holds` of its result. Assumes nothing.
use mathlib.Core.Path.{◌≡◌, sym, ap, ap₂, ◌∙◌, subst}
use Prim.Native.Nat.{ℕ, ◌+◌, ◌^◌, ◌≤◌, ◌<◌}
use native.Mathlib.Nat.{le_trans, lt_of_le_of_lt}
use native.Mathlib.Omega.{arith}
use lib.Dec.{T, ltb, ltb→lt}
use lib.IntN.{ℤ, nat_abs, ◌+ℤ◌, ◌-ℤ◌}
use lib.Signed.{shr_z}
use mir.Syntax.{w32}
use mir.Val.{SFits, to_z, of_z}
use mir.Facts.{to_z-of_z}
use Rattle.laws.specs.Integer.{floor_div}
use Rattle.laws.proofs.Divide.{nat_abs_floor_div, shr_floor}
use Rattle.laws.proofs.Size.{nat_abs-+ℤ, nat_abs_sub, mag_nat_abs}

-- the machine's operations, on bits
abbrev pub plus : ℕ → ℕ → ℕ
plus m n = of_z w32 (to_z w32 m +ℤ to_z w32 n)

abbrev pub minus : ℕ → ℕ → ℕ
minus m n = of_z w32 (to_z w32 m -ℤ to_z w32 n)

abbrev pub half : ℕ → ℕ
half m = of_z w32 (shr_z (to_z w32 m) 2)

pub record Holds (n : ℕ) (z : ℤ) (b : ℕ) : Type 0 where
  pub is : to_z w32 n ≡ z
  pub size : nat_abs z ≤ b

-- a number whose size is below 2 ^ 31 fits, and is read back
small_fits : {z : ℤ} {b : ℕ} → nat_abs z ≤ b → b < 2 ^ 31 → SFits w32 z
small_fits {z} h l = record { sfits = lt_of_le_of_lt (le_trans (mag_nat_abs z) h) l }

pub parameter : {z : ℤ} {b : ℕ} → SFits w32 z → nat_abs z ≤ b → Holds (of_z w32 z) z b
parameter f h = record { is = to_z-of_z f; size = h }

module _ (op : ℤ → ℤ → ℤ) (bound : (x y : ℤ) → nat_abs (op x y) ≤ nat_abs x + nat_abs y) {m n : ℕ} {x y : ℤ} {a b : ℕ}
    (p : Holds m x a) (q : Holds n y b) (t : T (ltb (a + b) (2 ^ 31))) where
  size_of : nat_abs (op x y) ≤ a + b
  size_of = omega (arith, bound x y, p.size, q.size)

  op_fits : SFits w32 (op (to_z w32 m) (to_z w32 n))
  op_fits = subst (λ (z : ℤ). SFits w32 z) (sym (ap₂ op p.is q.is)) (small_fits size_of (ltb→lt (a + b) (2 ^ 31) t))

  op_holds : Holds (of_z w32 (op (to_z w32 m) (to_z w32 n))) (op x y) (a + b)
  op_holds = record { is = to_z-of_z op_fits ∙ ap₂ op p.is q.is; size = size_of }

module _ {m n : ℕ} {x y : ℤ} {a b : ℕ} (p : Holds m x a) (q : Holds n y b) (t : T (ltb (a + b) (2 ^ 31))) where
  pub add_fits : SFits w32 (to_z w32 m +ℤ to_z w32 n)
  add_fits = op_fits ◌+ℤ◌ nat_abs-+ℤ p q t

  pub added : Holds (plus m n) (x +ℤ y) (a + b)
  added = op_holds ◌+ℤ◌ nat_abs-+ℤ p q t

  pub sub_fits : SFits w32 (to_z w32 m -ℤ to_z w32 n)
  sub_fits = op_fits ◌-ℤ◌ nat_abs_sub p q t

  pub subtracted : Holds (minus m n) (x -ℤ y) (a + b)
  subtracted = op_holds ◌-ℤ◌ nat_abs_sub p q t

pub halved : {m : ℕ} {x : ℤ} {a : ℕ} → Holds m x a → T (ltb a (2 ^ 31)) → Holds (half m) (floor_div x 2) a
halved {m} {x} {a} p t =
    let small = le_trans (nat_abs_floor_div x 2) p.size in
    let is = ap (λ (z : ℤ). shr_z z 2) p.is ∙ shr_floor x 2 in
    record { is = ap (λ (z : ℤ). to_z w32 (of_z w32 z)) is ∙ to_z-of_z (small_fits small (ltb→lt a (2 ^ 31) t)); size = small }

-- `search (fitting, h)` shows that a sum or a difference fits, of numbers that the fields of h hold
pub ruleset fitting = (tt, add_fits, sub_fits)
