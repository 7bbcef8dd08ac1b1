-- Two numbers that are joined bit by bit, and the lowest binary digit of a number. Assumes nothing.
use mathlib.Core.Bool.{Bool, cond, ◌&&◌, ◌||◌}
use mathlib.Core.Path.{◌≡◌, refl}
use Prim.Native.Nat.{ℕ, zero, suc, ◌+◌, ◌-◌, ◌*◌, ◌/◌, ◌%◌, ◌^◌, ◌≤◌, ◌<◌}
use native.Mathlib.Nat.{mod-lt, pow-suc}
use native.Mathlib.Omega.{arith}
use borrow.Author.Tests.{lt-ltb, ltb-true}
use lib.Bits.{bit_or, or_lt, or_comm, or_add_and, and_le_r}
use lib.Dec.{eqb, ltb, lit<}
use lib.Pow.{pow_pos}
use Rattle.laws.proofs.Bool.{both, same_test, bit_most, bit_is, is_bit}

or_above : (a b : ℕ) → a ≤ bit_or a b
or_above a b = omega (arith, or_add_and a b, and_le_r a b)

-- both are below a power of two
pub or_ltb : (k a b : ℕ) → ltb (bit_or a b) (2 ^ k) ≡ (ltb a (2 ^ k) && ltb b (2 ^ k))
or_ltb k a b =
    same_test (ltb (bit_or a b) (2 ^ k)) (ltb a (2 ^ k) && ltb b (2 ^ k))
    (λ e.
    let h = ltb-true (bit_or a b) (2 ^ k) e in
    rw (lt-ltb a (2 ^ k) (omega (arith, h, or_above a b))) (lt-ltb b (2 ^ k) (omega (arith, h, or_above b a, or_comm a b))))
    (λ e.
    let h = both (ltb a (2 ^ k)) (ltb b (2 ^ k)) e in
    lt-ltb (bit_or a b) (2 ^ k) (or_lt k a b (ltb-true a (2 ^ k) h.0) (ltb-true b (2 ^ k) h.1)))

-- ---- the lowest digit of a number, and the rest of it

pub low_bit : (x : Bool) (m : ℕ) → eqb ((cond x 1 0 + 2 * m) % 2) 1 ≡ x
low_bit x m = is_bit x ((cond x 1 0 + 2 * m) % 2) (omega (arith, bit_most x))

pub above_bit : (x : Bool) (m : ℕ) → (cond x 1 0 + 2 * m) / 2 ≡ m
above_bit x m = omega (arith, bit_most x)

pub bit_and_rest : (m : ℕ) → cond (eqb (m % 2) 1) 1 0 + 2 * (m / 2) ≡ m
bit_and_rest m = omega (arith, bit_is (m % 2) (mod-lt m (lit< tt)))

pub or_bits : (x y : ℕ) → x < 2 → y < 2 → eqb (bit_or x y) 1 ≡ (eqb x 1 || eqb y 1)
or_bits zero zero p q = refl
or_bits zero (suc zero) p q = refl
or_bits (suc zero) zero p q = refl
or_bits (suc zero) (suc zero) p q = refl
or_bits zero (suc (suc y)) p q = absurd (omega arith)
or_bits (suc zero) (suc (suc y)) p q = absurd (omega arith)
or_bits (suc (suc x)) y p q = absurd (omega arith)

-- of 2 ^ n - 1
pub ones_odd : (n : ℕ) → (2 ^ suc n - 1) % 2 ≡ 1
ones_odd n = omega (arith, pow-suc 2 n, pow_pos n)

pub ones_half : (n : ℕ) → (2 ^ suc n - 1) / 2 ≡ 2 ^ n - 1
ones_half n = omega (arith, pow-suc 2 n, pow_pos n)
