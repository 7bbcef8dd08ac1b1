-- A value compared with a power of two, and what a test of the order says of two fractions. Assumes nothing.
use mathlib.Core.Path.{◌≡◌, refl, sym, ap, ◌∙◌, subst}
use mathlib.Core.Logic.{⊎_elim}
use mathlib.Core.Bool.{Bool, true, false, or-true, ◌&&◌, ◌||◌, true≢false, false≢true}
use Prim.Native.Nat.{ℕ, ◌*◌, ◌^◌, ◌≤◌, ◌<◌}
use native.Mathlib.Nat.{eq-or-lt_of_le, le_of_lt, le_of_eq, lt_of_not-le, not-le_of_lt, mul-one, one-mul, zero-lt-suc}
use native.Mathlib.Omega.{arith}
use lib.Dec.{T, ltb, eqb}
use lib.IntN.{pos}
use lib.Ieee.{Float, nan, inf, fin, up, down, lt, le}
use lib.Ieee.Exact.{HasValue}
use lib.Ieee.Fits.{down_pos}
use lib.Ieee.Order.{transfer}
use Rattle.quant.specs.Float.{has_no_sign}
use borrow.Author.Tests.{ltb-true, ltb-false, eqb-true, eqb-false, lt-ltb, eq-eqb}

-- a test of ≤, as `le` has it of two fractions of the same sign
abbrev pub le_test : ℕ → ℕ → Bool
le_test p q = ltb p q || (eqb p q && true)

pub le_true : (p q : ℕ) → le_test p q ≡ true → p ≤ q
le_true p q = go (ltb p q) (eqb p q) (ltb-true p q) (eqb-true p q)
  where
    go : (a b : Bool) → (a ≡ true → p < q) → (b ≡ true → p ≡ q) → (a || (b && true)) ≡ true → p ≤ q
    go true b f g e = le_of_lt (f refl)
    go false true f g e = le_of_eq (g refl)
    go false false f g e = absurd (false≢true e)

pub le_false : (p q : ℕ) → le_test p q ≡ false → q < p
le_false p q = go (ltb p q) (eqb p q) (ltb-false p q) (eqb-false p q)
  where
    go : (a b : Bool) → (a ≡ false → q ≤ p) → (b ≡ false → p ≡ q → ⊥) → (a || (b && true)) ≡ false → q < p
    go true b f g e = absurd (true≢false e)
    go false true f g e = absurd (true≢false e)
    go false false f g e = let h = f refl in let n = g refl in lt_of_not-le (λ l. n (omega arith))

le_yes : (p q : ℕ) → p ≤ q → le_test p q ≡ true
le_yes p q h =
    ⊎_elim (λ e. ap (λ (t : Bool). ltb p q || (t && true)) (eq-eqb p q e) ∙ or-true (ltb p q)) (λ l. ap (λ (t : Bool). t || (eqb p q && true)) (lt-ltb p q l)) (eq-or-lt_of_le h)

-- where a value without a sign equals one with a sign, both are zero
pub level_zero : (A B : ℕ) → (eqb A B && (false || eqb A 0)) ≡ true → (A ≡ 0) × (B ≡ 0)
level_zero A B = go (eqb A B) (eqb A 0) (eqb-true A B) (eqb-true A 0)
  where
    go : (a b : Bool) → (a ≡ true → A ≡ B) → (b ≡ true → A ≡ 0) → (a && (false || b)) ≡ true → (A ≡ 0) × (B ≡ 0)
    go true true f g e = (g refl, sym (f refl) ∙ g refl)
    go true false f g e = absurd (false≢true e)
    go false b f g e = absurd (false≢true e)

-- what is not below 2 ^ k reaches it
pub not_below : (k : ℕ) (x : Float) → T (has_no_sign x) → lt x (fin false 1 (pos k)) ≡ false → le (fin false 1 (pos k)) x ≡ true
unfolding lt le
not_below k nan p e = absurd p
not_below k (inf true) p e = absurd p
not_below k (inf false) p e = refl
not_below k (fin true m n) p e = absurd p
not_below k (fin false m n) p e = le_yes (1 * 2 ^ k * down n) (m * up n * 1) (ltb-false (m * up n * 1) (1 * 2 ^ k * down n) e)

-- x is the fraction a / c, and 2 ^ k is `fin false 1 (pos k)`
module _ (k : ℕ) (a c : ℕ) (C : 0 < c) where
  pub reaches : (x : Float) → HasValue x false a c → le (fin false 1 (pos k)) x ≡ true → 2 ^ k * c ≤ a
  unfolding le
  reaches nan v e = absurd v
  reaches (inf s) v e = absurd v
  reaches (fin true m n) v e = absurd (true≢false v.0)
  reaches (fin false m n) v e =
      subst (λ (z : ℕ). 2 ^ k * c ≤ z) (mul-one a)
      (transfer (2 ^ k) a 1 c (1 * 2 ^ k) (m * up n) 1 (down n) (zero-lt-suc 0) (down_pos n) (ap (λ (z : ℕ). z * 1) (sym (one-mul (2 ^ k)))) (sym v.1)
      (le_true (1 * 2 ^ k * down n) (m * up n * 1) e))

  pub falls_short : (x : Float) → HasValue x false a c → le (fin false 1 (pos k)) x ≡ false → a < 2 ^ k * c
  unfolding le
  falls_short nan v e = absurd v
  falls_short (inf s) v e = absurd v
  falls_short (fin true m n) v e = absurd (true≢false v.0)
  falls_short (fin false m n) v e =
      lt_of_not-le (λ h.
      not-le_of_lt (le_false (1 * 2 ^ k * down n) (m * up n * 1) e)
      (transfer (1 * 2 ^ k) (m * up n) 1 (down n) (2 ^ k) a 1 c (zero-lt-suc 0) C (ap (λ (z : ℕ). z * 1) (one-mul (2 ^ k))) v.1
      (subst (λ (z : ℕ). 2 ^ k * c ≤ z) (sym (mul-one a)) h)))
