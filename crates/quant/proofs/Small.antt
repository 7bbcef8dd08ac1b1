-- How large the result of an f32 operation can be. `Small k x` says that x is a number, finite, and at most 2 ^ k in size. Assumes nothing.
use mathlib.Core.Path.{◌≡◌, refl, sym, ap, ◌∙◌, subst}
use mathlib.Core.Bool.{Bool, true, false, not, ◌&&◌, ◌||◌, beq, cond, true≢false}
use Prim.Native.Nat.{ℕ, zero-le, zero, suc, ◌+◌, ◌-◌, ◌*◌, ◌^◌, ◌≤◌, ◌<◌}
use native.Mathlib.Nat.{le_trans, le_of_eq, le_of_suc-le-suc, lt_of_lt_of_le, lt_irrefl, zero-lt-suc, mul-one, one-mul, zero-mul, mul_comm, mul_assoc, mul_right_comm, mul_left_comm, mul-mul-mul_comm, suc-mul, mul-le-mul, mul-le-mul_right, mul-pos, le_of_mul-le-mul_right, pow-succ', div-lt_iff_lt-mul}
use native.Mathlib.Omega.{arith}
use borrow.Author.Tests.{ne_eqb}
use lib.Dec.{T, ltb, eqb, leb→le, ltb→lt, lit<, lit≤}
use lib.IntN.{ℤ, pos, negsuc, nat_abs}
use lib.Pow.{pow-add, pow_mono, pow-lt}
use lib.Ieee.{Float, nan, inf, fin, binary32, up, down, unlike, odd, units, round, sum, add, mul, div, lt, le, is_nan, in_float, of_int}
use lib.Ieee.Bits.{is_true}
use lib.Ieee.Exact.{HasValue, round_exact}
use lib.Ieee.Fits.{round_is, down_pos, and_l, and_r}
use lib.Ieee.Order.{round_mono}
use lib.Ieee.Scale.{finite}
use Rattle.quant.specs.Float.{zero32, abs_of, max0_of, half_up, round_of}
use Rattle.quant.specs.Settings.{is_between}
use Rattle.quant.proofs.Compare.{le_test, le_true, level_zero}

abbrev pub Small : ℕ → Float → Type 0
Small k nan = ⊥
Small k (inf s) = ⊥
Small k (fin s m e) = m * up e ≤ 2 ^ k * down e

pub small_finite : (k : ℕ) (x : Float) → Small k x → T (finite x)
small_finite k nan h = h
small_finite k (inf s) h = h
small_finite k (fin s m e) h = tt

pub weaken : (j k : ℕ) (x : Float) → j ≤ k → Small j x → Small k x
weaken j k nan l h = h
weaken j k (inf s) l h = h
weaken j k (fin s m e) l h = le_trans h (mul-le-mul_right (down e) (pow_mono l))

pub small_abs : (k : ℕ) (x : Float) → Small k x → Small k (abs_of x)
small_abs k nan h = h
small_abs k (inf s) h = h
small_abs k (fin s m e) h = h

abs_small : (k : ℕ) (x : Float) → Small k (abs_of x) → Small k x
abs_small k nan h = h
abs_small k (inf s) h = h
abs_small k (fin s m e) h = h

-- ---- rounding: the sign goes through, a result is never a NaN, and a fraction of at most 2 ^ k stays so

abs_odd : (d : ℕ) (s : Bool) (q k l : ℕ) → abs_of (odd d s q k l) ≡ odd d false q k l
unfolding odd
abs_odd d s zero k l = refl
abs_odd d s (suc q) k l = refl

abs_units : (s : Bool) (q k : ℕ) → abs_of (units binary32 s q k) ≡ units binary32 false q k
unfolding units
abs_units s q k = go (ltb (q * 2 ^ k) (2 ^ 277))
  where
    go : (t : Bool) → abs_of (cond t (odd 25 s q k 149) (inf s)) ≡ cond t (odd 25 false q k 149) (inf false)
    go true = abs_odd 25 s q k 149
    go false = refl

pub abs_round : (s : Bool) (a c : ℕ) → abs_of (round binary32 s a c) ≡ round binary32 false a c
abs_round s a c = ap abs_of (round_is binary32 s a c) ∙ abs_units s _ _ ∙ sym (round_is binary32 false a c)

odd_number : (d : ℕ) (s : Bool) (q k l : ℕ) → T (not (is_nan (odd d s q k l)))
unfolding odd is_nan
odd_number d s zero k l = tt
odd_number d s (suc q) k l = tt

units_number : (s : Bool) (q k : ℕ) → T (not (is_nan (units binary32 s q k)))
unfolding units is_nan
units_number s q k = go (ltb (q * 2 ^ k) (2 ^ 277))
  where
    go : (t : Bool) → T (not (is_nan (cond t (odd 25 s q k 149) (inf s))))
    go true = odd_number 25 s q k 149
    go false = tt

round_number : (s : Bool) (a c : ℕ) → T (not (is_nan (round binary32 s a c)))
round_number s a c = subst (λ (x : Float). T (not (is_nan x))) (sym (round_is binary32 s a c)) (units_number s _ _)

-- 2 ^ k is a value
power_value : (k : ℕ) → k ≤ 127 → HasValue (round binary32 false (2 ^ k) 1) false (2 ^ k) 1
power_value k h =
    round_exact binary32 false (2 ^ k) 1 1 (k + 149) (zero-lt-suc 0) (lit< tt)
    (subst (λ (x : ℕ). x < 2 ^ 277) (sym (one-mul (2 ^ (k + 149)))) (pow-lt (let l : k + 149 < 277 = omega arith in l)))
    (sym (pow-add 2 k 149) ∙ sym (one-mul (2 ^ (k + 149))) ∙ sym (mul-one (1 * 2 ^ (k + 149))))

-- what is at most a value of 2 ^ k, without a sign
under_power : (k : ℕ) (x y : Float) → T (le (abs_of x) y) → HasValue y false (2 ^ k) 1 → Small k (abs_of x)
unfolding le
under_power k nan y l v = l
under_power k (inf s) nan l v = absurd v
under_power k (inf s) (inf t) l v = absurd v
under_power k (inf s) (fin t n d) l v = l
under_power k (fin s m e) nan l v = absurd v
under_power k (fin s m e) (inf t) l v = absurd v
under_power k (fin s m e) (fin true n d) l v = absurd (true≢false v.0)
under_power k (fin s m e) (fin false n d) l v =
    le_of_mul-le-mul_right
    (le_trans (le_true (m * up e * down d) (n * up d * down e) (is_true _ l))
    (le_of_eq (ap (λ (z : ℕ). z * down e) (sym (mul-one (n * up d)) ∙ v.1) ∙ mul_right_comm (2 ^ k) (down d) (down e))))
    (down_pos d)

pub round_small : (s : Bool) (k a c : ℕ) → k ≤ 127 → 0 < c → a ≤ 2 ^ k * c → Small k (round binary32 s a c)
round_small s k a c h C l =
    abs_small k (round binary32 s a c)
    (under_power k (round binary32 s a c) (round binary32 false (2 ^ k) 1)
    (subst (λ (x : Float). T (le x (round binary32 false (2 ^ k) 1))) (sym (abs_round s a c))
    (round_mono binary32 a c (2 ^ k) 1 C (zero-lt-suc 0) (subst (λ (z : ℕ). z ≤ 2 ^ k * c) (sym (mul-one a)) l)))
    (power_value k h))

-- ---- the operations

pub mul_small : (j k : ℕ) (x y : Float) → j + k ≤ 127 → Small j x → Small k y → Small (j + k) (mul binary32 x y)
unfolding mul
mul_small j k nan y l h g = h
mul_small j k (inf s) y l h g = absurd h
mul_small j k (fin s m e) nan l h g = g
mul_small j k (fin s m e) (inf t) l h g = absurd g
mul_small j k (fin s m e) (fin t n d) l h g =
    round_small (unlike s t) (j + k) (m * up e * (n * up d)) (down e * down d) l (mul-pos (down_pos e) (down_pos d))
    (le_trans (mul-le-mul h g) (le_of_eq (mul-mul-mul_comm (2 ^ j) (down e) (2 ^ k) (down d) ∙ ap (λ (z : ℕ). z * (down e * down d)) (sym (pow-add 2 j k)))))

-- by a whole number that is not 0
pub div_small : (k n : ℕ) (x : Float) → k ≤ 127 → 1 ≤ n → Small k x → (y : Float) → HasValue y false n 1 → Small k (div binary32 x y)
unfolding div
div_small k n nan l p h y v = absurd h
div_small k n (inf s) l p h y v = absurd h
div_small k n (fin s m e) l p h nan v = absurd v
div_small k n (fin s m e) l p h (inf t) v = absurd v
div_small k n (fin s m e) l p h (fin t i d) v =
    let big : down d ≤ i * up d = le_trans (le_of_eq (sym (one-mul (down d)))) (le_trans (mul-le-mul_right (down d) p) (le_of_eq (sym v.1 ∙ mul-one (i * up d)))) in
    let some : 0 < i * up d = lt_of_lt_of_le (down_pos d) big in
    rw (ne_eqb i 0 (λ z. lt_irrefl 0 (subst (λ (w : ℕ). 0 < w) (ap (λ (w : ℕ). w * up d) z ∙ zero-mul (up d)) some)))
    (round_small (unlike s t) k (m * up e * down d) (i * up d * down e) l (mul-pos some (down_pos e))
    (le_trans (mul-le-mul h big) (le_of_eq (mul_assoc (2 ^ k) (down e) (i * up d) ∙ ap (λ (z : ℕ). 2 ^ k * z) (mul_comm (down e) (i * up d))))))

pub add_small : (k : ℕ) (x y : Float) → suc k ≤ 127 → Small k x → Small k y → Small (suc k) (add binary32 x y)
unfolding add sum
add_small k nan y l h g = absurd h
add_small k (inf s) y l h g = absurd h
add_small k (fin s m e) nan l h g = g
add_small k (fin s m e) (inf t) l h g = absurd g
add_small k (fin s m e) (fin t n d) l h g =
    let A = m * up e * down d in
    let B = n * up d * down e in
    let c = down e * down d in
    let C = mul-pos (down_pos e) (down_pos d) in
    let a : A ≤ 2 ^ k * c = le_trans (mul-le-mul_right (down d) h) (le_of_eq (mul_assoc (2 ^ k) (down e) (down d))) in
    let b : B ≤ 2 ^ k * c = le_trans (mul-le-mul_right (down e) g) (le_of_eq (mul_assoc (2 ^ k) (down d) (down e) ∙ ap (λ (z : ℕ). 2 ^ k * z) (mul_comm (down d) (down e)))) in
    let both : A + B ≤ 2 ^ suc k * c = omega (arith, a, b, mul_assoc 2 (2 ^ k) c, ap (λ (z : ℕ). z * c) (pow-succ' 2 k)) in
    pick (beq s t) (ltb A B) _ _ _
    (round_small s (suc k) (A + B) c l C both)
    (round_small t (suc k) (B - A) c l C (omega arith))
    (round_small (s && ltb B A) (suc k) (A - B) c l C (omega arith))
  where
    pick : (p q : Bool) (x y z : Float) → Small (suc k) x → Small (suc k) y → Small (suc k) z → Small (suc k) (cond p x (cond q y z))
    pick true q x y z a b c = a
    pick false true x y z a b c = b
    pick false false x y z a b c = c

pub int_small : (k : ℕ) (z : ℤ) → k ≤ 127 → nat_abs z ≤ 2 ^ k → Small k (of_int binary32 z)
unfolding of_int
int_small k (pos n) l h = round_small false k n 1 l (zero-lt-suc 0) (subst (λ (x : ℕ). n ≤ x) (sym (mul-one (2 ^ k))) h)
int_small k (negsuc n) l h = round_small true k (suc n) 1 l (zero-lt-suc 0) (subst (λ (x : ℕ). suc n ≤ x) (sym (mul-one (2 ^ k))) h)

-- a whole number that an f32 counts is one
pub int_finite : (z : ℤ) → T (in_float binary32 z) → T (finite (of_int binary32 z))
unfolding in_float
int_finite (pos n) t = small_finite 24 (of_int binary32 (pos n)) (int_small 24 (pos n) (lit≤ tt) (leb→le n (2 ^ 24) t))
int_finite (negsuc n) t = small_finite 24 (of_int binary32 (negsuc n)) (int_small 24 (negsuc n) (lit≤ tt) (ltb→lt n (2 ^ 24) t))

pub round_of_small : (k : ℕ) (x : Float) → k ≤ 127 → Small k x → Small k (round_of x)
unfolding round_of
round_of_small k nan l h = h
round_of_small k (inf s) l h = h
round_of_small k (fin s m e) l h =
    let a = m * up e in
    let c = down e in
    let n = (div-lt_iff_lt-mul {k = 2 * c} {x = 2 * a + c} {y = suc (2 ^ k)} (mul-pos (zero-lt-suc 1) (down_pos e))).1
    (omega (arith, down_pos e, suc-mul (2 ^ k) (2 * c), mul_left_comm (2 ^ k) 2 c)) in
    int_small k (pos (half_up a c)) l (le_of_suc-le-suc n)

pub max_small : (k : ℕ) (x : Float) → Small k x → Small k (max0_of x)
unfolding max0_of
max_small k x h = go (lt zero32 x)
  where
    go : (t : Bool) → Small k (cond t x zero32)
    go true = h
    go false = subst (λ (z : ℕ). z ≤ 2 ^ k * 1) (sym (zero-mul 1)) zero-le

-- ---- a range: from l * 2 ^ d to n * 2 ^ g, which are not negative

pub range_small : (l : ℕ) (d : ℤ) (n : ℕ) (g : ℤ) (k : ℕ) (x : Float) → n * up g ≤ 2 ^ k * down g → T (is_between (fin false l d) (fin false n g) x) → Small k x
unfolding le
range_small l d n g k nan h t = and_l false (le nan (fin false n g)) t
range_small l d n g k (inf true) h t = and_l false (le (inf true) (fin false n g)) t
range_small l d n g k (inf false) h t = and_r true false t
range_small l d n g k (fin true m e) h t =
    let A = l * up d * down e in
    let B = m * up e * down d in
    let P = m * up e * down g in
    let Q = n * up g * down e in
    let none : B ≡ 0 = (level_zero A B (is_true _ (and_l (eqb A B && (false || eqb A 0)) (ltb 0 (P + Q) || (eqb P Q && (false || eqb P 0))) t))).1 in
    le_of_mul-le-mul_right (subst (λ (z : ℕ). z ≤ 2 ^ k * down e * down d) (sym none) zero-le) (down_pos d)
range_small l d n g k (fin false m e) h t =
    let P = m * up e * down g in
    let Q = n * up g * down e in
    le_of_mul-le-mul_right
    (le_trans (le_true P Q (is_true _ (and_r (le_test (l * up d * down e) (m * up e * down d)) (le_test P Q) t)))
    (le_trans (mul-le-mul_right (down e) h) (le_of_eq (mul_right_comm (2 ^ k) (down g) (down e)))))
    (down_pos g)

-- ---- a product of two finite values is no NaN

pub product_number : (x y : Float) → T (finite x) → T (finite y) → T (not (is_nan (mul binary32 x y)))
unfolding mul
product_number nan y f g = absurd f
product_number (inf s) y f g = absurd f
product_number (fin s m e) nan f g = absurd g
product_number (fin s m e) (inf t) f g = absurd g
product_number (fin s m e) (fin t n d) f g = round_number (unlike s t) (m * up e * (n * up d)) (down e * down d)
