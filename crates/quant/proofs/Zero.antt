-- Sums that are not above zero, and products with zero. Assumes nothing.
use mathlib.Core.Path.{◌≡◌, refl, sym, ap, ◌∙◌, subst}
use mathlib.Core.Bool.{Bool, true, false, not, ◌&&◌, ◌||◌, cond}
use Prim.Native.Nat.{ℕ, zero-le, ◌+◌, ◌-◌, ◌*◌, ◌^◌, ◌≤◌, ◌<◌}
use native.Mathlib.Nat.{zero-mul, zero-lt-suc, mul-pos, one-mul}
use native.Mathlib.Omega.{arith}
use borrow.Author.Tests.{ltb-false, le-ltb}
use lib.Dec.{T, ltb, eqb}
use lib.IntN.{pos}
use lib.Ieee.{Float, nan, inf, fin, binary32, up, down, odd, units, round, sum, add, sub, neg, mul, div, of_int, unlike, lt, le}
use lib.Ieee.Bits.{is_true}
use lib.Ieee.Fits.{round_is, down_pos, and_l, and_r}
use lib.Ieee.Scale.{round_same, finite}
use Rattle.quant.specs.Float.{zero32, half32, negative, max0_of, round_of}
use Rattle.quant.specs.Level.{inverse_of, product_of, whole_of}
use Rattle.quant.specs.Settings.{factor_ok, dead_zone_ok}
use Rattle.quant.specs.declared.Settings.{Settings}
use Rattle.quant.proofs.Compare.{le_test, le_true, level_zero}
use Rattle.quant.proofs.Pattern.{odd_negative}

-- x is not above zero
abbrev pub Under : Float → Type 0
Under x = lt zero32 x ≡ false

round_zero : (s : Bool) (c : ℕ) → 0 < c → round binary32 s 0 c ≡ fin s 0 (pos 0)
unfolding round
round_zero s c C = round_same binary32 s 0 c 0 1 C (zero-lt-suc 0) (sym (zero-mul c))

negative_under : (x : Float) → negative x ≡ true → Under x
unfolding lt
negative_under nan e = refl
negative_under (inf s) e = ap not e
negative_under (fin s m n) e = ap (λ (t : Bool). lt zero32 (fin t m n)) e

units_negative : (s : Bool) (q k : ℕ) → negative (units binary32 s q k) ≡ s
unfolding units
units_negative s q k = go (ltb (q * 2 ^ k) (2 ^ 277))
  where
    go : (t : Bool) → negative (cond t (odd 25 s q k 149) (inf s)) ≡ s
    go true = odd_negative 25 s q k 149
    go false = refl

pub round_negative : (s : Bool) (a c : ℕ) → negative (round binary32 s a c) ≡ s
round_negative s a c = ap negative (round_is binary32 s a c) ∙ units_negative s _ _

-- the sum of ±a and ±b is not above zero
abbrev NotAbove : Bool → ℕ → Bool → ℕ → Type 0
NotAbove true a true b = 0 ≤ 0
NotAbove true a false b = b ≤ a
NotAbove false a true b = a ≤ b
NotAbove false a false b = a + b ≡ 0

down_round : (a c : ℕ) → Under (round binary32 true a c)
down_round a c = negative_under (round binary32 true a c) (round_negative true a c)

zero_round : (a c : ℕ) → 0 < c → a ≡ 0 → Under (round binary32 false a c)
unfolding lt
zero_round a c C e = ap (λ (n : ℕ). lt zero32 (round binary32 false n c)) e ∙ ap (lt zero32) (round_zero false c C)

sum_under : (s : Bool) (a : ℕ) (t : Bool) (b c : ℕ) → 0 < c → NotAbove s a t b → Under (sum binary32 s a t b c)
unfolding sum
sum_under true a true b c C h = down_round (a + b) c
sum_under true a false b c C h = rw (le-ltb a b h) (go (ltb b a) (ltb-false b a))
  where
    go : (t : Bool) → (t ≡ false → a ≤ b) → Under (round binary32 t (a - b) c)
    go true f = down_round (a - b) c
    go false f = let l = f refl in zero_round (a - b) c C (omega arith)
sum_under false a true b c C h = go (ltb a b) (ltb-false a b)
  where
    go : (t : Bool) → (t ≡ false → b ≤ a) → Under (cond t (round binary32 true (b - a) c) (round binary32 false (a - b) c))
    go true f = down_round (b - a) c
    go false f = let l = f refl in zero_round (a - b) c C (omega arith)
sum_under false a false b c C h = zero_round (a + b) c C h

-- ---- the dead zone less 0.5, and that as it is added to +0.0

pub bias_under : (x : Float) → T (dead_zone_ok x) → Under (sub binary32 x half32)
unfolding sub neg add le lt
bias_under nan t = refl
bias_under (inf true) t = refl
bias_under (inf false) t = absurd (and_r true false t)
bias_under (fin true m e) t = sum_under true (m * up e * 2) true (1 * down e) (down e * 2) (mul-pos (down_pos e) (zero-lt-suc 1)) zero-le
bias_under (fin false m e) t =
    sum_under false (m * up e * 2) true (1 * down e) (down e * 2) (mul-pos (down_pos e) (zero-lt-suc 1))
    (le_true (m * up e * 2) (1 * down e) (is_true _ (and_r (le_test (0 * down e) (m * up e * 1)) (le_test (m * up e * 2) (1 * down e)) t)))

pub from_zero_under : (y : Float) → T (finite y) → Under y → Under (add binary32 zero32 y)
unfolding add lt
from_zero_under nan f h = absurd f
from_zero_under (inf s) f h = absurd f
from_zero_under (fin true n d) f h =
    sum_under false (0 * down d) true (n * up d * 1) (1 * down d) (mul-pos (zero-lt-suc 0) (down_pos d)) (subst (λ (z : ℕ). z ≤ n * up d * 1) (sym (zero-mul (down d))) zero-le)
from_zero_under (fin false n d) f h =
    sum_under false (0 * down d) false (n * up d * 1) (1 * down d) (mul-pos (zero-lt-suc 0) (down_pos d))
    (omega (arith, zero-mul (down d), ltb-false (0 * down d) (n * up d * 1) h))

-- ---- the zero coefficient

pub zero_whole : (bias : Float) → T (finite bias) → Under bias → whole_of bias zero32 ≡ zero32
unfolding max0_of round_of mul of_int
zero_whole bias f h = ap (λ (t : Bool). mul binary32 (fin false 1 (pos 0)) (round_of (cond t (add binary32 zero32 bias) zero32))) (from_zero_under bias f h)

pub zero_product : (y : Float) → T (finite y) → negative y ≡ false → product_of y (pos 0) ≡ zero32
unfolding mul of_int
zero_product nan f p = absurd f
zero_product (inf s) f p = absurd f
zero_product (fin t n d) f p =
    ap (λ (a : ℕ). round binary32 (unlike false t) a (1 * down d)) (zero-mul (n * up d))
    ∙ round_zero (unlike false t) (1 * down d) (mul-pos (zero-lt-suc 0) (down_pos d))
    ∙ ap (λ (u : Bool). fin (unlike false u) 0 (pos 0)) p

-- ---- the inverse has no sign

factor_sign : (x : Float) → T (factor_ok x) → negative x ≡ false
unfolding le
factor_sign nan t = refl
factor_sign (inf true) t = absurd (and_l false (le (inf true) (fin false 1 (pos 10))) t)
factor_sign (inf false) t = refl
factor_sign (fin true m e) t =
    let A = 1 * down e in
    let B = m * up e * 2 ^ 10 in
    let none : A ≡ 0 = (level_zero A B (is_true _ (and_l (eqb A B && (false || eqb A 0)) (le (fin true m e) (fin false 1 (pos 10))) t))).0 in
    absurd (omega (arith, down_pos e, one-mul (down e)))
factor_sign (fin false m e) t = refl

unlike_false : (s t : Bool) → s ≡ false → t ≡ false → unlike s t ≡ false
unlike_false s t e f = rw (e, f)

int_sign : (n : ℕ) → negative (of_int binary32 (pos n)) ≡ false
unfolding of_int
int_sign n = round_negative false n 1

quotient : (x y : Float) → negative x ≡ false → negative y ≡ false → negative (div binary32 x y) ≡ false
unfolding div
quotient nan y e f = refl
quotient (inf s) nan e f = refl
quotient (inf s) (inf t) e f = refl
quotient (inf s) (fin t n d) e f = unlike_false s t e f
quotient (fin s m k) nan e f = refl
quotient (fin s m k) (inf t) e f = unlike_false s t e f
quotient (fin s m k) (fin t n d) e f = go (eqb n 0) (eqb m 0)
  where
    go : (a b : Bool) → negative (cond a (cond b nan (inf (unlike s t))) (round binary32 (unlike s t) (m * up k * down d) (n * up d * down k))) ≡ false
    go true true = refl
    go true false = unlike_false s t e f
    go false b = round_negative (unlike s t) (m * up k * down d) (n * up d * down k) ∙ unlike_false s t e f

pub inverse_sign : (s : Settings) (step : ℕ) → T (factor_ok s.factor) → negative (inverse_of s step) ≡ false
inverse_sign s step t = quotient s.factor (of_int binary32 (pos step)) (factor_sign s.factor t) (int_sign step)
