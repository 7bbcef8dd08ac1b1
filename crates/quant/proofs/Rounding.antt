-- Rounding to a whole number, half upward, by the value: below 0.5, from 0.5 to 1, and from 2 ^ 23 on. Assumes nothing.
use mathlib.Core.Path.{◌≡◌, refl, sym, ap, ◌∙◌, subst}
use mathlib.Core.Bool.{Bool, true, false, not, ◌&&◌}
use Prim.Native.Nat.{ℕ, zero, suc, ◌+◌, ◌*◌, ◌/◌, ◌%◌, ◌^◌, ◌≤◌, ◌<◌}
use native.Mathlib.Nat.{zero-lt-suc, mul-pos, mul-one, one-mul, zero-mul, mul_comm, mul_assoc, mul_left_comm, mul_right_comm, mul-mul-mul_comm, add-mul, mul-lt-mul_of_pos_right, mul-le-mul_left, div-eq_of_lt, div-lt_iff_lt-mul, le-div_iff_mul-le, eq_of_mul-eq-mul_right}
use native.Mathlib.Omega.{arith}
use borrow.Author.Tests.{ltb-true, ltb-false}
use lib.Dec.{T, ltb, leb, eqb, ltb→lt, lit<}
use lib.IntN.{pos, negsuc}
use lib.Pow.{pow-add, pow_pos, pow_mono}
use lib.Ieee.{Float, nan, inf, fin, binary32, up, down, lt, le, fits, is_nan, of_int}
use lib.Ieee.Back.{whole_unique, round_whole}
use lib.Ieee.Exact.{HasValue, round_exact}
use lib.Ieee.Fits.{down_pos, and_l, and_r, of_int-fits}
use lib.Ieee.Nearest.{div_same}
use Rattle.quant.specs.Float.{zero32, one32, half32, has_no_sign, half_up, round_of}
use Rattle.quant.proofs.Compare.{le_true}

pub no_sign_no_nan : (x : Float) → T (has_no_sign x) → T (not (is_nan x))
unfolding is_nan
no_sign_no_nan nan p = absurd p
no_sign_no_nan (inf s) p = tt
no_sign_no_nan (fin s m e) p = tt

-- ---- `round_of` sees only the value

cross : (N d a c : ℕ) → N * c ≡ a * d → (2 * N + d) * (2 * c) ≡ (2 * a + c) * (2 * d)
cross N d a c h =
    let l : 2 * N * (2 * c) ≡ 2 * 2 * (N * c) = mul-mul-mul_comm 2 N 2 c in
    let r : 2 * a * (2 * d) ≡ 2 * 2 * (a * d) = mul-mul-mul_comm 2 a 2 d in
    omega (arith, add-mul (2 * N) d (2 * c), add-mul (2 * a) c (2 * d), mul_left_comm d 2 c, mul_left_comm c 2 d, mul_comm c d, ap (λ (z : ℕ). 2 * 2 * z) h)

twice_pos : {c : ℕ} → 0 < c → 0 < 2 * c
twice_pos {c} h = mul-pos (zero-lt-suc 1) h

pub round_at : (x : Float) (a c : ℕ) → 0 < c → HasValue x false a c → round_of x ≡ of_int binary32 (pos (half_up a c))
unfolding round_of
round_at nan a c C v = absurd v
round_at (inf s) a c C v = absurd v
round_at (fin s m e) a c C v =
    ap (λ (n : ℕ). of_int binary32 (pos n))
    (div_same (2 * (m * up e) + down e) (2 * down e) (2 * a + c) (2 * c) (twice_pos (down_pos e)) (twice_pos C) (cross (m * up e) (down e) a c v.1))

-- a fraction with a factor p above and below
pub cancel : (x : Float) (s : Bool) (a c p : ℕ) → 0 < p → HasValue x s (a * p) (c * p) → HasValue x s a c
cancel nan s a c p P v = v
cancel (inf t) s a c p P v = v
cancel (fin t m e) s a c p P v = (
  v.0,
  eq_of_mul-eq-mul_right p P (m * up e * c) (a * down e) (mul_assoc (m * up e) c p ∙ v.1 ∙ mul_right_comm a p (down e)),
)

-- ---- below 0.5, and from 0.5 to 1

int_zero : of_int binary32 (pos 0) ≡ zero32
unfolding of_int
int_zero = refl

pub below_half : (x : Float) → T (has_no_sign x) → lt x half32 ≡ true → zero32 ≡ round_of x
unfolding lt round_of
below_half nan p h = absurd p
below_half (inf s) p h = absurd (subst (λ (t : Bool). T (not t)) h p)
below_half (fin true m e) p h = absurd p
below_half (fin false m e) p h =
    let d = down e in
    let small : m * up e * 2 < 1 * d = ltb-true (m * up e * 2) (1 * d) h in
    sym (ap (λ (n : ℕ). of_int binary32 (pos n)) (div-eq_of_lt (omega (arith, one-mul d))) ∙ int_zero)

pub below_one : (x : Float) → T (has_no_sign x) → lt x half32 ≡ false → lt x one32 ≡ true → round_of one32 ≡ round_of x
unfolding lt round_of
below_one nan p h k = absurd p
below_one (inf s) p h k = absurd (subst (λ (t : Bool). T (not t)) k p)
below_one (fin true m e) p h k = absurd p
below_one (fin false m e) p h k =
    let d = down e in
    let low : 1 * d ≤ m * up e * 2 = ltb-false (m * up e * 2) (1 * d) h in
    let high : m * up e * 1 < 1 * d = ltb-true (m * up e * 1) (1 * d) k in
    ap (λ (n : ℕ). of_int binary32 (pos n)) (sym (once (m * up e) d (down_pos e) (omega (arith, one-mul d)) (omega (arith, one-mul d, mul-one (m * up e)))))
  where
    once : (a d : ℕ) → 0 < d → d ≤ 2 * a → a < d → (2 * a + d) / (2 * d) ≡ 1
    once a d P lo hi =
        let under = (div-lt_iff_lt-mul {x = 2 * a + d} {y = 2} (twice_pos P)).1 (omega arith) in
        let over = (le-div_iff_mul-le {x = 1} {y = 2 * a + d} (twice_pos P)).1 (omega arith) in
        omega arith

-- ---- from 2 ^ 23 on a value is whole

-- a whole number of 24 digits is a value
pub int_value : (n : ℕ) → n ≤ 2 ^ 24 → HasValue (of_int binary32 (pos n)) false n 1
unfolding of_int
int_value n h = round_whole binary32 false n h

half_whole : (c : ℕ) → half_up c 1 ≡ c
half_whole c = omega arith

record Sized (m : ℕ) (k : ℕ) : Type 0 where
  digits : m < 2 ^ 24
  size : m * 2 ^ k < 2 ^ 128

sized : (s : Bool) (m k : ℕ) → T (fits binary32 (fin s m (pos k))) → Sized m k
unfolding fits
sized s zero k f = record { digits = lit< tt; size = subst (λ (x : ℕ). x < 2 ^ 128) (sym (zero-mul (2 ^ k))) (lit< tt) }
sized s (suc m) k f =
    let A = eqb (suc m % 2) 1 in
    let B = ltb (suc m) (2 ^ 24) in
    let C = leb 1 (2 ^ 149) in
    let D = ltb (suc m * 2 ^ k) (2 ^ 128) in
    record { digits = ltb→lt (suc m) (2 ^ 24) (and_r A B (and_l (A && B) C (and_l (A && B && C) D f))); size = ltb→lt (suc m * 2 ^ k) (2 ^ 128) (and_r (A && B && C) D f) }

-- a value of no more than 24 digits
whole_value : (c q j : ℕ) → q < 2 ^ 24 → q * 2 ^ j < 2 ^ 277 → c * 2 ^ 149 ≡ q * 2 ^ j → HasValue (of_int binary32 (pos c)) false c 1
unfolding of_int
whole_value c q j a b e = round_exact binary32 false c 1 q j (zero-lt-suc 0) a b (e ∙ sym (mul-one (q * 2 ^ j)))

itself : (m k : ℕ) → T (fits binary32 (fin false m (pos k))) → fin false m (pos k) ≡ round_of (fin false m (pos k))
unfolding round_of
itself m k f =
    let b = sized false m k f in
    let c = m * 2 ^ k in
    let shift : c * 2 ^ 149 ≡ m * 2 ^ (k + 149) = mul_assoc m (2 ^ k) (2 ^ 149) ∙ ap (λ (x : ℕ). m * x) (sym (pow-add 2 k 149)) in
    sym
    (ap (λ (n : ℕ). of_int binary32 (pos n)) (half_whole c)
    ∙ whole_unique binary32 (of_int binary32 (pos c)) (fin false m (pos k)) false c (of_int-fits binary32 (pos c)) f
    (whole_value c m (k + 149) b.digits (subst (λ (x : ℕ). x < 2 ^ 277) shift (mul-lt-mul_of_pos_right b.size (pow_pos 149))) shift)
    (refl, refl))

small_digits : (s : Bool) (m k : ℕ) → T (fits binary32 (fin s m (negsuc k))) → m < 2 ^ 24
unfolding fits
small_digits s zero k f = lit< tt
small_digits s (suc m) k f =
    let A = eqb (suc m % 2) 1 in
    let B = ltb (suc m) (2 ^ 24) in
    let C = leb (2 ^ suc k) (2 ^ 149) in
    let D = ltb (suc m * 1) (2 ^ 128 * 2 ^ suc k) in
    ltb→lt (suc m) (2 ^ 24) (and_r A B (and_l (A && B) C (and_l (A && B && C) D f)))

pub stays : (x : Float) → T (has_no_sign x) → T (fits binary32 x) → le (fin false 1 (pos 23)) x ≡ true → x ≡ round_of x
unfolding le round_of
stays nan p f h = absurd p
stays (inf s) p f h = refl
stays (fin true m e) p f h = absurd p
stays (fin false m (pos k)) p f h = itself m k f
stays (fin false m (negsuc k)) p f h =
    let wide : 2 ^ 23 * 2 ^ 1 ≤ 2 ^ 23 * 2 ^ suc k = mul-le-mul_left (2 ^ 23) (pow_mono {i = 1} {j = suc k} (omega arith)) in
    absurd (omega (arith, le_true (2 ^ 23 * 2 ^ suc k) (m * 1 * 1) h, small_digits false m k f))
