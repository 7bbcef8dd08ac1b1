-- The pattern of a value from 1 to 2 ^ 23, with half of the ones' place added and the fraction cut off, is that of the nearest whole number. Assumes nothing.
use mathlib.Core.Path.{◌≡◌, refl, sym, ap, ◌∙◌, subst}
use mathlib.Core.Logic.{⊎_elim}
use mathlib.Core.Bool.{Bool, true, false, not, cond, true≢false}
use Prim.Native.Nat.{ℕ, suc, ◌+◌, ◌-◌, ◌*◌, ◌/◌, ◌%◌, ◌^◌, ◌≤◌, ◌<◌}
use native.Mathlib.Nat.{zero-lt-suc, mul-one, one-mul, mul_assoc, add-mul, mul-le-mul, mul-le-mul_left, mul-le-mul_right, mul-add-mod_self_right, mul-div-mul_left, div-lt_iff_lt-mul, le-div_iff_mul-le, div-add-mod', pow-succ', lt_of_lt_of_le, le_trans, eq-or-lt_of_le, not-le_of_lt, lt_of_not-le, le_of_suc-le-suc}
use native.Mathlib.Omega.{arith}
use borrow.Author.Tests.{leb-false}
use lib.Dec.{T, lit≤}
use lib.IntN.{pos}
use lib.Pow.{pow-add, pow_pos, pow_mono, shl_lt}
use lib.Ieee.{Float, nan, inf, fin, binary32, lt, le, fits, is_nan, of_int, of_bits, to_bits, nan_bits}
use lib.Ieee.Back.{whole_unique}
use lib.Ieee.Bits.{of_bits-to_bits, of_bits-fits, nan_bits_is}
use lib.Ieee.Exact.{HasValue}
use lib.Ieee.Fits.{of_int-fits}
use lib.Ieee.Scale.{finite}
use Rattle.laws.proofs.Machine.{one_shl}
use Rattle.quant.specs.Float.{one32, half32, has_no_sign, negative, half_up, round_of}
use Rattle.quant.proofs.Compare.{reaches, falls_short, not_below}
use Rattle.quant.proofs.Pattern.{sign_bit, field, digits, normal, subnormal, finite_field}
use Rattle.quant.proofs.Rounding.{no_sign_no_nan, below_one, round_at, cancel, int_value}

-- what the code computes: the ones' place, and the pattern
abbrev pub ones : ℕ → ℕ
ones b = (1 * 2 ^ (150 - field b)) % 4294967296

abbrev pub up : ℕ → ℕ
up b = b + ones b / 2

abbrev pub cut : ℕ → ℕ
cut b = up b - up b % ones b

no_nan : (x : Float) (s : Bool) (a c : ℕ) → HasValue x s a c → T (not (is_nan x))
unfolding is_nan
no_nan nan s a c v = absurd v
no_nan (inf t) s a c v = absurd v
no_nan (fin t m e) s a c v = tt

-- ---- j is one less than the number of the fraction's digits, h half of the ones' place and q the number of ones in 2 ^ 23

module _ (b : ℕ) (lo : 127 ≤ field b) (hi : field b ≤ 149) where
  abbrev j : ℕ
  j = 149 - field b

  abbrev h : ℕ
  h = 2 ^ j

  abbrev u : ℕ
  u = 2 * h

  abbrev q : ℕ
  q = 2 ^ (22 - j)

  h_pos : 0 < h
  h_pos = pow_pos j

  ones_is : ones b ≡ u
  ones_is =
      let e : 150 - field b ≡ suc j = omega arith in
      ap (λ (k : ℕ). (1 * 2 ^ k) % 4294967296) e
      ∙ one_shl 32 (suc j) (omega arith)
      ∙ pow-succ' 2 j

  up_is : up b ≡ b + h
  up_is = ap (λ (x : ℕ). b + x / 2) ones_is ∙ (let e : 2 * h / 2 ≡ h = omega arith in ap (λ (x : ℕ). b + x) e)

  -- 2 ^ 23 is q ones
  whole_ones : q * u ≡ 8388608
  whole_ones =
      ap (λ (x : ℕ). q * x) (sym (pow-succ' 2 j)) ∙ sym (pow-add 2 (22 - j) (suc j))
      ∙ ap (λ (k : ℕ). 2 ^ k) (let e : 22 - j + suc j ≡ 23 = omega arith in e)

  -- the digits with h added, the whole number in them, and what its ones come to
  abbrev s : ℕ
  s = digits b + h

  abbrev w : ℕ
  w = s / u

  w_low : q ≤ w
  w_low = (le-div_iff_mul-le {k = u} {x = q} {y = s} (omega (arith, h_pos))).1 (omega (arith, whole_ones))

  w_high : w < 2 * q + 1
  w_high =
      (div-lt_iff_lt-mul {k = u} {x = s} {y = 2 * q + 1} (omega (arith, h_pos))).1
      (omega (arith, h_pos, whole_ones, add-mul (2 * q) 1 u, mul_assoc 2 q u, one-mul u))

  low : 8388608 ≤ w * u
  low = omega (arith, mul-le-mul_right u w_low, whole_ones)

  high : w * u ≤ 16777216
  high = let l : w ≤ 2 * q = omega (arith, w_high) in omega (arith, mul-le-mul_right u l, whole_ones, mul_assoc 2 q u)

  -- ---- the pattern: the fields below it, and w ones

  abbrev base : ℕ
  base = (field b - 1) * 8388608

  base_ones : base ≡ (field b - 1) * q * u
  base_ones = ap (λ (x : ℕ). (field b - 1) * x) (sym whole_ones) ∙ sym (mul_assoc (field b - 1) q u)

  up_split : up b ≡ base + s
  up_split = up_is ∙ (let e : b + h ≡ base + s = omega arith in e)

  cut_is : cut b ≡ base + w * u
  cut_is =
      ap (λ (x : ℕ). x - x % ones b) up_split
      ∙ ap (λ (x : ℕ). base + s - (base + s) % x) ones_is
      ∙ ap (λ (x : ℕ). base + s - x) (ap (λ (x : ℕ). (x + s) % u) base_ones ∙ mul-add-mod_self_right ((field b - 1) * q) u s)
      ∙ (let e : base + s - s % u ≡ base + w * u = omega (arith, div-add-mod' s u) in e)

  -- 2 ^ 149 is that many ones of the lowest place
  abbrev p : ℕ
  p = 2 ^ (field b - 1)

  ones_p : u * p ≡ 2 ^ 149
  ones_p =
      ap (λ (x : ℕ). x * p) (sym (pow-succ' 2 j)) ∙ sym (pow-add 2 (suc j) (field b - 1))
      ∙ ap (λ (k : ℕ). 2 ^ k) (let e : suc j + (field b - 1) ≡ 149 = omega arith in e)

  cut_value : HasValue (of_bits binary32 (cut b)) false (w * u * p) (2 ^ 149)
  cut_value =
      ⊎_elim
      (λ e.
      let f : field (cut b) ≡ suc (field b) = omega (arith, cut_is) in
      let d : digits (cut b) ≡ 8388608 = omega (arith, cut_is) in
      let r : field b ≡ suc (field b - 1) = omega arith in
      subst (λ (x : ℕ). HasValue (of_bits binary32 (cut b)) false x (2 ^ 149))
      (ap (λ (x : ℕ). x * 2 ^ (field (cut b) - 1)) d
      ∙ ap (λ (k : ℕ). 8388608 * 2 ^ k) (let g : field (cut b) - 1 ≡ suc (field b - 1) = omega arith in g)
      ∙ ap (λ (x : ℕ). 8388608 * x) (pow-succ' 2 (field b - 1))
      ∙ sym (mul_assoc 8388608 2 p)
      ∙ ap (λ (x : ℕ). x * p) (sym e))
      (normal (cut b) (omega arith) (omega arith)))
      (λ l.
      let f : field (cut b) ≡ field b = omega (arith, cut_is, low) in
      let d : digits (cut b) ≡ w * u = omega (arith, cut_is, low) in
      subst (λ (x : ℕ). HasValue (of_bits binary32 (cut b)) false x (2 ^ 149))
      (ap (λ (x : ℕ). x * 2 ^ (field (cut b) - 1)) d ∙ ap (λ (k : ℕ). w * u * 2 ^ (k - 1)) f)
      (normal (cut b) (omega arith) (omega arith)))
      (eq-or-lt_of_le high)

  cut_whole : HasValue (of_bits binary32 (cut b)) false w 1
  cut_whole =
      cancel (of_bits binary32 (cut b)) false w 1 (u * p) (subst (λ (x : ℕ). 0 < x) (sym ones_p) (pow_pos 149))
      (subst (λ (x : ℕ). HasValue (of_bits binary32 (cut b)) false x (1 * (u * p))) (mul_assoc w u p)
      (subst (λ (x : ℕ). HasValue (of_bits binary32 (cut b)) false (w * u * p) x) (sym (one-mul (u * p) ∙ ones_p)) cut_value))

  -- ---- and what `round_of` gives

  own_value : HasValue (of_bits binary32 b) false (digits b) u
  own_value =
      cancel (of_bits binary32 b) false (digits b) u p (pow_pos (field b - 1))
      (subst (λ (x : ℕ). HasValue (of_bits binary32 b) false (digits b * p) x) (sym ones_p) (normal b (omega arith) (omega arith)))

  half_is : half_up (digits b) u ≡ w
  half_is =
      (let e : 2 * digits b + u ≡ 2 * s = omega arith in ap (λ (x : ℕ). x / (2 * u)) e)
      ∙ mul-div-mul_left s u (zero-lt-suc 1)

  w_small : w ≤ 2 ^ 24
  w_small = le_trans (subst (λ (x : ℕ). x ≤ w * u) (mul-one w) (let l : 1 ≤ u = omega (arith, h_pos) in mul-le-mul_left w l)) high

  cut_round : of_bits binary32 (cut b) ≡ round_of (of_bits binary32 b)
  cut_round =
      whole_unique binary32 (of_bits binary32 (cut b)) (of_int binary32 (pos w)) false w (of_bits-fits binary32 (cut b)) (of_int-fits binary32 (pos w)) cut_whole
      (int_value w w_small)
      ∙ sym (round_at (of_bits binary32 b) (digits b) u (omega (arith, h_pos)) own_value ∙ ap (λ (n : ℕ). of_int binary32 (pos n)) half_is)

  ones_pos : 0 < ones b
  ones_pos = omega (arith, ones_is, h_pos)

  up_fits : up b < 2 ^ 32
  up_fits = omega (arith, up_is, pow_mono {i = j} {j = 22} (omega arith))

  cut_no_nan : T (not (is_nan (of_bits binary32 (cut b))))
  cut_no_nan = no_nan (of_bits binary32 (cut b)) false w 1 cut_whole

-- ---- a value from 1 to 2 ^ 23

no_sign_clear : (y : Float) → T (has_no_sign y) → negative y ≡ false
no_sign_clear nan p = refl
no_sign_clear (inf true) p = absurd p
no_sign_clear (inf false) p = refl
no_sign_clear (fin true m e) p = absurd p
no_sign_clear (fin false m e) p = refl

finite_below : (y : Float) → T (has_no_sign y) → le (fin false 1 (pos 23)) y ≡ false → T (finite y)
unfolding le
finite_below nan p h = p
finite_below (inf true) p h = p
finite_below (inf false) p h = true≢false h
finite_below (fin s m e) p h = tt

module _ (y : Float) (f : T (fits binary32 y)) (p : T (has_no_sign y)) (lo : le one32 y ≡ true) (hi : le (fin false 1 (pos 23)) y ≡ false) where
  abbrev b : ℕ
  b = to_bits binary32 y

  is : of_bits binary32 b ≡ y
  is = of_bits-to_bits binary32 y f

  clear_bit : b < 2147483648
  clear_bit = leb-false 2147483648 b (sign_bit y f (no_sign_no_nan y p) ∙ no_sign_clear y p)

  under_top : field b < 255
  under_top = finite_field b clear_bit (subst (λ (x : Float). T (finite x)) (sym is) (finite_below y p hi))

  valued : (a c : ℕ) → HasValue (of_bits binary32 b) false a c → HasValue y false a c
  valued a c v = subst (λ (x : Float). HasValue x false a c) is v

  some : 1 ≤ field b
  some =
      lt_of_not-le (λ n.
      let l : b < 8388608 = omega arith in
      let r = reaches 0 (b * 1) (2 ^ 149) (pow_pos 149) y (valued (b * 1) (2 ^ 149) (subnormal b l)) lo in
      not-le_of_lt (lt_of_lt_of_le (let k : b * 1 < 2 ^ 23 = omega arith in k) (lit≤ tt)) r)

  abbrev a : ℕ
  a = digits b * 2 ^ (field b - 1)

  own : HasValue y false a (2 ^ 149)
  own = valued a (2 ^ 149) (normal b some under_top)

  low_field : 127 ≤ field b
  low_field =
      lt_of_not-le (λ n.
      let d : digits b < 2 ^ 24 = omega arith in
      let k : 24 + (field b - 1) ≤ 149 = omega (arith, some) in
      not-le_of_lt (lt_of_lt_of_le (shl_lt 24 (field b - 1) d) (pow_mono k)) (reaches 0 a (2 ^ 149) (pow_pos 149) y own lo))

  high_field : field b ≤ 149
  high_field =
      le_of_suc-le-suc (lt_of_not-le (λ n.
      let d : 2 ^ 23 ≤ digits b = omega arith in
      let k : 149 ≤ field b - 1 = omega arith in
      not-le_of_lt (falls_short 23 a (2 ^ 149) (pow_pos 149) y own hi) (mul-le-mul d (pow_mono k))))

  cut_is_round : of_bits binary32 (cut b) ≡ round_of y
  cut_is_round = cut_round b low_field high_field ∙ ap round_of is

-- ---- a value from 0.5 to 2 ^ 23, raised to 1 where it is below

pub record Raised (x y : Float) : Type 0 where
  pub held : T (fits binary32 y)
  pub no_sign : T (has_no_sign y)
  pub from_one : le one32 y ≡ true
  pub below_top : le (fin false 1 (pos 23)) y ≡ false
  pub same : round_of y ≡ round_of x

pub raised : (x : Float) → T (fits binary32 x) → T (has_no_sign x) → lt x half32 ≡ false → le (fin false 1 (pos 23)) x ≡ false → Raised x (cond (lt x one32) one32 x)
unfolding fits le
raised x f p lo hi = go (lt x one32) refl
  where
    go : (t : Bool) → lt x one32 ≡ t → Raised x (cond t one32 x)
    go true e = record { held = tt; no_sign = tt; from_one = refl; below_top = refl; same = below_one x p lo e }
    go false e = record { held = f; no_sign = p; from_one = not_below 0 x p e; below_top = hi; same = refl }

-- what the code's steps ask of the pattern b of a raised value y, and what they come to
pub record Cutting (x : Float) (b : ℕ) : Type 0 where
  pub from : 127 ≤ field b
  pub to : field b ≤ 149
  pub some : 0 < ones b
  pub room : up b < 2 ^ 32
  pub number : T (not (nan_bits binary32 (cut b)))
  pub rounds : of_bits binary32 (cut b) ≡ round_of x

pub cutting : {x y : Float} → Raised x y → Cutting x (to_bits binary32 y)
cutting {x} {y} r =
    let lo = low_field y r.held r.no_sign r.from_one r.below_top in
    let hi = high_field y r.held r.no_sign r.from_one r.below_top in
    let b = to_bits binary32 y in
    record {
      from = lo;
      to = hi;
      some = ones_pos b lo hi;
      room = up_fits b lo hi;
      number = subst (λ (t : Bool). T (not t)) (sym (nan_bits_is binary32 (cut b))) (cut_no_nan b lo hi);
      rounds = cut_is_round y r.held r.no_sign r.from_one r.below_top ∙ r.same;
    }
