-- The bit patterns of binary32: the sign's bit, and the value of a pattern whose sign's bit is clear. Assumes nothing.
use mathlib.Core.Path.{◌≡◌, refl, sym, ap, ◌∙◌, subst}
use mathlib.Core.Bool.{Bool, true, false, not, cond}
use Prim.Native.Nat.{ℕ, zero, suc, ◌+◌, ◌-◌, ◌*◌, ◌/◌, ◌%◌, ◌^◌, ◌≤◌, ◌<◌}
use native.Mathlib.Nat.{mod-eq_of_lt, not-le_of_lt, lt_of_not-le}
use native.Mathlib.Omega.{arith}
use lib.Dec.{T, leb, leb→le, eqb, eqb→eq, not_T}
use lib.Ieee.{Float, nan, inf, binary32, odd, of_fields, of_bits, to_bits, is_nan, fits}
use lib.Ieee.Bits.{is_false, cond_no, of_bits-to_bits}
use lib.Ieee.Exact.{HasValue, odd_sign}
use lib.Ieee.Scale.{finite}
use Rattle.quant.specs.Float.{negative}

-- ---- the sign's bit

of_bits_is : (b : ℕ) → of_bits binary32 b ≡ of_fields binary32 (leb 2147483648 b) (b % 2147483648 / 8388608) (b % 8388608)
unfolding of_bits
of_bits_is b = refl

pub odd_negative : (d : ℕ) (s : Bool) (q k l : ℕ) → negative (odd d s q k l) ≡ s
unfolding odd
odd_negative d s zero k l = refl
odd_negative d s (suc q) k l = refl

pick : (a b s : Bool) (v : Float) → negative v ≡ s → T (not (is_nan (cond a (cond b (inf s) nan) v))) → negative (cond a (cond b (inf s) nan) v) ≡ s
unfolding is_nan
pick true true s v e n = refl
pick true false s v e n = absurd n
pick false b s v e n = e

fields_negative : (s : Bool) (x t : ℕ) → T (not (is_nan (of_fields binary32 s x t))) → negative (of_fields binary32 s x t) ≡ s
unfolding of_fields
fields_negative s zero t n = odd_negative 24 s t 0 149
fields_negative s (suc x) t n = pick (eqb (suc x) 255) (eqb t 0) s (odd 24 s (8388608 + t) x 149) (odd_negative 24 s (8388608 + t) x 149) n

bits_negative : (b : ℕ) → T (not (is_nan (of_bits binary32 b))) → negative (of_bits binary32 b) ≡ leb 2147483648 b
bits_negative b n =
    ap negative (of_bits_is b) ∙ fields_negative (leb 2147483648 b) (b % 2147483648 / 8388608) (b % 8388608) (subst (λ (v : Float). T (not (is_nan v))) (of_bits_is b) n)

-- the sign of a value is the highest bit of its pattern
pub sign_bit : (x : Float) → T (fits binary32 x) → T (not (is_nan x)) → leb 2147483648 (to_bits binary32 x) ≡ negative x
sign_bit x f n =
    let e = of_bits-to_bits binary32 x f in
    sym (bits_negative (to_bits binary32 x) (subst (λ (v : Float). T (not (is_nan v))) (sym e) n)) ∙ ap negative e

-- ---- the value of a pattern with the sign's bit clear

clear : (b : ℕ) → b < 2147483648 → of_bits binary32 b ≡ of_fields binary32 false (b / 8388608) (b % 8388608)
clear b h =
    of_bits_is b
    ∙ ap (λ (s : Bool). of_fields binary32 s (b % 2147483648 / 8388608) (b % 8388608)) (is_false (leb 2147483648 b) (not_T (leb 2147483648 b) (λ (u : T (leb 2147483648 b)). not-le_of_lt h (leb→le 2147483648 b u))))
    ∙ ap (λ (x : ℕ). of_fields binary32 false (x / 8388608) (b % 8388608)) (mod-eq_of_lt h)

differ : (x : ℕ) → suc x < 255 → suc x ≡ 255 → ⊥
differ x h e = omega arith

under_ones : (t x : ℕ) → suc x < 255 → of_fields binary32 false (suc x) t ≡ odd 24 false (8388608 + t) x 149
unfolding of_fields
under_ones t x h =
    cond_no (eqb (suc x) 255) (cond (eqb t 0) (inf false) nan) (odd 24 false (8388608 + t) x 149) (not_T (eqb (suc x) 255) (λ (u : T (eqb (suc x) 255)). differ x h (eqb→eq (suc x) 255 u)))

-- the exponent's field and the digits, the leading one counted
abbrev pub field : ℕ → ℕ
field b = b / 8388608

abbrev pub digits : ℕ → ℕ
digits b = 8388608 + b % 8388608

pub normal : (b : ℕ) → 1 ≤ field b → field b < 255 → HasValue (of_bits binary32 b) false (digits b * 2 ^ (field b - 1)) (2 ^ 149)
normal b h k =
    let e : suc (field b - 1) ≡ field b = omega arith in
    subst (λ (x : Float). HasValue x false (digits b * 2 ^ (field b - 1)) (2 ^ 149))
    (sym (clear b (omega arith) ∙ ap (λ (x : ℕ). of_fields binary32 false x (b % 8388608)) (sym e) ∙ under_ones (b % 8388608) (field b - 1) (omega arith)))
    (odd_sign 24 false (digits b) (field b - 1) 149)

pub subnormal : (b : ℕ) → b < 8388608 → HasValue (of_bits binary32 b) false (b * 2 ^ 0) (2 ^ 149)
unfolding of_fields
subnormal b h =
    let none : field b ≡ 0 = omega arith in
    subst (λ (x : Float). HasValue x false (b * 2 ^ 0) (2 ^ 149))
    (sym (clear b (omega arith) ∙ ap (λ (x : ℕ). of_fields binary32 false x (b % 8388608)) none ∙ ap (λ (t : ℕ). odd 24 false t 0 149) (mod-eq_of_lt h)))
    (odd_sign 24 false b 0 149)

-- the highest field is an infinity's or a NaN's
pub finite_field : (b : ℕ) → b < 2147483648 → T (finite (of_bits binary32 b)) → field b < 255
unfolding of_fields
finite_field b h t =
    lt_of_not-le (λ l.
    let top : field b ≡ 255 = omega arith in
    special (eqb (b % 8388608) 0) (subst (λ (x : Float). T (finite x)) (clear b h ∙ ap (λ (x : ℕ). of_fields binary32 false x (b % 8388608)) top) t))
  where
    special : (z : Bool) → T (finite (cond z (inf false) nan)) → ⊥
    special true t = t
    special false t = t
