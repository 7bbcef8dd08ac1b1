-- What is written for a product p, from what the functions on it give. Assumes nothing.
use mathlib.Core.Path.{◌≡◌, refl, sym, ap, ◌∙◌}
use mathlib.Core.Bool.{Bool, true, false, not, cond}
use Prim.Native.Nat.{ℕ}
use lib.Dec.{T}
use lib.IntN.{ℤ, pos}
use lib.Ieee.{Float, nan, inf, fin, neg, binary32, add, mul, le, lt, is_nan}
use lib.Ieee.Scale.{finite}
use Rattle.std.specs.Float.{is_sign_negative}
use Rattle.quant.specs.Float.{zero32, abs_of, sign_of, max0_of, has_no_sign, round_of}
use Rattle.quant.specs.Level.{product_of, whole_of, level_of, magnitude_at, level_at, IsScale, magnitude_by, level_by}
use Rattle.quant.specs.Settings.{coefficient_ok}
use Rattle.quant.proofs.Ranges.{coefficient_size, in_float_lem}
use Rattle.quant.proofs.Small.{int_finite, product_number}
use Rattle.quant.specs.declared.Settings.{Settings}

pub max0_no_sign : (y : Float) → T (has_no_sign (max0_of y))
unfolding max0_of lt
max0_no_sign nan = tt
max0_no_sign (inf true) = tt
max0_no_sign (inf false) = tt
max0_no_sign (fin true m e) = tt
max0_no_sign (fin false m e) = go (lt zero32 (fin false m e))
  where
    go : (b : Bool) → T (has_no_sign (cond b (fin false m e) zero32))
    go true = tt
    go false = tt

module _ (threshold bias p a : Float) (is : a ≡ abs_of p) where
  pub level_kept : (m u g : Float) → le threshold a ≡ true → m ≡ max0_of (add binary32 a bias) → u ≡ round_of m → g ≡ sign_of p → mul binary32 g u ≡ level_of threshold bias p
  unfolding level_of
  level_kept m u g t em eu eg =
      let reached : le threshold (abs_of p) ≡ true = cc in
      let level : mul binary32 g u ≡ whole_of bias p = cc in
      level ∙ sym (ap (λ (b : Bool). cond b (whole_of bias p) zero32) reached)

  pub level_dropped : le threshold a ≡ false → zero32 ≡ level_of threshold bias p
  unfolding level_of
  level_dropped t =
      let short : le threshold (abs_of p) ≡ false = cc in
      sym (ap (λ (b : Bool). cond b (whole_of bias p) zero32) short)

-- 1 with p's sign, by the sign's bit
pub one_signed : (p : Float) (s : Bool) → T (not (is_nan p)) → is_sign_negative p ≡ s → fin s 1 (pos 0) ≡ sign_of p
unfolding is_nan is_sign_negative
one_signed nan s n e = absurd n
one_signed (inf t) s n e = ap (λ (u : Bool). fin u 1 (pos 0)) (sym e)
one_signed (fin t m k) s n e = ap (λ (u : Bool). fin u 1 (pos 0)) (sym e)

-- x without its sign, by the sign's bit
pub turned : (x : Float) → is_sign_negative x ≡ true → neg x ≡ abs_of x
unfolding neg is_sign_negative
turned nan e = refl
turned (inf s) e = ap (λ (t : Bool). inf (not t)) e
turned (fin s m k) e = ap (λ (t : Bool). fin (not t) m k) e

pub unturned : (x : Float) → is_sign_negative x ≡ false → x ≡ abs_of x
unfolding is_sign_negative
unturned nan e = refl
unturned (inf s) e = ap inf e
unturned (fin s m k) e = ap (λ (t : Bool). fin t m k) e

-- the product of a coefficient in range and a finite number is no NaN
pub accepted_number : (inverse : Float) (c : ℤ) → T (finite inverse) → coefficient_ok c ≡ true → T (not (is_nan (product_of inverse c)))
accepted_number inverse c f ok = product_number _ inverse (int_finite c (in_float_lem c (coefficient_size c ok))) f

-- what is written by what settings and step come to
module _ (s : Settings) (step : ℕ) (inverse threshold bias : Float) (is : IsScale s step inverse threshold bias) (c : ℤ) where
  pub scaled_level : level_by inverse threshold bias c ≡ level_at s step c
  unfolding level_at
  scaled_level = rw (is.0, is.1, is.2)

  pub scaled_magnitude : magnitude_by inverse c ≡ magnitude_at s step c
  unfolding magnitude_at
  scaled_magnitude = rw is.0
