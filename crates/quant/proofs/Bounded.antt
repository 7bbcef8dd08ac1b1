-- How large the numbers on the way to a level are, for settings, a step and a coefficient that are accepted; and what zero becomes. Assumes nothing.
use mathlib.Core.Path.{◌≡◌, refl, ap, ◌∙◌}
use mathlib.Core.Bool.{Bool, true, false, cond}
use Prim.Native.Nat.{ℕ}
use native.Mathlib.Nat.{le_trans}
use lib.Dec.{T, lit≤}
use lib.IntN.{ℤ, pos, negsuc}
use lib.Ieee.{Float, nan, inf, fin, binary32, add, sub, neg, le, of_int}
use lib.Ieee.Scale.{finite}
use Rattle.quant.specs.Float.{zero32, half32, abs_of, sign_of, max0_of, round_of}
use Rattle.quant.specs.Settings.{settings_ok, coefficient_ok}
use Rattle.quant.specs.Level.{inverse_of, bias_of, product_of, whole_of, level_of, magnitude_at, level_at}
use Rattle.quant.specs.declared.Settings.{Settings}
use Rattle.quant.proofs.Rounding.{int_value}
use Rattle.quant.proofs.Ranges.{InRange, in_range, coefficient_size}
use Rattle.quant.proofs.Zero.{zero_whole, zero_product, bias_under, inverse_sign}
use Rattle.quant.proofs.Small.{Small, small_finite, weaken, small_abs, mul_small, div_small, add_small, int_small, round_of_small, max_small, range_small}

sign_small : (p : Float) → T (finite p) → Small 0 (sign_of p)
sign_small nan f = f
sign_small (inf s) f = absurd f
sign_small (fin s m e) f = lit≤ tt

module _ (s : Settings) (step : ℕ) (ok : settings_ok s step ≡ true) where
  r : InRange s step
  r = in_range s step ok

  inverse_small : Small 10 (inverse_of s step)
  inverse_small =
      div_small 10 step s.factor (lit≤ tt) r.step_low (range_small 1 (negsuc 9) 1 (pos 10) 10 s.factor (lit≤ tt) r.factor_ok_lem)
      (of_int binary32 (pos step)) (int_value step (le_trans r.step_high (lit≤ tt)))

  pub inverse_finite : T (finite (inverse_of s step))
  inverse_finite = small_finite 10 (inverse_of s step) inverse_small

  bias_small : Small 1 (bias_of s)
  unfolding sub neg
  bias_small = add_small 0 s.dead_zone (neg half32) (lit≤ tt) (range_small 0 (pos 0) 1 (negsuc 0) 0 s.dead_zone (lit≤ tt) r.dead_zone_ok_lem) (lit≤ tt)

  module _ (c : ℤ) (fine : coefficient_ok c ≡ true) where
    abbrev product : Float
    product = product_of (inverse_of s step) c

    product_small : Small 30 product
    product_small = mul_small 20 10 (of_int binary32 c) (inverse_of s step) (lit≤ tt) (int_small 20 c (lit≤ tt) (coefficient_size c fine)) inverse_small

    pub magnitude_finite : T (finite (magnitude_at s step c))
    unfolding magnitude_at
    magnitude_finite = small_finite 30 (abs_of product) (small_abs 30 product product_small)

    whole_small : Small 31 (whole_of (bias_of s) product)
    whole_small =
        let sum = add_small 30 (abs_of product) (bias_of s) (lit≤ tt) (small_abs 30 product product_small) (weaken 1 30 (bias_of s) (lit≤ tt) bias_small) in
        let top = max0_of (add binary32 (abs_of product) (bias_of s)) in
        mul_small 0 31 (sign_of product) (round_of top) (lit≤ tt) (sign_small product (small_finite 30 product product_small))
        (round_of_small 31 top (lit≤ tt) (max_small 31 _ sum))

    pub level_finite : T (finite (level_at s step c))
    unfolding level_at level_of
    level_finite = go (le s.threshold (abs_of product))
      where
        go : (t : Bool) → T (finite (cond t (whole_of (bias_of s) product) zero32))
        go true = small_finite 31 (whole_of (bias_of s) product) whole_small
        go false = tt

  -- ---- the zero coefficient

  none : product_of (inverse_of s step) (pos 0) ≡ zero32
  none = zero_product (inverse_of s step) inverse_finite (inverse_sign s step r.factor_ok_lem)

  pub zero_magnitude : magnitude_at s step (pos 0) ≡ zero32
  unfolding magnitude_at
  zero_magnitude = ap abs_of none

  pub zero_level : level_at s step (pos 0) ≡ zero32
  unfolding level_at level_of
  zero_level = ap (level_of s.threshold (bias_of s)) none ∙ either (le s.threshold zero32)
    where
      whole : whole_of (bias_of s) zero32 ≡ zero32
      whole = zero_whole (bias_of s) (small_finite 1 (bias_of s) bias_small) (bias_under s.dead_zone r.dead_zone_ok_lem)

      either : (t : Bool) → cond t (whole_of (bias_of s) zero32) zero32 ≡ zero32
      either true = whole
      either false = refl
