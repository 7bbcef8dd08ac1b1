-- What the ranges of the settings, the step and a coefficient give. Assumes nothing.
use mathlib.Core.Path.{◌≡◌, sym, subst}
use mathlib.Core.Bool.{true, ◌&&◌}
use Prim.Native.Nat.{ℕ, ◌≤◌, ◌^◌}
use native.Mathlib.Nat.{le_trans}
use lib.Dec.{T, leb, leb→le, le→leb, lt→ltb, lit≤}
use lib.IntN.{ℤ, pos, negsuc, nat_abs}
use lib.Ieee.{binary32, in_float}
use lib.Ieee.Fits.{and_l, and_r}
use Rattle.fixed.proofs.Within.{within_size}
use Rattle.quant.specs.Settings.{step_ok, factor_ok, threshold_ok, dead_zone_ok, settings_ok, coefficient_ok}
use Rattle.quant.specs.declared.Settings.{Settings}

-- settings and step in range, each by itself
pub record InRange (s : Settings) (step : ℕ) : Type 0 where
  pub step_low : 1 ≤ step
  pub step_high : step ≤ 2 ^ 20
  pub factor_ok_lem : T (factor_ok s.factor)
  pub dead_zone_ok_lem : T (dead_zone_ok s.dead_zone)

pub in_range : (s : Settings) (step : ℕ) → settings_ok s step ≡ true → InRange s step
unfolding settings_ok
in_range s step e =
    let S = step_ok step in
    let F = factor_ok s.factor in
    let H = threshold_ok s.threshold in
    let D = dead_zone_ok s.dead_zone in
    let all : T (S && F && H && D) = subst T (sym e) tt in
    let first : T (S && F) = and_l (S && F) H (and_l (S && F && H) D all) in
    record {
      step_low = leb→le 1 step (and_l (leb 1 step) (leb step 1048576) (and_l S F first));
      step_high = leb→le step 1048576 (and_r (leb 1 step) (leb step 1048576) (and_l S F first));
      factor_ok_lem = and_r S F first;
      dead_zone_ok_lem = and_r (S && F && H) D all;
    }

pub coefficient_size : (c : ℤ) → coefficient_ok c ≡ true → nat_abs c ≤ 2 ^ 20
unfolding coefficient_ok
coefficient_size c e = within_size 1048576 c e

-- a whole number of that size is an f32
pub in_float_lem : (z : ℤ) → nat_abs z ≤ 2 ^ 20 → T (in_float binary32 z)
unfolding in_float
in_float_lem (pos n) h = le→leb n (2 ^ 24) (le_trans h (lit≤ tt))
in_float_lem (negsuc n) h = lt→ltb n (2 ^ 24) (le_trans h (lit≤ tt))
