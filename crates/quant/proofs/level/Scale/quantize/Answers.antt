-- `quant::level::Scale::quantize` meets its contract: the product of two finite numbers is no NaN. Assumes nothing.
use mathlib.Core.Path.{◌≡◌, sym, ap, ◌∙◌, subst}
use mathlib.Core.Bool.{true, not}
use lib.Dec.{T}
use lib.IntN.{ℤ}
use lib.Ieee.{Float, binary32, in_float, of_bits, is_nan}
use mir.Syntax.{w32}
use mir.Val.{to_z, of_z, SFits}
use mir.ValLaws.{to_z-of_z}
use Rattle.quant.specs.Float.{has_no_sign, abs_of, sign_of}
use Rattle.quant.specs.Level.{product_of}
use Rattle.quant.specs.Settings.{coefficient_ok}
use Rattle.quant.specs.declared.level.Scale.{Scale}
use Rattle.quant.proofs.Ranges.{coefficient_size, in_float_lem}
use Rattle.quant.proofs.Written.{max0_no_sign, level_kept, level_dropped, accepted_number}
use Rattle.quant.proofs.level.Scale.quantize.Goals as goal

-- the product, read back from the coefficient's bits
module _ (s : Scale) (z : ℤ) (f : SFits w32 z) where
  same : product_of s.inverse (to_z w32 (of_z w32 z)) ≡ product_of s.inverse z
  same = ap (product_of s.inverse) (to_z-of_z w32 z f)

  number : coefficient_ok z ≡ true → T (not (is_nan (product_of s.inverse (to_z w32 (of_z w32 z)))))
  number ok = subst (λ (p : Float). T (not (is_nan p))) (sym same) (accepted_number s.inverse z s.inverse_finite ok)

pub int_to_float-product : goal.int_to_float-product
int_to_float-product c =
    let z = c.args.coefficient in
    subst (λ (y : ℤ). T (in_float binary32 y)) (sym (to_z-of_z w32 z c.ranges.coefficient)) (in_float_lem z (coefficient_size z c.requires))

pub abs-magnitude-requires : goal.abs-magnitude-requires
abs-magnitude-requires c = number c.args.self c.args.coefficient c.ranges.coefficient c.requires

pub round_half_up-whole-requires : goal.round_half_up-whole-requires
round_half_up-whole-requires c = subst (λ (y : Float). T (has_no_sign y)) (sym c.max0.ensures) (max0_no_sign _)

pub sign-requires : goal.sign-requires
sign-requires c = number c.args.self c.args.coefficient c.ranges.coefficient c.requires

pub returns-then-magnitude-self : goal.returns-then-magnitude-self
unfolding of_bits
returns-then-magnitude-self c =
    let a = c.args in
    let e = same a.self a.coefficient c.ranges.coefficient in
    let magnitude = c.abs-magnitude.ensures ∙ ap abs_of e in
    let sign = c.sign.ensures ∙ ap sign_of e in (
      level_kept a.self.threshold a.self.bias (product_of a.self.inverse a.coefficient) _ magnitude c.max0.result _ _ c.if-magnitude-self.true c.max0.ensures
          c.round_half_up-whole.ensures sign,
      magnitude,
    )

pub returns : goal.returns
unfolding of_bits
returns c =
    let a = c.args in
    let magnitude = c.abs-magnitude.ensures ∙ ap abs_of (same a.self a.coefficient c.ranges.coefficient) in
    (level_dropped a.self.threshold a.self.bias (product_of a.self.inverse a.coefficient) _ magnitude c.if-magnitude-self.false, magnitude)
