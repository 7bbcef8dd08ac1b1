-- Laws of the rounded shift: it sees its operand modulo 2 ^ 32, is exact where nothing wraps, and only wraps at shift 0. Assumes nothing.
use mathlib.Core.Path.{◌≡◌, ap, ◌∙◌}
use Prim.Native.Nat.{ℕ, ◌^◌}
use lib.IntN.{ℤ, pos, ◌+ℤ◌, +ℤ_idr, +ℤ_comm}
use mir.Syntax.{w32}
use mir.Val.{SFits}
use Rattle.laws.specs.Integer.{wrap32}
use Rattle.laws.proofs.Divide.{floor_div_one}
use Rattle.laws.proofs.Congruence.{Cong, cong_refl, cong_add}
use Rattle.laws.proofs.Wrap.{wrap32_cong, wrap32_in}
use Rattle.fixed.specs.Fixed.{floor_shift, half, round_exact, round_shift, StartsAtHalf, Unchanged}

pub round_shift_cong : (s : ℕ) {a b : ℤ} → Cong (2 ^ 32) a b → round_shift s a ≡ round_shift s b
unfolding round_shift
round_shift_cong s p = ap (floor_shift s) (wrap32_cong (cong_add p (cong_refl (2 ^ 32) (half s))))

pub round_shift_exact : (s : ℕ) (z : ℤ) → SFits w32 (z +ℤ half s) → round_shift s z ≡ round_exact s z
unfolding round_shift round_exact
round_shift_exact s z f = ap (floor_shift s) (wrap32_in (z +ℤ half s) f)

pub starts_at_half : StartsAtHalf
unfolding round_shift
starts_at_half s z = ap (λ (y : ℤ). floor_shift s (wrap32 y)) (+ℤ_comm (half s) z)

-- at shift 0 it only reduces to 32 bits
pub round_shift_zero : (z : ℤ) → round_shift 0 z ≡ wrap32 z
unfolding floor_shift half round_shift
round_shift_zero z = floor_div_one (wrap32 (z +ℤ pos 0)) ∙ ap wrap32 (+ℤ_idr z)

pub unchanged : Unchanged
unchanged z e = round_shift_zero z ∙ e
