-- The code's shifts, as the machine does them: a number shifted right, and half of the unit that a rounded shift drops. Assumes nothing.
use mathlib.Core.Path.{◌≡◌, refl, ap, ◌∙◌}
use mathlib.Core.Bool.{true}
use Prim.Native.Nat.{ℕ, zero, suc, ◌*◌, ◌%◌, ◌^◌, ◌<◌}
use native.Mathlib.Nat.{lt_of_le_of_lt, pow-suc}
use native.Mathlib.Omega.{arith}
use lib.Pow.{pow-lt}
use lib.Signed.{mag, shr_z, mag_shr}
use lib.IntN.{ℤ, pos}
use mir.Syntax.{Width, w32}
use mir.Val.{to_z, of_z, hbits}
use mir.Facts.{to_z_pos}
use Rattle.laws.specs.Integer.{floor_div}
use Rattle.laws.proofs.Divide.{shr_floor}
use Rattle.laws.proofs.Machine.{read_at, one_shl}
use Rattle.fixed.specs.Fixed.{is_shift, floor_shift, half}

-- `z >> s` at w bits
pub shr_read : (w : Width) (z : ℤ) (s : ℕ) → mag z < 2 ^ hbits w → to_z w (of_z w (shr_z (to_z w (of_z w z)) (2 ^ s))) ≡ floor_shift s z
unfolding floor_shift
shr_read w z s h =
    ap (λ (y : ℤ). to_z w (of_z w (shr_z y (2 ^ s)))) (read_at w z h)
    ∙ read_at w (shr_z z (2 ^ s)) (lt_of_le_of_lt (mag_shr z (2 ^ s)) h) ∙ shr_floor z (2 ^ s)

-- a shift in range is one that 32 bits allow, its half too
pub shift_small : (s : ℕ) → is_shift (pos s) ≡ true → s < 31
unfolding is_shift
shift_small s e = grind (arith, e)

-- half of the unit that is dropped
unit_half : (s : ℕ) → floor_div (pos (2 ^ s)) 2 ≡ half s
unfolding half
unit_half zero = refl
unit_half (suc k) = ap pos (omega (arith, pow-suc 2 k))

-- `(1 << s) >> 1` at 32 bits
pub half_read : (s : ℕ) → s < 31 → to_z w32 (of_z w32 (shr_z (to_z w32 ((1 * 2 ^ s) % 2 ^ 32)) 2)) ≡ half s
half_read s p =
    ap (λ (z : ℤ). to_z w32 (of_z w32 (shr_z z 2)))
    (ap (to_z w32) (one_shl 32 s below) ∙ to_z_pos w32 (pow-lt p))
    ∙ read_at w32 (shr_z (pos (2 ^ s)) 2) (lt_of_le_of_lt (mag_shr (pos (2 ^ s)) 2) (pow-lt p)) ∙ shr_floor (pos (2 ^ s)) 2 ∙ unit_half s
  where
    below : s < 32
    below = omega arith
