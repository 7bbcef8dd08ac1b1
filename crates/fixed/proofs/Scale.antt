-- The 5793 / 4096 rule at 64 bits: nothing overflows, and a number of at most 29 bits stays one of 32. Assumes nothing.
use mathlib.Core.Path.{◌≡◌, ap, ◌∙◌, subst}
use Prim.Native.Nat.{ℕ, ◌+◌, ◌*◌, ◌^◌, ◌≤◌, ◌<◌}
use native.Mathlib.Nat.{lt_of_le_of_lt, lt_of_lt_of_le}
use native.Mathlib.Omega.{arith}
use lib.Dec.{lit<, lit≤}
use lib.Signed.{mag, shr_z}
use lib.IntN.{ℤ, pos, ◌+ℤ◌, ◌*ℤ◌, *ℤ_comm}
use mir.Syntax.{w32, w64}
use mir.Val.{SFits, to_z, of_z}
use mir.Facts.{to_z-of_z, sfits_widen}
use Rattle.laws.specs.Integer.{wrap32}
use Rattle.laws.proofs.Size.{mag_add, mag_mul}
use Rattle.laws.proofs.Divide.{mag_floor_div}
use Rattle.laws.proofs.Wrap.{wrap32_in}
use Rattle.fixed.specs.Fixed.{floor_shift, scaled}
use Rattle.fixed.proofs.Shifted.{shr_read}

-- the product, and the sum that is shifted
module _ (v : ℤ) (h : ℕ) (small : mag v < h) where
  product_size : mag (v *ℤ pos 5793) ≤ h * 5794
  product_size = mag_mul v (pos 5793) h 5794 small (lit< tt)

  pub sum_size : mag (v *ℤ pos 5793 +ℤ pos 2048) < h * 5794 + 2049 + (h * 5794 + 2049)
  sum_size = let p = product_size in mag_add (v *ℤ pos 5793) (pos 2048) (h * 5794 + 2049) (omega arith) (omega arith)

module _ {v : ℤ} (f : SFits w32 v) where
  product : SFits w64 (v *ℤ pos 5793)
  product = record { sfits = lt_of_le_of_lt (product_size v (2 ^ 31) f.sfits) (lit< tt) }

  sum : SFits w64 (v *ℤ pos 5793 +ℤ pos 2048)
  sum = record { sfits = lt_of_lt_of_le (sum_size v (2 ^ 31) f.sfits) (lit≤ tt) }

  -- what the code gives, from v as it reads it at 64 bits
  module _ {x : ℤ} (e : x ≡ v) where
    product_read : to_z w64 (of_z w64 (to_z w64 (of_z w64 x) *ℤ pos 5793)) ≡ v *ℤ pos 5793
    product_read =
        ap (λ (y : ℤ). to_z w64 (of_z w64 (to_z w64 (of_z w64 y) *ℤ pos 5793))) e
        ∙ ap (λ (y : ℤ). to_z w64 (of_z w64 (y *ℤ pos 5793))) (to_z-of_z {w = w64} (sfits_widen tt f)) ∙ to_z-of_z product

    pub scaled_read :
        to_z w64 (of_z w64 (shr_z (to_z w64 (of_z w64 (to_z w64 (of_z w64 (to_z w64 (of_z w64 x) *ℤ pos 5793)) +ℤ pos 2048))) (2 ^ 12))) ≡ scaled v
    unfolding scaled floor_shift
    scaled_read =
        ap (λ (y : ℤ). to_z w64 (of_z w64 (shr_z (to_z w64 (of_z w64 (y +ℤ pos 2048))) (2 ^ 12)))) product_read
        ∙ shr_read w64 (v *ℤ pos 5793 +ℤ pos 2048) 12 sum.sfits
        ∙ ap (λ (y : ℤ). floor_shift 12 (y +ℤ pos 2048)) (*ℤ_comm v (pos 5793))

-- a number of at most 29 bits, scaled, is one of 32 bits
pub scaled_fits : (v : ℤ) → mag v < 2 ^ 29 → SFits w32 (scaled v)
unfolding scaled
scaled_fits v s =
    record {
      sfits = subst (λ (y : ℤ). mag (Rattle.laws.specs.Integer.floor_div (y +ℤ pos 2048) 4096) < 2 ^ 31) (*ℤ_comm v (pos 5793))
          (mag_floor_div (v *ℤ pos 5793 +ℤ pos 2048) 4096 (2 ^ 31) (lit< tt) (lt_of_lt_of_le (sum_size v (2 ^ 29) s) (lit≤ tt)));
    }

pub scaled_exact : (v : ℤ) → mag v < 2 ^ 29 → wrap32 (scaled v) ≡ scaled v
scaled_exact v s = wrap32_in (scaled v) (scaled_fits v s)
