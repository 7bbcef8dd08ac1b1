-- The machine's signed integers modulo a power of two: the bits of a number, and the number of some bits, are congruent to it; a shift left by 32 and back
-- of 64 bits is the reduction to 32 bits. Assumes nothing.
use mathlib.Core.Path.{◌≡◌, refl, sym, ap, ◌∙◌, subst}
use mathlib.Core.Bool.{Bool, true, false}
use Prim.Native.Nat.{ℕ, suc, ◌-◌, ◌*◌, ◌/◌, ◌%◌, ◌^◌, ◌<◌}
use native.Mathlib.Nat.{mod-lt, one-mul, mod-eq_of_lt}
use native.Mathlib.Omega.{arith}
use lib.Dec.{ltb}
use lib.Pow.{pow_pos, pow-lt}
use lib.Signed.{mag, shr_z}
use lib.IntN.{ℤ, pos, negsuc, ◌+ℤ◌, ◌*ℤ◌}
use mir.Syntax.{Width, w32, w64}
use mir.Val.{Fits, SFits, to_z, of_z, bits, hbits, sel}
use mir.ValLaws.{half_full, to_z-Fits}
use mir.Facts.{to_z-of_z, sfits_widen}
use Rattle.std.specs.Int.{int_wrap, int_rem_euclid}
use Rattle.std.specs.Int.RustNames.{unsigned_abs}
use Rattle.std.proofs.lemmas.Int.{SFits-int_wrap}
use Rattle.laws.specs.Integer.{floor_div, wrap32}
use Rattle.laws.proofs.Ring.{lit, ◌⊕◌, ◌⊖◌, ◌⊗◌, ring₂}
use Rattle.laws.proofs.Size.{sub_ℕ_lt, sub_ℕ_ge, pos_sub}
use Rattle.laws.proofs.Divide.{floor_div_law, floor_div_exact, mag_floor_div, shr_floor}
use Rattle.laws.proofs.Congruence.{Cong, cong_refl, cong_sym, cong_trans, cong_mul}
use Rattle.laws.proofs.Wrap.{wrap32_unique, wrap32_fits}

-- some bits, read as signed
to_z_cong : (w : Width) (n : ℕ) → Fits w n → Cong (2 ^ bits w) (to_z w n) (pos n)
to_z_cong w n f = go (ltb n (2 ^ hbits w))
  where
    go : (t : Bool) → Cong (2 ^ bits w) (sel t (pos n) (negsuc (2 ^ bits w - suc n))) (pos n)
    go true = cong_refl (2 ^ bits w) (pos n)
    go false =
        record {
          times = negsuc 0;
          eq = sym (sub_ℕ_lt n (2 ^ bits w) f.fits) ∙ sym (pos_sub n (2 ^ bits w))
              ∙ ring₂ (λ a m. a ⊖ m) (λ a m. a ⊕ lit (negsuc 0) ⊗ m) (pos n) (pos (2 ^ bits w)) refl;
        }

-- the bits of a number
of_z_cong : (w : Width) (z : ℤ) → SFits w z → Cong (2 ^ bits w) (pos (of_z w z)) z
of_z_cong w (pos n) f = cong_refl (2 ^ bits w) (pos n)
of_z_cong w (negsuc n) f =
    record {
      times = pos 1;
      eq = sym (sub_ℕ_ge (2 ^ bits w) (suc n) (half_full w f.sfits))
          ∙ ring₂ (λ a m. a ⊕ m) (λ a m. a ⊕ lit (pos 1) ⊗ m) (negsuc n) (pos (2 ^ bits w)) refl;
    }

mod_cong : (n m : ℕ) → 0 < m → Cong m (pos (n % m)) (pos n)
mod_cong n m h = cong_sym (record { times = pos (n / m); eq = floor_div_law (pos n) m h })

-- `(x << 32) >> 32` of 64 bits
pub shl_shr_32 : (x : ℤ) → SFits w64 x → shr_z (to_z w64 ((of_z w64 x * 2 ^ 32) % 2 ^ 64)) (2 ^ 32) ≡ wrap32 x
shl_shr_32 x f = wrap32_unique (shr_z y (2 ^ 32)) x (record { sfits = small }) (record { times = c.times; eq = exact })
  where
    n : ℕ
    n = (of_z w64 x * 2 ^ 32) % 2 ^ 64

    y : ℤ
    y = to_z w64 n

    fits_n : Fits w64 n
    fits_n = record { fits = mod-lt (of_z w64 x * 2 ^ 32) (pow_pos 64) }

    c : Cong (2 ^ 64) y (x *ℤ pos (2 ^ 32))
    c =
        cong_trans (to_z_cong w64 n fits_n)
        (cong_trans (mod_cong (of_z w64 x * 2 ^ 32) (2 ^ 64) (pow_pos 64)) (cong_mul (of_z_cong w64 x f) (cong_refl (2 ^ 64) (pos (2 ^ 32)))))

    whole : y ≡ (x +ℤ c.times *ℤ pos (2 ^ 32)) *ℤ pos (2 ^ 32)
    whole =
        c.eq
        ∙ ring₂ (λ x k. x ⊗ lit (pos (2 ^ 32)) ⊕ k ⊗ lit (pos (2 ^ 64))) (λ x k. (x ⊕ k ⊗ lit (pos (2 ^ 32))) ⊗ lit (pos (2 ^ 32))) x c.times refl

    exact : shr_z y (2 ^ 32) ≡ x +ℤ c.times *ℤ pos (2 ^ 32)
    exact = shr_floor y (2 ^ 32) ∙ ap (λ (z : ℤ). floor_div z (2 ^ 32)) whole ∙ floor_div_exact (x +ℤ c.times *ℤ pos (2 ^ 32)) (2 ^ 32) (pow_pos 32)

    small : mag (shr_z y (2 ^ 32)) < 2 ^ 31
    small = subst (λ (z : ℤ). mag z < 2 ^ 31) (sym (shr_floor y (2 ^ 32))) (mag_floor_div y (2 ^ 32) (2 ^ 31) (pow_pos 32) (to_z-Fits w64 n fits_n).sfits)

-- what the library's `wrapping_add` and its like give: the remainder by 2 ^ 32, read as signed
pub int_wrap_is : (z : ℤ) → int_wrap w32 z ≡ wrap32 z
unfolding int_wrap
int_wrap_is z = wrap32_unique (int_wrap w32 z) z (SFits-int_wrap w32 z) (cong_trans (to_z_cong w32 _ (record { fits = rem_lt z })) (rem_cong z))
  where
    rem_lt : (z : ℤ) → unsigned_abs (int_rem_euclid z (pos (2 ^ 32))) < 2 ^ 32
    rem_lt (pos n) = mod-lt n (pow_pos 32)
    rem_lt (negsuc n) = omega arith

    rem_cong : (z : ℤ) → Cong (2 ^ 32) (pos (unsigned_abs (int_rem_euclid z (pos (2 ^ 32))))) z
    rem_cong (pos n) = mod_cong n (2 ^ 32) (pow_pos 32)
    rem_cong (negsuc n) = cong_sym (record { times = negsuc (n / 2 ^ 32); eq = floor_div_law (negsuc n) (2 ^ 32) (pow_pos 32) ∙ ap (λ (k : ℕ). pos k +ℤ negsuc (n / 2 ^ 32) *ℤ pos (2 ^ 32)) (omega arith) })

-- ---- what the needs ask

pub wrapped_fits : (v x : ℤ) → v ≡ wrap32 x → SFits w32 (to_z w64 (of_z w64 v))
wrapped_fits v x e =
    subst (λ (y : ℤ). SFits w32 (to_z w64 (of_z w64 y))) (sym e)
    (subst (λ (y : ℤ). SFits w32 y) (sym (to_z-of_z {w = w64} (sfits_widen tt (wrap32_fits x)))) (wrap32_fits x))

pub wrapped_read : (v x : ℤ) → v ≡ wrap32 x → to_z w32 (of_z w32 (to_z w64 (of_z w64 v))) ≡ wrap32 x
wrapped_read v x e =
    ap (λ (y : ℤ). to_z w32 (of_z w32 (to_z w64 (of_z w64 y)))) e
    ∙ ap (λ (y : ℤ). to_z w32 (of_z w32 y)) (to_z-of_z {w = w64} (sfits_widen tt (wrap32_fits x))) ∙ to_z-of_z (wrap32_fits x)

-- a value of w bits, read back from its bits; every part is explicit, since none can be found from a bound
pub read_at : (w : Width) (z : ℤ) → mag z < 2 ^ hbits w → to_z w (of_z w z) ≡ z
read_at w z h = to_z-of_z {w = w} {z = z} (record { sfits = h })

-- `1 << s`, where it fits
pub one_shl : (w s : ℕ) → s < w → (1 * 2 ^ s) % 2 ^ w ≡ 2 ^ s
one_shl w s h = ap (λ (n : ℕ). n % 2 ^ w) (one-mul (2 ^ s)) ∙ mod-eq_of_lt (pow-lt h)
