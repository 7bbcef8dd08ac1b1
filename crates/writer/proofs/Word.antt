-- What the code asks of a level: whether it is zero, as a byte, and whether it is near. Assumes nothing.
use mathlib.Core.Bool.{Bool, true, false, cond, not, and-true}
use mathlib.Core.Path.{◌≡◌, refl, sym, ap, ◌∙◌}
use Prim.Native.Nat.{suc, ◌-◌, ◌^◌, ◌<◌}
use native.Mathlib.Omega.{arith}
use borrow.Author.Tests.{ne_eqb}
use lib.Dec.{eqb, leb, leb-suc-suc}
use lib.IntN.{ℤ, pos, negsuc}
use lib.Signed.{mag}
use mir.Syntax.{w32}
use mir.Val.{of_z, bool_byte}
use Rattle.fixed.specs.Limit.{is_within}
use Rattle.format.specs.Pieces.{is_near, stands}

-- ---- a bit as a byte

byte_is : (b : Bool) → bool_byte b ≡ cond b 1 0
byte_is true = refl
byte_is false = refl

nonzero : (l : ℤ) → mag l < 2 ^ 31 → not (eqb (of_z w32 l) 0) ≡ stands l
nonzero (pos n) h = refl
nonzero (negsuc n) h = rw (ne_eqb (2 ^ 32 - suc n) 0 (λ e. omega arith), ne_eqb (suc n) 0 (λ e. omega arith))

pub bit_byte : (l : ℤ) → mag l < 2 ^ 31 → bool_byte (not (eqb (of_z w32 l) 0)) ≡ cond (stands l) 1 0
bit_byte l h = ap bool_byte (nonzero l h) ∙ byte_is (stands l)

-- the code's test of a level's size
pub near : (l : ℤ) → is_within 1073741824 l ≡ is_near l
unfolding is_within
near (pos n) = refl
near (negsuc n) = and-true (leb n 1073741823) ∙ sym (leb-suc-suc n 1073741823)
