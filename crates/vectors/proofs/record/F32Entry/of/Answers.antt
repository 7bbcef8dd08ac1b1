-- `of` of an f32 is safe: a pattern whose exponent isn't full is no NaN's. Assumes nothing.
use mathlib.Core.Path.{◌≡◌}
use mathlib.Core.Bool.{not}
use Prim.Native.Nat.{ℕ, ◌%◌, ◌/◌}
use borrow.Author.Tests.{ne_eqb}
use lib.Dec.{T}
use lib.Ieee.{binary32, nan_bits}
use Rattle.vectors.proofs.record.F32Entry.of.Goals as goal

is_number : (b : ℕ) → (b % 2147483648 / 8388608 ≡ 255 → ⊥) → T (not (nan_bits binary32 b))
unfolding nan_bits
is_number b h = rw (ne_eqb (b % 2147483648 / 8388608) 255 h) tt

pub float_from_bits-result : goal.float_from_bits-result
float_from_bits-result c = is_number _ c.if-bits-eq255.false
