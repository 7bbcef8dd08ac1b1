-- A sum of numbers of 32 bits, made of a sum of their lower halves and one of their upper halves. Assumes nothing.
use mathlib.Core.Path.{◌≡◌, refl, ◌∙◌}
use Prim.Native.Nat.{ℕ, ◌+◌, ◌*◌, ◌/◌, ◌%◌, ◌^◌, ◌≤◌, ◌<◌}
use native.Mathlib.Omega.{arith}
use Rattle.laws.specs.Sum.{sum_ℕ}
use Rattle.laws.proofs.Sum.{sum_ℕ_turn}

-- after i numbers
pub record Halves (f : ℕ → ℕ) (lower upper i : ℕ) : Type 0 where
  pub sum : 65536 * upper + lower ≡ sum_ℕ i f
  pub lower_most : lower ≤ 65536 * i
  pub upper_most : upper ≤ 65536 * i

pub halves_none : (f : ℕ → ℕ) → Halves f 0 0 0
unfolding sum_ℕ
halves_none f = record { sum = refl; lower_most = omega arith; upper_most = omega arith }

-- and one more
pub halves_more : {f : ℕ → ℕ} {lower upper i : ℕ} → Halves f lower upper i → {m : ℕ} → m ≡ f i → m < 2 ^ 32
    → Halves f (lower + m % 65536) (upper + m / 65536) (i + 1)
halves_more {f} {lower} {upper} {i} h {m} e small =
    record {
      sum = (let z : 65536 * (upper + m / 65536) + (lower + m % 65536) ≡ 65536 * upper + lower + m = omega arith in z) ∙ sum_ℕ_turn f i h.sum e;
      lower_most = omega (arith, h.lower_most);
      upper_most = omega (arith, h.upper_most);
    }
