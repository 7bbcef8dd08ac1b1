-- One turn of the loop that adds the products of a row: the sum wraps at 32 bits. Assumes nothing.
use mathlib.Core.Path.{◌≡◌, sym, ap, ap₂, ◌∙◌}
use Prim.Native.Nat.{ℕ, ◌+◌}
use native.Mathlib.Numerals.{add-one}
use lib.IntN.{ℤ, ◌+ℤ◌, ◌*ℤ◌, +ℤ_assoc, +ℤ_idr}
use mir.Syntax.{w32}
use mir.Val.{SFits}
use Rattle.laws.specs.Integer.{wrap32}
use Rattle.laws.specs.Sum.{sum_to}
use Rattle.laws.proofs.Wrap.{wrap32_in, wrap32_add}
use Rattle.lines.specs.Line.{dot}

-- s is the half and the first k products
pub record Summed (s half : ℤ) (k : ℕ) (a b : ℕ → ℤ) : Type 0 where
  pub is : s ≡ wrap32 (half +ℤ dot k a b)

module _ {half : ℤ} {a b : ℕ → ℤ} where
  pub sum_none : SFits w32 half → Summed half half 0 a b
  unfolding dot sum_to
  sum_none f = record { is = sym (wrap32_in half f) ∙ ap wrap32 (sym (+ℤ_idr half)) }

  -- a turn adds the product p of the next two factors y and z; r is the new sum
  pub sum_turn : {s : ℤ} {k : ℕ} {y z p r : ℤ} → Summed s half k a b
      → y ≡ a k → z ≡ b k
      → p ≡ wrap32 (y *ℤ z) → r ≡ wrap32 (s +ℤ p)
      → Summed r half (k + 1) a b
  unfolding dot sum_to
  sum_turn {s} {k} {y} {z} {p} {r} i hy hz hp hr =
      record {
        is = hr ∙ ap₂ (λ (u v : ℤ). wrap32 (u +ℤ v)) i.is hp
            ∙ wrap32_add (half +ℤ dot k a b) (y *ℤ z)
            ∙ ap wrap32 (+ℤ_assoc half (dot k a b) (y *ℤ z))
            ∙ ap₂ (λ (u v : ℤ). wrap32 (half +ℤ (dot k a b +ℤ u *ℤ v))) hy hz
            ∙ ap (λ (n : ℕ). wrap32 (half +ℤ dot n a b)) (sym (add-one k));
      }
