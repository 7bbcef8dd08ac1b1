-- Which side the last arm of a pass is for. Assumes nothing.
use mathlib.Core.Path.{◌≡◌, sym, ap, ◌∙◌}
use mathlib.Core.Logic.{⊎_elim}
use mathlib.Core.Bool.{true, false≢true}
use Prim.Native.Nat.{ℕ}
use Rattle.sizes.specs.Size.{is_side}
use Rattle.sizes.proofs.Side.{side_cases}
use Rattle.kernels.specs.Kernel.{has_kernel}

-- the last arm of a DCT
pub side_32 : (n : ℕ) → is_side n ≡ true → (n ≡ 4 → ⊥) → (n ≡ 8 → ⊥) → (n ≡ 16 → ⊥) → n ≡ 32
side_32 n s a b c =
    ⊎_elim (λ e. absurd (a e)) (⊎_elim (λ e. absurd (b e)) (⊎_elim (λ e. absurd (c e)) (λ e. e))) (side_cases n s)

-- the last arm of an ADST, which has no side 32
pub side_16 : (n : ℕ) → is_side n ≡ true → has_kernel 1 n ≡ true → (n ≡ 4 → ⊥) → (n ≡ 8 → ⊥) → n ≡ 16
unfolding has_kernel
side_16 n s has a b =
    ⊎_elim (λ e. absurd (a e))
    (⊎_elim (λ e. absurd (b e)) (⊎_elim (λ e. e) (λ e. absurd (false≢true (ap (λ (m : ℕ). has_kernel 1 m) (sym e) ∙ has)))))
    (side_cases n s)
