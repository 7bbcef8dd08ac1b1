-- The sums of magnitudes of the kernels' rows, computed: at most 64 for each number of the row, at every side and kind. Assumes nothing.
use mathlib.Core.Path.{◌≡◌, refl, sym, ◌∙◌}
use mathlib.Core.Bool.{true, false, false≢true}
use Prim.Native.Nat.{ℕ, zero, suc, ◌*◌, ◌≤◌, ◌<◌}
use native.Mathlib.Omega.{arith}
use lib.Dec.{leb}
use lib.IntN.{nat_abs}
use borrow.Author.Tests.{leb-true, ne_eqb}
use Rattle.laws.specs.Sum.{sum_ℕ}
use Rattle.laws.specs.Table.{every}
use Rattle.laws.proofs.Every.{every_each}
use Rattle.laws.proofs.Sum.{sum_within}
use Rattle.sizes.specs.Size.{is_side}
use Rattle.sizes.proofs.Side.{each_side}
use Rattle.kernels.specs.Dct.{dct, dct32}
use Rattle.kernels.specs.Adst.{adst, adst16, adst8, adst4}
use Rattle.kernels.specs.Kernel.{kernel, has_kernel, row_size, SmallRows, RowSums}

unfoldable pub Within : ℕ → ℕ → Type 0
Within kind n = has_kernel kind n ≡ true → (f : ℕ) → f < n → row_size kind n f ≤ 64 * n

by_test : (kind n : ℕ) → every n (λ f. leb (row_size kind n f) (64 * n)) ≡ true → Within kind n
unfolding Within
by_test kind n t has f b = leb-true (row_size kind n f) (64 * n) (every_each n (λ f. leb (row_size kind n f) (64 * n)) t f b)

none : (kind n : ℕ) → (has_kernel kind n ≡ true → ⊥) → Within kind n
unfolding Within
none kind n never has f b = absurd (never has)

-- there is no third kind
no_kernel : (kind n : ℕ) → has_kernel (suc (suc kind)) n ≡ false
unfolding has_kernel
no_kernel kind n = rw (ne_eqb (suc (suc kind)) 0 (omega arith), ne_eqb (suc (suc kind)) 1 (omega arith))

pub row_size_lem : (kind n : ℕ) → is_side n ≡ true → Within kind n
unfolding row_size kernel sum_ℕ dct dct32 adst adst16 adst8 adst4 has_kernel
row_size_lem zero = each_side (Within 0) (by_test 0 4 refl) (by_test 0 8 refl) (by_test 0 16 refl) (by_test 0 32 refl)
row_size_lem (suc zero) =
    each_side (Within 1) (by_test 1 4 refl) (by_test 1 8 refl) (by_test 1 16 refl)
    (none 1 32 (λ e. false≢true e))
row_size_lem (suc (suc kind)) = λ n s. none (suc (suc kind)) n (λ e. false≢true (sym (no_kernel kind n) ∙ e))

pub row_sums : RowSums
unfolding Within SmallRows
row_sums kind n s = row_size_lem kind n s

-- no number of a row is larger
pub number_size : (kind n f k : ℕ) → is_side n ≡ true → has_kernel kind n ≡ true → f < n → k < n → nat_abs (kernel kind n f k) ≤ 64 * n
unfolding Within row_size
number_size kind n f k s has bf bk = omega (arith, sum_within n (λ k. nat_abs (kernel kind n f k)) k bk, row_size_lem kind n s has f bf)
