-- One kernel number by kind, side, frequency and sample: what every pass is made of.
use Rattle.std.specs.Prelude.{◌≡◌, Bool, true, ◌&&◌, ◌||◌, not, List, ℕ, zero, suc, ◌*◌, ◌/◌, ◌%◌, ◌≤◌, ◌<◌, eqb, ℤ, pos, nat_abs}
use Rattle.laws.specs.Store.{tab}
use Rattle.laws.specs.Sum.{sum_ℕ}
use Rattle.sizes.specs.Size.{is_side}
use Rattle.kernels.specs.Dct.{dct}
use Rattle.kernels.specs.Adst.{adst}

-- kind 0 is DCT, kind 1 ADST; there is no other
unfoldable pub kernel : ℕ → ℕ → ℕ → ℕ → ℤ
kernel zero n f k = dct n f k
kernel (suc zero) n f k = adst n f k
kernel (suc (suc kind)) n f k = pos 0

-- all of a kernel's numbers, those of a sample side by side: frequency f, sample k at place k × n + f. No public contract mentions it
unfoldable pub by_sample : ℕ → ℕ → List ℤ
by_sample kind n = tab (n * n) (λ p. kernel kind n (p % n) (p / n))

-- whether there is a kernel of this kind at side n: a kind is 0 or 1, and there is no ADST at side 32
unfoldable pub has_kernel : ℕ → ℕ → Bool
has_kernel kind n = eqb kind 0 || (eqb kind 1 && not (eqb n 32))

-- the sum of magnitudes in the row of frequency f
unfoldable pub row_size : ℕ → ℕ → ℕ → ℕ
row_size kind n f = sum_ℕ n (λ k. nat_abs (kernel kind n f k))

-- the most that the magnitudes of a row of n numbers add to
abbrev pub row_limit : ℕ → ℕ
row_limit n = 64 * n

-- each row keeps to it
unfoldable pub SmallRows : ℕ → ℕ → Type 0
SmallRows kind n = has_kernel kind n ≡ true → (f : ℕ) → f < n → row_size kind n f ≤ row_limit n

-- at every kind and side that has a kernel
abbrev pub RowSums : Type 0
RowSums = (kind n : ℕ) → is_side n ≡ true → SmallRows kind n
