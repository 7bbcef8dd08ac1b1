-- A line that is stored is a line of the pass. Assumes nothing.
use mathlib.Core.Path.{◌≡◌, ap, ap₂, ◌∙◌}
use mathlib.Core.List.{List}
use Prim.Native.Nat.{ℕ, ◌+◌, ◌*◌, ◌/◌, ◌%◌, ◌≤◌, ◌<◌}
use native.Mathlib.Omega.{arith}
use lib.Arith.{digits_lt, digits_div, digits_mod}
use lib.IntN.{ℤ, pos, ◌*ℤ◌}
use lib.ListN.{length, get_or}
use Rattle.laws.specs.Store.{stores}
use Rattle.laws.proofs.Laid.{length_tab, get_or_tab}
use Rattle.laws.proofs.Store.{stores_front, stores_ext}
use Rattle.laws.proofs.Sum.{sum_same}
use Rattle.fixed.specs.Fixed.{round_shift}
use Rattle.kernels.specs.Kernel.{kernel, by_sample}
use Rattle.lines.specs.Line.{line_at, dot, itself, rounded, from, number}
use Rattle.lines.specs.Pass.{pass_sum, pass_at}
use Rattle.lines.specs.Stage.{dct_sum, Finished}
use Rattle.lines.specs.Room.{on_line}

pub dct_line : (n shift lines j to : ℕ) (src dst : List ℤ) {o dst' : List ℤ} → Finished n shift (line_at src j lines) o
    → dst' ≡ stores dst n (from (to * n)) (number o)
    → dst' ≡ stores dst n (on_line n to) (pass_at 0 n shift lines src j)
unfolding pass_at pass_sum kernel dct_sum
dct_line n shift lines j to src dst {o} e u = u ∙ stores_ext dst n (from (to * n)) (number o) (pass_at 0 n shift lines src j) e.at

pub length_by_sample : (kind n : ℕ) → length (by_sample kind n) ≡ n * n
unfolding by_sample
length_by_sample kind n = length_tab (n * n) (λ p. kernel kind n (p % n) (p / n))

-- dense sums over all the numbers of a kernel
module _ (kind n lines j shift : ℕ) (src : List ℤ) {ts : List ℤ} (kernel_is : ts ≡ by_sample kind n) where
  factor : (f k : ℕ) → f < n → k < n → line_at ts (0 + f) n k ≡ kernel kind n f k
  unfolding by_sample
  factor f k a b =
      let p : k * n + (0 + f) ≡ k * n + f = omega arith in
      ap₂ (λ (l : List ℤ) (i : ℕ). get_or l i (pos 0)) kernel_is p
      ∙ get_or_tab (n * n) (λ p. kernel kind n (p % n) (p / n)) (k * n + f) (pos 0) (digits_lt b a)
      ∙ ap₂ (kernel kind n) (digits_mod k a) (digits_div k a)

  pub dense_line : (to : ℕ) (zeros dst : List ℤ) {o dst' : List ℤ} → n ≤ length zeros → o ≡ stores zeros n itself (rounded shift n ts 0 (line_at src j lines))
      → dst' ≡ stores dst n (from (to * n)) (number o) → dst' ≡ stores dst n (on_line n to) (pass_at kind n shift lines src j)
  unfolding pass_at pass_sum dot
  dense_line to zeros dst {o} long e u =
      u
      ∙ stores_ext dst n (from (to * n)) (number o) (pass_at kind n shift lines src j)
      (λ f a.
      ap (λ (l : List ℤ). get_or l f (pos 0)) e
      ∙ stores_front zeros n (rounded shift n ts 0 (line_at src j lines)) f (pos 0) a (omega arith)
      ∙ ap (round_shift shift) (sum_same n _ _ (λ k b. ap (λ (z : ℤ). z *ℤ line_at src j lines k) (factor f k a b))))
