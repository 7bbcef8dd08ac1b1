-- The rows of all frequencies, turned: the lines of the pass. Assumes nothing.
use mathlib.Core.Path.{◌≡◌, refl, sym, ap, ◌∙◌}
use mathlib.Core.List.{List, ◌++◌}
use Prim.Native.Nat.{ℕ, ◌+◌, ◌*◌, ◌/◌, ◌%◌, ◌≤◌, ◌<◌}
use native.Mathlib.Nat.{mul-one, mul_comm, zero-add}
use native.Mathlib.Omega.{arith}
use lib.IntN.{ℤ, pos}
use lib.ListN.{length, drop, length-append}
use Rattle.laws.specs.Store.{grid, laid}
use Rattle.laws.proofs.Laid.{grid_laid, laid_front, laid_from_zero}
use Rattle.laws.proofs.Store.{grid_same, line_get}
use Rattle.lines.specs.Line.{line_at}
use Rattle.lines.specs.Pass.{pass_at, pass_lines}
use Rattle.lines.specs.Room.{on_line}
use Rattle.passes.specs.Fold.{row, Passed}

module _ (n shift lines : ℕ) (src w dst o₀ : List ℤ) {o dst' : List ℤ} where
  pub turned : 0 < n → n * lines ≤ length o₀ → length w ≡ n * lines → lines * n ≤ length dst → Passed n 1 shift lines src o₀ o
      → dst' ≡ grid (w ++ drop (n * lines) dst) lines n (on_line n) (λ j f. line_at o j lines f) → dst' ≡ pass_lines 0 n shift lines src 0 lines dst
  unfolding pass_lines
  turned some room long fits p u =
      let front = w ++ drop (n * lines) dst in
      let same : n * lines ≡ lines * n = mul_comm n lines in
      let rows = p ∙ grid_same o₀ n lines (λ f. row lines (f * 1)) (row lines) number number (λ f j a b. ap (λ (k : ℕ). row lines k j) (mul-one f)) (λ f j a b. refl) in
      u
      ∙ grid_same front lines n (on_line n) (on_line n) (λ j f. line_at o j lines f) (pass_at 0 n shift lines src) (λ j f a b. refl)
      (λ j f a b. ap (λ (x : List ℤ). line_at x j lines f) rows ∙ line_get o₀ n lines number f j (pos 0) room b a)
      ∙ grid_laid front 0 lines n (on_line n) (pass_at 0 n shift lines src) some (let e : lines * n ≤ length front = omega (arith, length-append w (drop (n * lines) dst)) in omega (arith, zero-add (lines * n)))
      (λ j f. sym (zero-add (j * n + f))) (pos 0)
      ∙ ap (λ (k : ℕ). laid (w ++ drop k dst) 0 (lines * n) (λ q. pass_at 0 n shift lines src (q / n) (q % n))) same
      ∙ laid_front w dst (lines * n) (λ q. pass_at 0 n shift lines src (q / n) (q % n)) (long ∙ same)
      ∙ sym (laid_from_zero n (lines * n) (pass_at 0 n shift lines src) dst)
    where
      number : ℕ → ℕ → ℤ
      number f j = pass_at 0 n shift lines src j f
