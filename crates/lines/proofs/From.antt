-- A source that is lent from a later number on: its lines are the later lines. Assumes nothing.
use mathlib.Core.Path.{◌≡◌, ap, ◌∙◌}
use mathlib.Core.List.{List}
use Prim.Native.Nat.{ℕ, ◌+◌, ◌*◌}
use native.Mathlib.Omega.{arith}
use lib.IntN.{ℤ, pos, ◌*ℤ◌}
use lib.ListN.{drop, get_or}
use lib.Seq.{get_or-drop}
use Rattle.laws.proofs.Sum.{sum_same}
use Rattle.fixed.specs.Fixed.{round_shift}
use Rattle.kernels.specs.Kernel.{kernel}
use Rattle.lines.specs.Pass.{pass_sum, pass_at}

pub pass_from : (kind n shift lines : ℕ) (src : List ℤ) (start j f : ℕ)
    → pass_at kind n shift lines (drop start src) j f ≡ pass_at kind n shift lines src (start + j) f
unfolding pass_at pass_sum
pass_from kind n shift lines src start j f =
    ap (round_shift shift)
    (sum_same n _ _
    (λ k b.
    ap (λ (z : ℤ). kernel kind n f k *ℤ z)
    (get_or-drop start src (k * lines + j) (pos 0) ∙ ap (λ (p : ℕ). get_or src p (pos 0)) (omega arith))))
