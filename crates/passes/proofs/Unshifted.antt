-- What an accepted pass writes, by line and frequency, and what that is at shift 0. Assumes nothing.
use mathlib.Core.Path.{◌≡◌, sym, ap, ◌∙◌}
use mathlib.Core.List.{List}
use Prim.Native.Nat.{ℕ, ◌+◌, ◌*◌, ◌<◌}
use native.Mathlib.Nat.{zero-add}
use native.Mathlib.Omega.{arith}
use lib.IntN.{ℤ, pos, nat_abs}
use lib.ListN.{length, get_or}
use Rattle.laws.specs.Integer.{wrap32}
use Rattle.laws.proofs.Filled.{front_line}
use Rattle.laws.proofs.Laid.{laid_from_zero}
use Rattle.laws.proofs.Size.{mag_nat_abs}
use Rattle.laws.proofs.Sum.{sum_one}
use Rattle.laws.proofs.Wrap.{wrap32_in}
use Rattle.answer.specs.Answer.{answers}
use Rattle.fixed.proofs.Round.{round_shift_zero}
use Rattle.sizes.proofs.Side.{side_bounds}
use Rattle.kernels.specs.Kernel.{kernel}
use Rattle.kernels.proofs.RowSize.{number_size}
use Rattle.lines.specs.Pass.{pass_sum, pass_at, pass_lines}
use Rattle.passes.specs.Call.{pass_answer, pass_after}
use Rattle.passes.specs.Unshifted.{RawSums, KernelColumns}
use Rattle.passes.proofs.Accepted.{accepted}

-- number f of line j of an accepted pass, at any shift
written_at : (kind side lines j f : ℕ) (shift : ℤ) (src dst : List ℤ) {n : ℕ} → answers n ≡ pass_answer side kind shift lines (length src) (length dst)
    → j < lines → f < side → get_or (pass_after side kind shift lines src dst) (j * side + f) (pos 0) ≡ pass_at kind side (nat_abs shift) lines src j f
unfolding pass_after pass_lines
written_at kind side lines j f shift src dst e bj bf =
    let number = pass_at kind side (nat_abs shift) lines src in
    rw (sym e)
    (ap (λ (l : List ℤ). get_or l (j * side + f) (pos 0)) (laid_from_zero side (lines * side) number dst)
    ∙ front_line dst lines side number (pos 0) (rw (zero-add lines) at (accepted e).room.dst) j f bj bf)

pub raw_sums : RawSums
unfolding pass_at
raw_sums kind side lines j f src dst w =
    written_at kind side lines j f (pos 0) src dst (sym w.accepted) w.line w.frequency ∙ round_shift_zero (pass_sum kind side lines src j f)

pub kernel_columns : KernelColumns
unfolding pass_sum
kernel_columns kind side lines j f k src dst w b one others =
    let a = accepted (sym w.accepted) in
    let factor = kernel kind side f k in
    let small = number_size kind side f k a.side_ok a.kernel w.frequency b in
    raw_sums kind side lines j f src dst w
    ∙ ap wrap32 (sum_one (kernel kind side f) (λ i. get_or src (i * lines + j) (pos 0)) side k b one others)
    ∙ wrap32_in factor (record { sfits = omega (arith, mag_nat_abs factor, small, side_bounds side a.side_ok) })
