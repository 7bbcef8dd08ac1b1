-- What the statement about kernel columns says of one call. Assumes nothing.
use mathlib.Core.Path.{◌≡◌, refl}
use Prim.Native.Nat.{ℕ, zero, suc, ◌+◌, ◌*◌, ◌<◌}
use native.Mathlib.Omega.{arith}
use lib.Dec.{lit<}
use lib.IntN.{pos}
use lib.ListN.{get_or}
use Rattle.answer.specs.Answer.{lowest}
use Rattle.sizes.specs.Size.{is_side}
use Rattle.fixed.specs.Fixed.{is_shift}
use Rattle.kernels.specs.Dct.{dct, dct32}
use Rattle.kernels.specs.Kernel.{kernel, has_kernel}
use Rattle.passes.specs.Call.{pass_answer}
use Rattle.passes.specs.Unshifted.{Writes, number}
use Rattle.passes.specs.Examples.{one_sample, sevens, FirstColumn}

writes : (f : ℕ) → f < 4 → Writes 0 4 4 0 f one_sample sevens
unfolding pass_answer is_side is_shift has_kernel lowest
writes f b = record { accepted = refl; line = lit< tt; frequency = b }

zeros : (i : ℕ) → i < 4 → (i ≡ 0 → ⊥) → get_or one_sample (i * 4 + 0) (pos 0) ≡ pos 0
zeros zero b other = absurd (other refl)
zeros (suc zero) b other = refl
zeros (suc (suc zero)) b other = refl
zeros (suc (suc (suc zero))) b other = refl
zeros (suc (suc (suc (suc i)))) b other = absurd (omega arith)

pub first_column : FirstColumn
unfolding kernel dct dct32
first_column columns =
    let entry : (f : ℕ) → f < 4 → number 0 4 4 0 f one_sample sevens ≡ kernel 0 4 f 0 =
    λ f b. columns 0 4 4 0 f 0 one_sample sevens (writes f b) (lit< tt) refl zeros in
    rw (entry 0 (lit< tt), entry 1 (lit< tt), entry 2 (lit< tt), entry 3 (lit< tt)) refl
