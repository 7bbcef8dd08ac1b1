-- A pass at shift 0: "The test bench measures raw kernel sums with shift 0." It has the contract of every shift (Call.antt); this is what it says
-- there of the numbers that an accepted call writes.
use Rattle.std.specs.Prelude.{◌≡◌, List, ℕ, ◌+◌, ◌*◌, ◌<◌, ℤ, pos, length, get_or}
use Rattle.laws.specs.Integer.{wrap32}
use Rattle.answer.specs.Answer.{answers}
use Rattle.kernels.specs.Kernel.{kernel}
use Rattle.lines.specs.Pass.{pass_sum}
use Rattle.passes.specs.Call.{pass_answer, pass_after}

-- a call at shift 0 that is accepted, and a number that it writes: frequency f of line j
pub record Writes (kind side lines j f : ℕ) (src dst : List ℤ) : Type 0 where
  pub accepted : pass_answer side kind (pos 0) lines (length src) (length dst) ≡ answers (side * lines)
  pub line : j < lines
  pub frequency : f < side

-- that number, as it stands in dst afterwards
abbrev pub number : ℕ → ℕ → ℕ → ℕ → ℕ → List ℤ → List ℤ → ℤ
number kind side lines j f src dst = get_or (pass_after side kind (pos 0) lines src dst) (j * side + f) (pos 0)

-- "raw kernel sums": it is the sum itself, reduced to 32 bits by wrapping
abbrev pub RawSums : Type 0
RawSums =
    (kind side lines j f : ℕ) (src dst : List ℤ) → Writes kind side lines j f src dst
    → number kind side lines j f src dst ≡ wrap32 (pass_sum kind side lines src j f)

-- and so a line of which sample k alone is 1, the others 0, gives column k of the kernel
abbrev pub KernelColumns : Type 0
KernelColumns =
    (kind side lines j f k : ℕ) (src dst : List ℤ) → Writes kind side lines j f src dst → k < side → get_or src (k * lines + j) (pos 0) ≡ pos 1
    → ((i : ℕ) → i < side → (i ≡ k → ⊥) → get_or src (i * lines + j) (pos 0) ≡ pos 0)
    → number kind side lines j f src dst ≡ kernel kind side f k
