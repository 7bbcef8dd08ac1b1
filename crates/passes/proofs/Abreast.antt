-- Lines that are worked some at a time: how many times, and their sums. Assumes nothing.
use mathlib.Core.Path.{◌≡◌, refl, sym, ap, ◌∙◌, subst}
use mathlib.Core.Bool.{true}
use mathlib.Core.List.{List}
use Prim.Native.Nat.{ℕ, ◌+◌, ◌*◌, ◌/◌, ◌≤◌, ◌<◌}
use native.Mathlib.Nat.{mul_comm}
use native.Mathlib.Omega.{arith}
use lib.Dec.{lit<}
use lib.IntN.{ℤ, pos}
use lib.ListN.{length, replicate, length-replicate}
use mir.Syntax.{w32}
use mir.Val.{SFits}
use Rattle.std.proofs.lemmas.List.{get_or-replicate}
use Rattle.laws.proofs.Place.{line_ends}
use Rattle.sizes.specs.Size.{is_side}
use Rattle.sizes.proofs.Side.{each_side}
use Rattle.lines.specs.Line.{number}
use Rattle.lines.proofs.Sum.{Summed, sum_none}
use Rattle.passes.specs.Fold.{Abreast}

pub by_fours : {lines : ℕ} → lines ≡ 4 → Abreast 4 lines
by_fours e = record { some = lit< tt; whole = omega arith }

pub by_eights : {lines : ℕ} → is_side lines ≡ true → (lines ≡ 4 → ⊥) → Abreast 8 lines
by_eights {lines} sided other =
    record {
      some = lit< tt;
      whole = each_side (λ n. (n ≡ 4 → ⊥) → 8 * (n / 8) ≡ n) (λ no. absurd (no refl)) (λ no. refl) (λ no. refl) (λ no. refl) lines sided other;
    }

-- the b lines from line b × i on end within all
pub some_end : {b lines : ℕ} → Abreast b lines → (i : ℕ) → i < lines / b → b * i + b ≤ lines
some_end {b} {lines} r i u =
    let all : b ≤ b = omega arith in
    omega (arith, line_ends i b {m = lines / b} {n = b} {l = lines} (omega (arith, r.whole, mul_comm b (lines / b))) u all, mul_comm b i)

-- no line is left over
pub all_done : {b lines : ℕ} → Abreast b lines → (i : ℕ) → i ≡ lines / b → b * i ≡ lines
all_done {b} r i u = ap (λ (k : ℕ). b * k) u ∙ r.whole

-- of each of b lines z, the half and the first k products with the factors a
pub record Added (b k : ℕ) (half : ℤ) (a : ℕ → ℤ) (z : ℕ → ℕ → ℤ) (sums : List ℤ) : Type 0 where
  pub at : (i : ℕ) → i < b → Summed (number sums i) half k a (z i)
  pub long : length sums ≡ b

pub added_none : (b : ℕ) {half : ℤ} {a : ℕ → ℤ} {z : ℕ → ℕ → ℤ} → SFits w32 half → Added b 0 half a z (replicate b half)
added_none b {half} {a} {z} f =
    record {
      at = λ i u. subst (λ (s : ℤ). Summed s half 0 a (z i)) (sym (get_or-replicate b i half (pos 0) u)) (sum_none f);
      long = length-replicate b half;
    }
