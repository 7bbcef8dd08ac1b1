-- The mirror rule of the DCT kernels and the symmetry of their odd squares: each a test that the checker computes over the table, carried to each entry. Assumes nothing.
use mathlib.Core.Path.{◌≡◌, refl, sym, ap, ◌∙◌}
use mathlib.Core.Bool.{true, cond}
use mathlib.Core.List.{List}
use Prim.Native.Nat.{ℕ, zero, suc, ◌+◌, ◌*◌, ◌-◌, ◌%◌, ◌^◌, ◌<◌}
use native.Mathlib.Omega.{arith}
use lib.Dec.{eqb}
use lib.IntN.{ℤ, pos, neg_ℤ}
use lib.ListN.{get_or, drop}
use lib.Seq.{get_or-drop}
use Rattle.laws.specs.Table.{eq_ℤ, every, every_row, same_row}
use Rattle.laws.proofs.Table.{same_rows, same_each}
use Rattle.kernels.specs.Dct.{dct, dct32, row_start}
use Rattle.kernels.specs.Mirror.{negated_if_odd, odd_half, Symmetric, OddSymmetry}

-- at side n: "entry (k, 31-c) equals entry (k, c), negated when k is odd", with n - 1 for 31
unfoldable pub Mirrors : ℕ → Type 0
Mirrors n = (f k : ℕ) → f < n → k < n → dct n f (n - 1 - k) ≡ negated_if_odd f (dct n f k)

-- at an even frequency nothing is negated, at an odd one everything is
pub even_kept : (g : ℕ) (z : ℤ) → negated_if_odd (2 * g) z ≡ z
even_kept g z = let e : 2 * g % 2 ≡ 0 = omega arith in ap (λ (m : ℕ). cond (eqb m 1) (neg_ℤ z) z) e

pub odd_negated : (g : ℕ) (z : ℤ) → negated_if_odd (2 * g + 1) z ≡ neg_ℤ z
odd_negated g z = let e : (2 * g + 1) % 2 ≡ 1 = omega arith in ap (λ (m : ℕ). cond (eqb m 1) (neg_ℤ z) z) e

abbrev backwards : ℕ → ℕ → List ℤ → ℕ → ℤ
backwards n f row k = get_or row (n - 1 - k) (pos 0)

abbrev signed : ℕ → List ℤ → ℕ → ℤ
signed f row k = negated_if_odd f (get_or row k (pos 0))

-- the table from the row of frequency f on, where a row of side n begins every step numbers
row : (n f step k : ℕ) → row_start n f ≡ f * step → get_or (drop (f * step) dct32) k (pos 0) ≡ dct n f k
unfolding dct
row n f step k e = get_or-drop (f * step) dct32 k (pos 0) ∙ ap (λ (p : ℕ). get_or dct32 (p + k) (pos 0)) (sym e)

by_rows : (n step : ℕ) → ((f : ℕ) → row_start n f ≡ f * step) → every_row (same_row n (backwards n) signed) step n 0 dct32 ≡ true → Mirrors n
unfolding Mirrors
by_rows n step e t f k hf hk =
    sym (row n f step (n - 1 - k) (e f)) ∙ same_rows n step n (backwards n) signed dct32 t f k hf hk ∙ ap (negated_if_odd f) (row n f step k (e f))

-- at every side, and at 2, where the folds end: n is 2 to the first to the fifth power
pub mirror : (e : ℕ) → e < 5 → Mirrors (2 ^ suc e)
unfolding dct32
mirror zero h = by_rows 2 512 (λ f. omega arith) refl
mirror (suc zero) h = by_rows 4 256 (λ f. omega arith) refl
mirror (suc (suc zero)) h = by_rows 8 128 (λ f. omega arith) refl
mirror (suc (suc (suc zero))) h = by_rows 16 64 (λ f. omega arith) refl
mirror (suc (suc (suc (suc zero)))) h = by_rows 32 32 (λ f. omega arith) refl
mirror (suc (suc (suc (suc (suc e))))) h = absurd (omega arith)

-- ---- symmetry

by_test : (h : ℕ) → every h (λ r. every h (λ k. eq_ℤ (odd_half h r k) (odd_half h k r))) ≡ true → Symmetric h
unfolding Symmetric
by_test h t = same_each h h (odd_half h) (λ r k. odd_half h k r) t

pub symmetry : OddSymmetry
unfolding dct dct32
symmetry zero b = by_test 1 refl
symmetry (suc zero) b = by_test 2 refl
symmetry (suc (suc zero)) b = by_test 4 refl
symmetry (suc (suc (suc zero))) b = by_test 8 refl
symmetry (suc (suc (suc (suc zero)))) b = by_test 16 refl
symmetry (suc (suc (suc (suc (suc d))))) b = absurd (omega arith)
