-- The odd squares of 1, 2, 4, .., widened one after another. Assumes nothing.
use mathlib.Core.Path.{◌≡◌, refl, sym, ap, ap₂, ◌∙◌, subst}
use mathlib.Core.Logic.{⊎_elim}
use mathlib.Core.List.{List}
use Prim.Native.Nat.{ℕ, zero, suc, ◌+◌, ◌*◌, ◌/◌, ◌^◌, ◌≤◌, ◌<◌}
use native.Mathlib.Nat.{mul-le-mul, mul_assoc, pow-suc, eq-or-lt_of_le}
use native.Mathlib.Omega.{arith}
use lib.Arith.{digits_lt, digits_div, digits_mod}
use lib.IntN.{ℤ, pos}
use lib.ListN.{length}
use lib.Pow.{pow_pos, pow_mono}
use Rattle.laws.specs.Store.{laid}
use Rattle.laws.proofs.Laid.{grid_laid, laid_at, laid_before, length_laid}
use Rattle.laws.proofs.Store.{Lined, lined_all}
use Rattle.laws.proofs.Place.{split, twice}
use Rattle.kernels.specs.Dct.{dct, dct32, row_start}
use Rattle.kernels.proofs.Dct.{in_table}
use Rattle.lines.specs.Line.{from, place}
use Rattle.lines.specs.Table.{from_place, row_number, square_at, OddSquare, OddSquares}

-- ---- one square, row by row

abbrev pub row_places : ℕ → ℕ → ℕ → ℕ → ℕ
row_places to n r = from (to + r * n)

abbrev pub row_numbers : List ℤ → ℕ → ℕ → ℕ → ℕ → ℤ
row_numbers ts first apart r = from_place ts (place first apart r)

pub all_rows : (to first apart : ℕ) (ts : List ℤ) {n r : ℕ} {wide before : List ℤ} → 0 < n → to + n * n ≤ length before
    → Lined wide before r n (row_places to n) (row_numbers ts first apart) → r ≡ n → wide ≡ laid before to (n * n) (row_number ts first apart n)
all_rows to first apart ts {n} {before = before} some room l e =
    lined_all l e ∙ grid_laid before to n n (row_places to n) (row_numbers ts first apart) some room (λ j f. omega arith) (pos 0)

pub few_rows : (d : ℕ) → d < 5 → 2 ^ d ≤ 16
few_rows d b = let l : d ≤ 4 = omega arith in pow_mono {j = 4} l

-- the odd rows of side 2h in the table of side 32
pub odd_row : (d r : ℕ) → d < 5 → place (512 / 2 ^ d) (1024 / 2 ^ d) r ≡ row_start (2 * 2 ^ d) (2 * r + 1)
odd_row zero r b = omega arith
odd_row (suc zero) r b = omega arith
odd_row (suc (suc zero)) r b = omega arith
odd_row (suc (suc (suc zero))) r b = omega arith
odd_row (suc (suc (suc (suc zero)))) r b = omega arith
odd_row (suc (suc (suc (suc (suc d))))) r b = absurd (omega arith)

-- they lie within it
pub odd_row_ends : (d r : ℕ) → d < 5 → r < 2 ^ d → place (512 / 2 ^ d) (1024 / 2 ^ d) r + 2 ^ d ≤ length dct32
odd_row_ends d r b h =
    let few : 2 ^ d ≤ 16 = few_rows d b in
    omega (arith, odd_row d r b, in_table (2 * 2 ^ d) (2 * r + 1) (omega arith) (omega arith))

-- ---- one after another

-- d squares stand in ts, which is as long as it was
pub record Widened (d : ℕ) (ts before : List ℤ) : Type 0 where
  pub squares : (e : ℕ) → e < d → OddSquare (2 ^ e) ts
  pub long : length ts ≡ length before

-- a square of less than half ends before the next begins
squares_apart : (g h : ℕ) → 2 * g ≤ h → square_at g + g * g ≤ square_at h
squares_apart g h b = let m : 2 * g * (2 * g) ≤ h * h = mul-le-mul b b in omega (arith, mul_assoc 2 g (2 * g), twice g g, mul_assoc 2 g g)

powers : (d e : ℕ) → d < e → 2 * 2 ^ d ≤ 2 ^ e
powers d e b = let m : 2 ^ suc d ≤ 2 ^ e = pow_mono b in omega (arith, pow-suc 2 d)

-- the square of a power that is to be widened has room where all have
pub square_room : (d e : ℕ) {n : ℕ} → d < e → square_at (2 ^ e) ≤ n → square_at (2 ^ d) + 2 ^ d * 2 ^ d ≤ n
square_room d e b room = let a = squares_apart (2 ^ d) (2 ^ e) (powers d e b) in omega arith

-- no later store reaches a square that stands before it
kept : (g h : ℕ) (ts : List ℤ) (f : ℕ → ℤ) → 2 * g ≤ h → square_at h + h * h ≤ length ts → OddSquare g ts → OddSquare g (laid ts (square_at h) (h * h) f)
kept g h ts f b room o =
    let apart = squares_apart g h b in
    record {
      inside = omega (arith, o.inside, length_laid ts (square_at h) (h * h) f room);
      entry = λ r k i j.
          laid_before ts (square_at h) (h * h) f room (square_at g + (r * g + k)) (pos 0) (omega (arith, digits_lt i j)) ∙ o.entry r k i j;
    }

-- the numbers of the square of 2 ^ d, and the list with it
abbrev odd_numbers : ℕ → ℕ → ℤ
odd_numbers d = row_number dct32 (512 / 2 ^ d) (1024 / 2 ^ d) (2 ^ d)

abbrev pub with_square : ℕ → List ℤ → List ℤ
with_square d ts = laid ts (square_at (2 ^ d)) (2 ^ d * 2 ^ d) (odd_numbers d)

stands : (d : ℕ) (ts : List ℤ) → d < 5 → square_at (2 ^ d) + 2 ^ d * 2 ^ d ≤ length ts → OddSquare (2 ^ d) (with_square d ts)
unfolding dct
stands d ts few room =
    let h = 2 ^ d in
    record {
      inside = omega (arith, length_laid ts (square_at h) (h * h) (odd_numbers d) room);
      entry = λ r k i j.
          laid_at ts (square_at h) (h * h) (odd_numbers d) room (r * h + k) (pos 0) (digits_lt i j)
          ∙ ap₂ (λ (a b : ℕ). from_place dct32 (place (512 / h) (1024 / h) a) b) (digits_div r j) (digits_mod r j)
          ∙ ap (λ (p : ℕ). from_place dct32 p k) (odd_row d r few);
    }

pub none_yet : {ts : List ℤ} → Widened 0 ts ts
none_yet = record { squares = λ e b. absurd (omega arith); long = refl }

pub one_more : {d : ℕ} {ts before : List ℤ} → Widened d ts before → d < 5 → square_at (2 ^ d) + 2 ^ d * 2 ^ d ≤ length before
    → Widened (d + 1) (with_square d ts) before
one_more {d} {ts} {before} w few room =
    let here : square_at (2 ^ d) + 2 ^ d * 2 ^ d ≤ length ts = omega (arith, w.long) in
    record {
      squares = λ e b.
          ⊎_elim (λ u. subst (λ (i : ℕ). OddSquare (2 ^ i) (with_square d ts)) (sym u) (stands d ts few here))
          (λ l. kept (2 ^ e) (2 ^ d) ts (odd_numbers d) (powers e d l) here (w.squares e l)) (eq-or-lt_of_le (let f : e ≤ d = omega arith in f));
      long = length_laid ts (square_at (2 ^ d)) (2 ^ d * 2 ^ d) (odd_numbers d) here ∙ w.long;
    }

-- all that a line of 2 ^ e numbers reads
pub all_squares : {e : ℕ} {ts before : List ℤ} → Widened e ts before → OddSquares (2 ^ e) ts
all_squares {e} w d b = w.squares d (⊎_elim (λ l. l) (λ m. absurd (let p : 2 ^ e ≤ 2 ^ d = pow_mono m in omega (arith, pow_pos d))) (split d e))

-- one of them
pub one_square : (d : ℕ) {h n : ℕ} {ts : List ℤ} → h ≡ 2 ^ d → OddSquares n ts → 2 * h ≤ n → OddSquare h ts
one_square d {ts = ts} power squares b = subst (λ (k : ℕ). OddSquare k ts) (sym power) (squares d (omega (arith, power)))
