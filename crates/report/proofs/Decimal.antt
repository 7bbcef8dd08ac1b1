-- A number's decimal digits, and how long a text is. Assumes nothing.
use mathlib.Core.Bool.{Bool, true, false, cond}
use mathlib.Core.List.{List, ◌++◌, ◌∷◌, []}
use mathlib.Core.Logic.{⊎_elim}
use mathlib.Core.Path.{◌≡◌, refl, sym, ap}
use Prim.Native.Nat.{ℕ, zero, suc, ◌+◌, ◌*◌, ◌-◌, ◌/◌, ◌%◌, ◌^◌, ◌≤◌, ◌<◌}
use native.Mathlib.Nat.{le_trans, pow-le-pow_right}
use native.Mathlib.Omega.{arith}
use borrow.Author.Tests.{le-leb, lt-leb}
use lib.Dec.{leb, lit<}
use lib.ListN.{length, length-append}
use Rattle.io.specs.Digits.{hex_digit_ascii, last_digits, IsDigitCount}
use Rattle.laws.proofs.Place.{split}
use Rattle.laws.proofs.Sum.{sum_ℕ_first, sum_ℕ_most}
use Rattle.laws.specs.Store.{tab}
use Rattle.laws.specs.Sum.{sum_ℕ}
use Rattle.totals.specs.Totals.{Reported, totals, refused}
use Rattle.report.specs.Text.{ascii, digit_count, decimal, line, text_of}

length_digits : (k n : ℕ) → length (last_digits 10 k n) ≡ k
length_digits zero n = refl
length_digits (suc k) n = omega (arith, length-append (last_digits 10 k (n / 10)) (hex_digit_ascii (n % 10) ∷ []), length_digits k (n / 10))

bit_most : (b : Bool) → cond b 1 0 ≤ 1 * 1
bit_most true = omega arith
bit_most false = omega arith

count_most : (n : ℕ) → digit_count n ≤ 20
unfolding sum_ℕ
count_most n = omega (arith, sum_ℕ_most 19 1 (λ i. cond (leb (10 ^ (i + 1)) n) 1 0) (λ i. 1) (λ i h. bit_most (leb (10 ^ (i + 1)) n)))

-- the fewest digits that hold a number of 64 bits
pub few : (n r : ℕ) → n < 2 ^ 64 → IsDigitCount 10 1 n r → r ≤ 20
few n r small f =
    ⊎_elim
    (λ l.
    let above : 20 ≤ r - 1 = omega arith in
    let p : 10 ^ 20 ≤ 10 ^ (r - 1) = pow-le-pow_right (lit< tt) above in
    absurd (omega (arith, f.2 (omega arith))))
    (λ h. h) (split 20 r)

count_is : (n r : ℕ) → r ≤ 20 → IsDigitCount 10 1 n r → digit_count n ≡ r
count_is n r most f =
    let held = sum_ℕ_first (λ i. leb (10 ^ (i + 1)) n) 19 (r - 1) (omega arith)
    (λ i l.
    let p : 10 ^ (i + 1) ≤ 10 ^ (r - 1) = pow-le-pow_right (lit< tt) (omega arith) in
    le-leb (10 ^ (i + 1)) n (le_trans p (f.2 (omega arith))))
    (λ i a l.
    let p : 10 ^ r ≤ 10 ^ (i + 1) = pow-le-pow_right (lit< tt) (omega arith) in
    lt-leb (10 ^ (i + 1)) n (omega (arith, f.1))) in
    omega (arith, held, f.0)

pub spelt : (n r : ℕ) → n < 2 ^ 64 → IsDigitCount 10 1 n r → last_digits 10 r n ≡ decimal n
unfolding decimal
spelt n r small f = ap (λ (k : ℕ). last_digits 10 k n) (sym (count_is n r (few n r small f) f))

pub line_length_lem : (word : List ℕ) (n : ℕ) → length (line word n) ≤ length word + 21
unfolding line decimal ascii tab
line_length_lem word n =
    omega (
      arith,
      length-append word (last_digits 10 (digit_count n) n ++ (10 ∷ [])),
      length-append (last_digits 10 (digit_count n) n) (10 ∷ []),
      length_digits (digit_count n) n,
      count_most n,
    )

pub text_length : (report : Reported) → length (text_of report) ≤ 87
unfolding text_of ascii tab
text_length (totals b l m) =
    let x = line (ascii "blocks ") b in
    let y = line (ascii "levels ") l in
    let z = line (ascii "magnitude ") m in
    omega (
      arith,
      length-append x (y ++ z),
      length-append y z,
      line_length_lem (ascii "blocks ") b,
      line_length_lem (ascii "levels ") l,
      line_length_lem (ascii "magnitude ") m,
    )
text_length (refused k) = omega (arith, line_length_lem (ascii "refused ") k)
