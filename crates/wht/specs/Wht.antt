-- The WHT of a 4×4 block ("WHT and steps"), over exact integers.
use Rattle.std.specs.Prelude.{not, ◌||◌, List, [], ◌∷◌, ℕ, ◌+◌, ◌*◌, ◌/◌, ◌%◌, ltb, ℤ, pos, ◌+ℤ◌, ◌-ℤ◌, length, get_or}
use Rattle.answer.specs.Answer.{Answer, lowest, after}
use Rattle.laws.specs.Integer.{floor_div}
use Rattle.laws.specs.Store.{laid}
use Rattle.residual.specs.Residual.{residuals_ok}

-- "The WHT of four (p, q, r, s): e = floor((p+q+r-s)/2), giving in this order (p+q+r-e, e-r, s-r+e-q, e-q)."
unfoldable pub wht_four : ℤ → ℤ → ℤ → ℤ → List ℤ
wht_four p q r s =
    let e = floor_div (p +ℤ q +ℤ r -ℤ s) 2 in
    (p +ℤ q +ℤ r -ℤ e) ∷ (e -ℤ r) ∷ (s -ℤ r +ℤ e -ℤ q) ∷ (e -ℤ q) ∷ []

-- number f of the WHT of a line x of four
unfoldable pub line_of : (ℕ → ℤ) → ℕ → ℤ
line_of x f = get_or (wht_four (x 0) (x 1) (x 2) (x 3)) f (pos 0)

-- a block x is row-major: place p lies in row p / 4 and column p % 4. Every column through the WHT of four, and every row
unfoldable pub columns : (ℕ → ℤ) → ℕ → ℤ
columns x p = line_of (λ k. x (k * 4 + p % 4)) (p / 4)

unfoldable pub rows : (ℕ → ℤ) → ℕ → ℤ
rows x p = line_of (λ k. x (p / 4 * 4 + k)) (p % 4)

-- "Columns first, then rows."
unfoldable pub wht_of : List ℤ → ℕ → ℤ
wht_of residuals = rows (columns (λ k. get_or residuals k (pos 0)))

-- refused by 3 and 4, where room is the length of the output. "It writes 16 numbers and answers 16."
unfoldable pub wht_answer : List ℤ → ℕ → Answer
wht_answer residuals room =
    lowest
    ((ltb (length residuals) 16 || ltb room 16, 3)
    ∷ (not (residuals_ok 16 residuals), 4)
    ∷ [])
    16

-- the output after the call
unfoldable pub wht_after : List ℤ → List ℤ → List ℤ
wht_after residuals output = after (wht_answer residuals (length output)) (laid output 0 16 (wht_of residuals)) output
