-- The shifts of the two passes of a block ("A block").
use Rattle.std.specs.Prelude.{cond, ◌&&◌, List, [], ◌∷◌, ℕ, eqb}

-- w, h, and the shifts (first, second)
unfoldable pub shifts : List (ℕ × ℕ × ℕ × ℕ)
shifts =
    (4, 4, 1, 10) ∷ (8, 8, 2, 10) ∷ (16, 16, 2, 11) ∷ (32, 32, 3, 12) ∷ (4, 8, 1, 11) ∷ (8, 4, 1, 11) ∷ (8, 16, 1, 12) ∷ (16, 8, 2, 11) ∷
    (16, 32, 2, 13) ∷ (32, 16, 3, 12) ∷ (4, 16, 1, 11) ∷ (16, 4, 1, 11) ∷ (8, 32, 1, 12) ∷ (32, 8, 3, 10) ∷ (4, 32, 1, 12) ∷ (32, 4, 1, 12) ∷ []

-- what a table of sizes has for w × h; 0 where it has nothing
unfoldable pub lookup : (ℕ × ℕ × ℕ × ℕ → ℕ) → ℕ → ℕ → List (ℕ × ℕ × ℕ × ℕ) → ℕ
lookup of w h [] = 0
lookup of w h (e ∷ es) = cond (eqb w e.0 && eqb h e.1) (of e) (lookup of w h es)

-- of the columns' pass
unfoldable pub first_shift : ℕ → ℕ → ℕ
first_shift w h = lookup (λ e. e.2) w h shifts

-- of the rows' pass
unfoldable pub second_shift : ℕ → ℕ → ℕ
second_shift w h = lookup (λ e. e.3) w h shifts
