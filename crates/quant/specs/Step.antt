-- The step of an index ("WHT and steps").
use Rattle.std.specs.Prelude.{cond, List, [], ◌∷◌, ℕ, ◌+◌, ◌-◌, ◌*◌, ◌/◌, ◌%◌, ◌^◌, eqb, leb, get_or}

-- the repository's table, entries 0 to 24
unfoldable pub steps : List ℕ
steps =
    64 ∷ 40 ∷ 41 ∷ 43 ∷ 44 ∷ 45 ∷ 47 ∷ 48 ∷ 49 ∷ 51 ∷ 52 ∷ 54 ∷ 55 ∷ 57 ∷ 59 ∷ 60 ∷ 62 ∷ 64 ∷ 66 ∷ 68 ∷ 70 ∷ 72 ∷ 74 ∷ 76 ∷ 78 ∷ []

-- "1 to 24 read the table; above, entry ((q-1) mod 24)+1 times 2^floor((q-1)/24)."
unfoldable pub step_at : ℕ → ℕ
step_at q = cond (leb q 24) (get_or steps q 0) (get_or steps ((q - 1) % 24 + 1) 0 * 2 ^ ((q - 1) / 24))

-- "0 gives 64; larger than 255 counts as 255"
unfoldable pub step_of : ℕ → ℕ
step_of q = cond (eqb q 0) 64 (step_at (cond (leb q 255) q 255))
