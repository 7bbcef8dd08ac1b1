-- The reader: what it answers, and what it leaves in the lent buffers.
use Rattle.std.specs.Prelude.{◌||◌, List, [], ◌∷◌, ◌++◌, ℕ, ◌*◌, ltb, ℤ, length}
use Rattle.laws.specs.Store.{over}
use Rattle.answer.specs.Answer.{Answer, refuses, lowest, after}
use Rattle.format.specs.Format.{Block, Found, blocks, damage, parse}
use Rattle.look.specs.Look.{places_of, list_found}

-- ---- "In lent buffers a list is its block numbers, its sides (w, then h, for each), and each block's w×h levels by place, block after
-- block without gaps."

unfoldable pub numbers_of : List Block → List ℕ
numbers_of [] = []
numbers_of (b ∷ bs) = b.number ∷ numbers_of bs

unfoldable pub sides_of : List Block → List ℕ
sides_of [] = []
sides_of (b ∷ bs) = b.w ∷ b.h ∷ sides_of bs

unfoldable pub levels_of : List Block → List ℤ
levels_of [] = []
levels_of (b ∷ bs) = b.levels ++ levels_of bs

-- ---- the reader

-- "3 for short lent buffers comes after them": with buffers for numbers, sides and levels of these lengths
abbrev pub read_answer : Found → ℕ → ℕ → ℕ → Answer
read_answer (blocks bs) numbers sides levels =
    lowest ((ltb numbers (length bs) || (ltb sides (2 * length bs) || ltb levels (places_of bs)), 3) ∷ []) (length bs)
read_answer (damage k) numbers sides levels = refuses k

-- each lent buffer after a call: the list at its front, and every number behind it as it was
unfoldable pub numbers_after : List ℕ → List ℕ → List ℕ → List ℤ → List ℕ
numbers_after s numbers sides levels =
    after (read_answer (parse s) (length numbers) (length sides) (length levels)) (over (numbers_of (list_found (parse s))) numbers) numbers

unfoldable pub sides_after : List ℕ → List ℕ → List ℕ → List ℤ → List ℕ
sides_after s numbers sides levels =
    after (read_answer (parse s) (length numbers) (length sides) (length levels)) (over (sides_of (list_found (parse s))) sides) sides

unfoldable pub levels_after : List ℕ → List ℕ → List ℕ → List ℤ → List ℤ
levels_after s numbers sides levels =
    after (read_answer (parse s) (length numbers) (length sides) (length levels)) (over (levels_of (list_found (parse s))) levels) levels
