-- A look through bytes: what is found in them, as an answer and as blocks, and what one record lists.
use Rattle.std.specs.Prelude.{ℕ, ◌*◌, Bool, cond, ◌&&◌, List, [], length, unsigned_abs}
use Rattle.laws.specs.Sum.{sum_ℕ, sum_of}
use Rattle.laws.specs.Table.{every}
use Rattle.answer.specs.Answer.{Answer, answers, refuses}
use Rattle.format.specs.Pieces.{stands, is_near}
use Rattle.format.specs.Format.{Block, places_in, count_in, listed_in, is_cut, Found, blocks, damage}

-- ---- all records

-- the places of a block, and of all
abbrev pub area_of : Block → ℕ
area_of b = b.w * b.h

abbrev pub places_of : List Block → ℕ
places_of bs = sum_of area_of bs

-- "The reader answers the blocks read". No public contract mentions it
abbrev pub counted : Found → Answer
counted (blocks bs) = answers (length bs)
counted (damage k) = refuses k

-- the blocks that are found, none where the bytes are damaged
abbrev pub list_found : Found → List Block
list_found (blocks bs) = bs
list_found (damage k) = []

-- ---- one record: s is the bytes from its first on

-- how many levels it lists, and the sum of their magnitudes. No public contract mentions them
abbrev pub listed_count : List ℕ → ℕ
listed_count s = count_in s (places_in s)

unfoldable pub listed_sum : List ℕ → ℕ
listed_sum s = sum_ℕ (listed_count s) (λ i. unsigned_abs (listed_in s i))

-- whether the first n are nonzero and "within 2^30 of zero". No public contract mentions it
abbrev pub are_right : List ℕ → ℕ → Bool
are_right s n = every n (λ i. stands (listed_in s i) && is_near (listed_in s i))

-- what is counted in it, 0 where the bytes end inside it. No public contract mentions it
abbrev pub unless_cut : List ℕ → ℕ → ℕ
unless_cut s n = cond (is_cut s) 0 n
