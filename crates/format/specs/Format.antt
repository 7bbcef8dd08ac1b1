-- Block records on disk ("Block records on disk"): the bytes of a list of blocks, and the blocks of any bytes.
use Rattle.std.specs.Prelude.{Bool, true, cond, not, ◌&&◌, ◌||◌, List, [], ◌∷◌, ◌++◌, ℕ, zero, suc, ◌+◌, ◌-◌, ◌*◌, ◌/◌, ◌%◌, ◌^◌, eqb, leb, ltb, ℤ, pos, length, get_or}
use Rattle.laws.specs.Store.{tab}
use Rattle.laws.specs.Table.{every}
use Rattle.answer.specs.Answer.{Answer, answers, refuses, lowest}
use Rattle.sizes.specs.Size.{is_side}
use Rattle.format.specs.Pieces.{four, number_at, of_word, side_byte, width_of, height_of, bit_of, standing, map_of, stands, is_near, listed}

-- a block: its number, its sides, and its w × h levels by place
pub record Block : Type 0 where
  pub number : ℕ
  pub w : ℕ
  pub h : ℕ
  pub levels : List ℤ

-- ---- the bytes of a list of blocks

abbrev pub level_of : Block → ℕ → ℤ
level_of b p = get_or b.levels p (pos 0)

-- "A record is a block number .., a side byte .., a bit map .., then only the levels whose bit stands"
unfoldable pub record_of : Block → List ℕ
record_of b =
    four b.number ++ ((side_byte b.w b.h ∷ []) ++ (map_of (b.w * b.h) (level_of b) ++ listed (b.w * b.h) (level_of b)))

-- "No bytes means no blocks."
unfoldable pub bytes_of : List Block → List ℕ
bytes_of [] = []
bytes_of (b ∷ bs) = record_of b ++ bytes_of bs

-- ---- the lists that have bytes

-- a number of four bytes, two sides, and as many levels as places, each "within 2^30 of zero"
unfoldable pub is_block : Block → Bool
is_block b =
    (ltb b.number (2 ^ 32) && (is_side b.w && is_side b.h))
    && (eqb (length b.levels) (b.w * b.h) && every (b.w * b.h) (λ p. is_near (level_of b p)))

-- "block numbers rise strictly": from low on
unfoldable pub are_blocks : ℕ → List Block → Bool
are_blocks low [] = true
are_blocks low (b ∷ bs) = (is_block b && leb low b.number) && are_blocks (b.number + 1) bs

-- ---- a record in bytes: s is the bytes from its first on

unfoldable pub width_in : List ℕ → ℕ
width_in s = width_of (get_or s 4 0)

unfoldable pub height_in : List ℕ → ℕ
height_in s = height_of (get_or s 4 0)

abbrev pub places_in : List ℕ → ℕ
places_in s = width_in s * height_in s

-- whether place p's bit stands
unfoldable pub bit_in : List ℕ → ℕ → Bool
bit_in s p = bit_of (get_or s (5 + p / 8) 0) (p % 8)

-- how many levels are listed for the places below p
abbrev pub count_in : List ℕ → ℕ → ℕ
count_in s p = standing (bit_in s) p

-- where the levels are listed, and the level that is listed after i others
abbrev pub list_in : List ℕ → ℕ
list_in s = 5 + places_in s / 8

unfoldable pub listed_in : List ℕ → ℕ → ℤ
listed_in s i = of_word (number_at s (list_in s + 4 * i))

-- the level at place p
unfoldable pub level_in : List ℕ → ℕ → ℤ
level_in s p = cond (bit_in s p) (listed_in s (count_in s p)) (pos 0)

-- "A record's length comes from the lower four bits of its side byte even when the upper ones are bad."
unfoldable pub length_in : List ℕ → ℕ
length_in s = list_in s + 4 * count_in s (places_in s)

unfoldable pub block_in : List ℕ → Block
block_in s = record { number = number_at s 0; w = width_in s; h = height_in s; levels = tab (places_in s) (level_in s) }

-- 10: "the bytes end inside a record"
abbrev pub is_cut : List ℕ → Bool
is_cut s = ltb (length s) (length_in s)

-- 11: "a side byte's upper four bits aren't zero, or a level is zero or beyond 2^30 from zero"
unfoldable pub is_bad : List ℕ → Bool
is_bad s = not (ltb (get_or s 4 0) 16) || not (every (count_in s (places_in s)) (λ i. stands (listed_in s i) && is_near (listed_in s i)))

-- 12: "a block number isn't above the one before", which is below low. "the lowest number within it"; a record that is right answers its length
unfoldable pub record_answer : ℕ → List ℕ → Answer
record_answer low s = lowest ((is_cut s, 10) ∷ (is_bad s, 11) ∷ (ltb (number_at s 0) low, 12) ∷ []) (length_in s)

-- ---- the blocks of any bytes

-- what bytes hold: blocks, or damage, by its number
pub data Found : Type 0 where
  blocks : List Block → Found
  damage : ℕ → Found

-- a block before what is found after it
abbrev pub before : Block → Found → Found
before b (blocks bs) = blocks (b ∷ bs)
before b (damage k) = damage k

-- "the first damaged record decides"
abbrev pub unless_refused : Answer → Found → Found
unless_refused (answers n) found = found
unless_refused (refuses k) found = damage k

-- what is found past the first skip bytes, where a block's number may be low or more: a record, and then what is found past its length.
-- `ByRecord` says it without the bytes to skip
unfoldable pub found_from : ℕ → ℕ → List ℕ → Found
found_from low skip [] = blocks []
found_from low (suc skip) (x ∷ s) = found_from low skip s
found_from low zero (x ∷ s) =
    unless_refused (record_answer low (x ∷ s))
    (before (block_in (x ∷ s)) (found_from (number_at (x ∷ s) 0 + 1) (length_in (x ∷ s) - 1) s))

unfoldable pub parse : List ℕ → Found
parse s = found_from 0 0 s
