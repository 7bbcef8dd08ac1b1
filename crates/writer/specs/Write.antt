-- The writer: the list of blocks that lent buffers hold, what the writer answers, and the bytes that it leaves.
use Rattle.std.specs.Prelude.{Bool, not, ◌||◌, List, [], ◌∷◌, ℕ, ◌+◌, ◌-◌, ◌*◌, min, ltb, ℤ, pos, length, get_or, take, drop}
use Rattle.laws.specs.Store.{tab, over}
use Rattle.laws.specs.Sum.{sum_ℕ}
use Rattle.laws.specs.Table.{every}
use Rattle.answer.specs.Answer.{Answer, lowest, after}
use Rattle.sizes.specs.Size.{is_side}
use Rattle.format.specs.Pieces.{are_near}
use Rattle.format.specs.Format.{Block, bytes_of}

-- ---- the blocks in lent buffers

-- the level p places on from a place of a buffer. No public contract mentions it
abbrev pub level_from : List ℤ → ℕ → ℕ → ℤ
level_from levels place p = get_or levels (place + p) (pos 0)

-- the level at a place of a buffer, and a block with the levels of one. No public contract mentions them
abbrev pub level_at : List ℤ → ℕ → ℤ
level_at levels p = get_or levels p (pos 0)

abbrev pub block_of : ℕ → ℕ → ℕ → List ℤ → Block
block_of number w h levels = record { number = number; w = w; h = h; levels = levels }

-- a block with its levels from a place of a buffer on
unfoldable pub block_from : ℕ → ℕ → ℕ → List ℤ → ℕ → Block
block_from number w h levels place = record { number = number; w = w; h = h; levels = take (w * h) (drop place levels) }

-- the places of block k, and where its levels begin
abbrev pub places_at : List ℕ → ℕ → ℕ
places_at sides k = get_or sides (2 * k) 0 * get_or sides (2 * k + 1) 0

unfoldable pub place_at : List ℕ → ℕ → ℕ
place_at sides k = sum_ℕ k (places_at sides)

-- block k, and the list of count blocks
unfoldable pub block_at : List ℕ → List ℕ → List ℤ → ℕ → Block
block_at numbers sides levels k = block_from (get_or numbers k 0) (get_or sides (2 * k) 0) (get_or sides (2 * k + 1) 0) levels (place_at sides k)

unfoldable pub blocks_in : ℕ → List ℕ → List ℕ → List ℤ → List Block
blocks_in count numbers sides levels = tab count (block_at numbers sides levels)

-- the bytes of the first k blocks, which their numbers don't change. No public contract mentions it
unfoldable pub length_to : List ℕ → List ℤ → ℕ → ℕ
length_to sides levels k = length (bytes_of (blocks_in k [] sides levels))

-- ---- the tests

-- number 1, "by the sides that are lent"
abbrev pub are_sides : ℕ → List ℕ → Bool
are_sides count sides = every (min (2 * count) (length sides)) (λ i. is_side (get_or sides i 0))

-- number 3: a buffer too short for the count of blocks, for the levels of these sides, or for the bytes
abbrev pub is_short : ℕ → List ℕ → List ℕ → List ℤ → ℕ → Bool
is_short count numbers sides levels room =
    (ltb (length numbers) count || ltb (length sides) (2 * count))
    || (ltb (length levels) (place_at sides count) || ltb room (length (bytes_of (blocks_in count numbers sides levels))))

-- number 12
abbrev pub is_rising : ℕ → List ℕ → Bool
is_rising count numbers = every (count - 1) (λ k. ltb (get_or numbers k 0) (get_or numbers (k + 1) 0))

-- "The writer is told the count of blocks and gives 1, 3, 11, 12, lowest first"
abbrev pub by_buffers : ℕ → List ℕ → List ℕ → List ℤ → ℕ → List (Bool × ℕ)
by_buffers count numbers sides levels room =
    (not (are_sides count sides), 1) ∷ (is_short count numbers sides levels room, 3) ∷ (not (are_near (place_at sides count) levels), 11)
    ∷ (not (is_rising count numbers), 12) ∷ []

-- ---- the writer

-- it answers "the bytes written"
unfoldable pub write_answer : ℕ → List ℕ → List ℕ → List ℤ → ℕ → Answer
write_answer count numbers sides levels room =
    lowest (by_buffers count numbers sides levels room) (length (bytes_of (blocks_in count numbers sides levels)))

-- the bytes after a call: the list's at the front, and every byte behind them as it was
unfoldable pub bytes_after : ℕ → List ℕ → List ℕ → List ℤ → List ℕ → List ℕ
bytes_after count numbers sides levels out =
    after (write_answer count numbers sides levels (length out)) (over (bytes_of (blocks_in count numbers sides levels)) out) out
