-- The theorems about the format: blocks and bytes are each other's, and every string of bytes is decided.
use Rattle.std.specs.Prelude.{true, List, [], ◌∷◌, ◌⊎◌, ◌≡◌, ℕ, ◌+◌, drop}
use Rattle.format.specs.Pieces.{Bytes, number_at}
use Rattle.format.specs.Format.{Block, bytes_of, are_blocks, length_in, block_in, record_answer, blocks, damage, before, unless_refused, found_from, parse}

-- a list that has bytes is read back from them
abbrev pub ReadBack : Type 0
ReadBack = (bs : List Block) → are_blocks 0 bs ≡ true → parse (bytes_of bs) ≡ blocks bs

-- "The writer makes the only bytes that the reader accepts for a list of blocks."
abbrev pub OnlyBytes : Type 0
OnlyBytes = (s : List ℕ) → Bytes s → (bs : List Block) → parse s ≡ blocks bs → (s ≡ bytes_of bs) × (are_blocks 0 bs ≡ true)

-- so no two files read the same
abbrev pub OneFile : Type 0
OneFile = (s t : List ℕ) → Bytes s → Bytes t → (bs : List Block) → parse s ≡ blocks bs → parse t ≡ blocks bs → s ≡ t

-- every string of bytes is a list's, and that list is found; or it is no list's, and 10, 11 or 12 is found
pub record Blocks (s : List ℕ) : Type 0 where
  pub list : List Block
  pub found : parse s ≡ blocks list
  pub bytes : s ≡ bytes_of list
  pub are : are_blocks 0 list ≡ true

pub record Damaged (s : List ℕ) : Type 0 where
  pub number : ℕ
  pub found : parse s ≡ damage number
  pub one : (number ≡ 10) ⊎ (number ≡ 11) ⊎ (number ≡ 12)
  pub none : (bs : List Block) → are_blocks 0 bs ≡ true → s ≡ bytes_of bs → ⊥

abbrev pub Decides : Type 0
Decides = (s : List ℕ) → Bytes s → Blocks s ⊎ Damaged s

-- "No bytes means no blocks.", both ways
abbrev pub NoBytes : Type 0
NoBytes = (parse [] ≡ blocks []) × (bytes_of [] ≡ [])

-- a record decides, or else what comes after it
abbrev pub ByRecord : Type 0
ByRecord =
    (low x : ℕ) (s : List ℕ) →
    let r = x ∷ s in
    found_from low 0 r ≡ unless_refused (record_answer low r) (before (block_in r) (found_from (number_at r 0 + 1) 0 (drop (length_in r) r)))
