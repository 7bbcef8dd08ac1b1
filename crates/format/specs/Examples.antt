-- Document 02's record, both ways, and what damage to it is called.
use Rattle.std.specs.Prelude.{List, [], ◌∷◌, ◌++◌, ◌≡◌, ℕ, ℤ, pos, negsuc, replicate, take}
use Rattle.format.specs.Format.{Block, bytes_of, blocks, damage, parse}

-- a 4×4 block with levels at places 0 and 5
abbrev pub block : ℕ → ℤ → ℤ → Block
block number a b = record { number = number; w = 4; h = 4; levels = a ∷ pos 0 ∷ pos 0 ∷ pos 0 ∷ pos 0 ∷ b ∷ replicate 10 (pos 0) }

-- its bytes: the number's first, the side byte, and the two levels' four
abbrev pub bytes : ℕ → ℕ → List ℕ → List ℕ → List ℕ
bytes number side a b = number ∷ 0 ∷ 0 ∷ 0 ∷ side ∷ 0x21 ∷ 0 ∷ a ++ b

abbrev pub three : List ℕ
three = 0x03 ∷ 0 ∷ 0 ∷ 0 ∷ []

abbrev pub less : List ℕ
less = 0xff ∷ 0xff ∷ 0xff ∷ 0xff ∷ []

-- "Block 7, 4×4, with 3 at place 0 and -1 at 5 is 07 00 00 00 00 21 00 03 00 00 00 FF FF FF FF."
abbrev pub Written : Type 0
Written = bytes_of (block 7 (pos 3) (negsuc 0) ∷ []) ≡ bytes 7 0 three less

abbrev pub Read : Type 0
Read = parse (bytes 7 0 three less) ≡ blocks (block 7 (pos 3) (negsuc 0) ∷ [])

-- two records; the second cut short; its number not above
abbrev pub Lists : Type 0
Lists =
    parse (bytes 7 0 three less ++ bytes 8 0 three less) ∷ parse (bytes 7 0 three less ++ take 14 (bytes 8 0 three less))
    ∷ parse (bytes 7 0 three less ++ bytes 7 0 three less) ∷ []
    ≡ blocks (block 7 (pos 3) (negsuc 0) ∷ block 8 (pos 3) (negsuc 0) ∷ []) ∷ damage 10 ∷ damage 12 ∷ []

-- levels of zero, 2^30, 2^30 + 1, -2^30 and -2^30 - 1
abbrev pub Levels : Type 0
Levels =
    parse (bytes 7 0 (0 ∷ 0 ∷ 0 ∷ 0 ∷ []) less) ∷ parse (bytes 7 0 (0 ∷ 0 ∷ 0 ∷ 0x40 ∷ []) less)
    ∷ parse (bytes 7 0 (1 ∷ 0 ∷ 0 ∷ 0x40 ∷ []) less) ∷ parse (bytes 7 0 three (0 ∷ 0 ∷ 0 ∷ 0xc0 ∷ []))
    ∷ parse (bytes 7 0 three (0xff ∷ 0xff ∷ 0xff ∷ 0xbf ∷ [])) ∷ []
    ≡ damage 11 ∷ blocks (block 7 (pos 1073741824) (negsuc 0) ∷ [])
    ∷ damage 11 ∷ blocks (block 7 (pos 3) (negsuc 1073741823) ∷ [])
    ∷ damage 11 ∷ []

-- a bad side byte, with the record's length from its lower bits, and the same cut short; the first damaged record decides, and the lowest
-- number within it
abbrev pub Damage : Type 0
Damage =
    parse (bytes 7 0x10 three less) ∷ parse (take 14 (bytes 7 0x10 three less))
    ∷ parse (bytes 7 0x10 three less ++ take 14 (bytes 8 0 three less)) ∷ parse (bytes 7 0 three less ++ bytes 7 0x10 three less) ∷ []
    ≡ damage 11 ∷ damage 10 ∷ damage 11 ∷ damage 11 ∷ []
