-- Document 02's record in lent buffers, both ways, and the order of the refusals.
use Rattle.std.specs.Prelude.{List, [], ◌∷◌, ◌++◌, ◌≡◌, ℕ, ℤ, pos, negsuc, replicate, take}
use Rattle.answer.specs.Answer.{answers, refuses}
use Rattle.format.specs.Examples.{bytes, three, less}
use Rattle.format.specs.Format.{parse}
use Rattle.reader.specs.Read.{read_answer, numbers_after, sides_after, levels_after}
use Rattle.writer.specs.Write.{write_answer, bytes_after}

-- "Block 7, 4×4, with 3 at place 0 and -1 at 5", and the first level another
abbrev pub levels : ℤ → List ℤ
levels l = l ∷ pos 0 ∷ pos 0 ∷ pos 0 ∷ pos 0 ∷ negsuc 0 ∷ replicate 10 (pos 0)

-- "is 07 00 00 00 00 21 00 03 00 00 00 FF FF FF FF"
abbrev pub text : List ℕ
text = bytes 7 0 three less

-- written into 17 bytes, of which the last two are kept
abbrev pub Written : Type 0
Written =
    (write_answer 1 (7 ∷ []) (4 ∷ 4 ∷ []) (levels (pos 3)) 17 ≡ answers 15)
    × (bytes_after 1 (7 ∷ []) (4 ∷ 4 ∷ []) (levels (pos 3)) (replicate 17 9) ≡ text ++ (9 ∷ 9 ∷ []))

-- read into buffers with one number more, which is kept
abbrev pub Read : Type 0
Read =
    (read_answer (parse text) 2 3 17 ≡ answers 1)
    × (numbers_after text (1 ∷ 2 ∷ []) (1 ∷ 2 ∷ 3 ∷ []) (replicate 17 (pos 9)) ≡ 7 ∷ 2 ∷ [])
    × (sides_after text (1 ∷ 2 ∷ []) (1 ∷ 2 ∷ 3 ∷ []) (replicate 17 (pos 9)) ≡ 4 ∷ 4 ∷ 3 ∷ [])
    × (levels_after text (1 ∷ 2 ∷ []) (1 ∷ 2 ∷ 3 ∷ []) (replicate 17 (pos 9)) ≡ levels (pos 3) ++ (pos 9 ∷ []))

-- in reading, 3 comes after damage: bytes that are right, and one byte less, with each buffer one short
abbrev pub ReadRefused : Type 0
ReadRefused =
    read_answer (parse text) 0 2 16 ∷ read_answer (parse text) 1 1 16 ∷ read_answer (parse text) 1 2 15 ∷ read_answer (parse (take 14 text)) 0 0 0 ∷ []
    ≡ refuses 3 ∷ refuses 3 ∷ refuses 3 ∷ refuses 10 ∷ []

-- in writing, 1, 3, 11, 12, lowest first: a list with all four faults, mended one by one. No blocks are no bytes
abbrev pub WriteRefused : Type 0
WriteRefused =
    write_answer 2 (7 ∷ 7 ∷ []) (4 ∷ 4 ∷ 4 ∷ 5 ∷ []) (levels (pos 1073741825) ++ levels (pos 3)) 29
    ∷ write_answer 2 (7 ∷ 7 ∷ []) (4 ∷ 4 ∷ 4 ∷ 4 ∷ []) (levels (pos 1073741825) ++ levels (pos 3)) 29
    ∷ write_answer 2 (7 ∷ 7 ∷ []) (4 ∷ 4 ∷ 4 ∷ 4 ∷ []) (levels (pos 1073741825) ++ levels (pos 3)) 30
    ∷ write_answer 2 (7 ∷ 7 ∷ []) (4 ∷ 4 ∷ 4 ∷ 4 ∷ []) (levels (pos 1073741824) ++ levels (pos 3)) 30
    ∷ write_answer 2 (7 ∷ 8 ∷ []) (4 ∷ 4 ∷ 4 ∷ 4 ∷ []) (levels (pos 1073741824) ++ levels (pos 3)) 30
    ∷ write_answer 0 [] [] [] 0 ∷ []
    ≡ refuses 1 ∷ refuses 3 ∷ refuses 11 ∷ refuses 12 ∷ answers 30 ∷ answers 0 ∷ []
