-- What the program prints for document 02's file, for an empty one, for one that is cut short, and where a read fails.
use Rattle.std.specs.Prelude.{true, false, List, [], ◌≡◌, ℕ, take}
use Rattle.format.specs.Examples.{bytes, three, less}
use Rattle.report.specs.Text.{ascii, text_of, file_report}

-- "07 00 00 00 00 21 00 03 00 00 00 FF FF FF FF"
abbrev pub file : List ℕ
file = bytes 7 0 three less

-- "blocks 1", "levels 2", "magnitude 4"; "an empty file prints three zeros"; "as `refused 10`"; "16 when .. a read fails"
abbrev pub Printed : Type 0
Printed =
    (text_of (file_report false file) ≡ ascii "blocks 1\nlevels 2\nmagnitude 4\n")
    × (text_of (file_report false []) ≡ ascii "blocks 0\nlevels 0\nmagnitude 0\n")
    × (text_of (file_report false (take 14 file)) ≡ ascii "refused 10\n")
    × (text_of (file_report true file) ≡ ascii "refused 16\n")
