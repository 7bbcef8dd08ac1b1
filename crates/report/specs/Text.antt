-- What the program prints ("Reel report for the catalogue").
use Rattle.std.specs.Prelude.{Bool, cond, ◌||◌, List, ◌++◌, ◌≡◌, ℕ, ◌+◌, ◌^◌, leb, ltb, length}
use Prim.Native.Char.{code}
use Prim.Native.String.{String, len, char_at}
use Rattle.io.specs.Digits.{last_digits}
use Rattle.laws.specs.Store.{tab, over}
use Rattle.laws.specs.Sum.{sum_ℕ}
use Rattle.format.specs.Pieces.{Bytes}
use Rattle.totals.specs.Totals.{Reported, totals, refused, report_of}

-- a text's bytes, one to a character
unfoldable pub ascii : String → List ℕ
ascii t = tab (len t) (λ i. code (char_at t i))

-- a number below 10^20 in decimal: a digit, and one more for each power of ten from 10 on that isn't above it
abbrev pub digit_count : ℕ → ℕ
digit_count n = 1 + sum_ℕ 19 (λ i. cond (leb (10 ^ (i + 1)) n) 1 0)

unfoldable pub decimal : ℕ → List ℕ
decimal n = last_digits 10 (digit_count n) n

unfoldable pub line : List ℕ → ℕ → List ℕ
line word n = word ++ (decimal n ++ ascii "\n")

-- "three lines: the blocks, the nonzero levels, the sum of their magnitudes"; "A refused file prints one line, as `refused 10`"
unfoldable pub text_of : Reported → List ℕ
text_of (totals b l m) = line (ascii "blocks ") b ++ (line (ascii "levels ") l ++ line (ascii "magnitude ") m)
text_of (refused k) = line (ascii "refused ") k

-- where a report's text stands at the front of a buffer that was old, n bytes of it
pub record PrintedAs (report : Reported) (old : List ℕ) (n : ℕ) (new : List ℕ) : Type 0 where
  pub value : n ≡ length (text_of report)
  pub out_after : new ≡ over (text_of report) old

-- "16 when the file is too long or a read fails, checked before all else": the report of a file that was read, or whose reading failed
unfoldable pub file_report : Bool → List ℕ → Reported
file_report failed s = cond (failed || ltb 65536 (length s)) (refused 16) (report_of s)

-- "number 3 is never printed"
abbrev pub NeverThree : Type 0
NeverThree = (failed : Bool) (s : List ℕ) → Bytes s → file_report failed s ≡ refused 3 → ⊥
