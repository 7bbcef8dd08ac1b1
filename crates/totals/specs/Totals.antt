-- The totals of a record file ("Reel report for the catalogue").
use Rattle.std.specs.Prelude.{Bool, true, cond, List, ◌⊎◌, ◌≡◌, ℕ, ◌*◌, ◌^◌, ◌≤◌, leb, nat_abs, length, Result, Ok, Err}
use Rattle.laws.specs.Sum.{sum_ℕ, sum_of}
use Rattle.answer.specs.Answer.{number_of}
use Rattle.answer.specs.declared.Refusal.{Refusal}
use Rattle.format.specs.Pieces.{Bytes, standing, stands}
use Rattle.format.specs.Format.{Block, level_of, bytes_of, are_blocks, Found, blocks, damage, parse}
use Rattle.totals.specs.declared.Totals.{Totals}

-- ---- the totals of a list of blocks

-- "the blocks"
abbrev pub block_count : List Block → ℕ
block_count bs = length bs

-- "the nonzero levels": of one block, by its places, and of all
unfoldable pub nonzero_in : Block → ℕ
nonzero_in b = standing (λ p. stands (level_of b p)) (b.w * b.h)

abbrev pub level_count : List Block → ℕ
level_count bs = sum_of nonzero_in bs

-- "the sum of their magnitudes"
unfoldable pub magnitude_in : Block → ℕ
magnitude_in b = sum_ℕ (b.w * b.h) (λ p. nat_abs (level_of b p))

abbrev pub magnitude_sum : List Block → ℕ
magnitude_sum bs = sum_of magnitude_in bs

-- ---- the report of a file

-- what a report says: the blocks, the nonzero levels and the sum of magnitudes, or a refusal's number
pub data Reported : Type 0 where
  totals : ℕ → ℕ → ℕ → Reported
  refused : ℕ → Reported

abbrev pub reported : Result Totals Refusal → Reported
reported (Ok t) = totals t.blocks t.levels t.magnitude
reported (Err why) = refused (number_of why)

-- "Each total equals the total over the list of blocks that the reader gives", or the reader's refusal
abbrev pub totals_of : Found → Reported
totals_of (blocks bs) = totals (block_count bs) (level_count bs) (magnitude_sum bs)
totals_of (damage k) = refused k

-- "16 when the file is too long .., checked before all else": from 2^36 bytes on a sum may pass 64 bits
abbrev pub is_long : List ℕ → Bool
is_long s = leb (2 ^ 36) (length s)

unfoldable pub report_of : List ℕ → Reported
report_of s = cond (is_long s) (refused 16) (totals_of (parse s))

-- ---- what holds of every report

-- in a file below 2^36 bytes no sum passes 64 bits: a level that isn't zero has four bytes, and its magnitude is at most 2^30
abbrev pub SumFits : Type 0
SumFits = (bs : List Block) → are_blocks 0 bs ≡ true → (4 * level_count bs ≤ length (bytes_of bs)) × (magnitude_sum bs ≤ 2 ^ 30 * level_count bs)

-- a refused file has 16 or the reader's 10, 11 or 12; "Totals need no unpacked levels", so 3 isn't among them
abbrev pub Refusals : Type 0
Refusals = (s : List ℕ) → Bytes s → (k : ℕ) → report_of s ≡ refused k → (k ≡ 16) ⊎ (k ≡ 10) ⊎ (k ≡ 11) ⊎ (k ≡ 12)
