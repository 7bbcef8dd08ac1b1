-- The report of a file, held against what the reader gives.
use Rattle.std.specs.Prelude.{cond, List, ◌≡◌, ℕ, ◌^◌, ◌<◌, ℤ, pos, nat_abs, length, get_or}
use Rattle.laws.specs.Sum.{sum_ℕ}
use Rattle.answer.specs.Answer.{answers}
use Rattle.format.specs.Pieces.{Bytes, stands}
use Rattle.format.specs.Format.{parse}
use Rattle.look.specs.Look.{places_of, list_found}
use Rattle.reader.specs.Read.{read_answer, levels_after}
use Rattle.totals.specs.Totals.{totals, report_of}

-- "Each total equals the total over the list of blocks that the reader gives": where a reading is accepted, the blocks are what it answers, and
-- the other totals what one adds up by hand in the levels that it leaves, place by place
abbrev pub AsRead : Type 0
AsRead =
    (s n₀ s₀ : List ℕ) (l₀ : List ℤ) (n : ℕ) → Bytes s → length s < 2 ^ 36
    → read_answer (parse s) (length n₀) (length s₀) (length l₀) ≡ answers n →
    let level : (ℕ → ℤ) = λ p. get_or (levels_after s n₀ s₀ l₀) p (pos 0) in
    let places = places_of (list_found (parse s)) in
    report_of s ≡ totals n (sum_ℕ places (λ p. cond (stands (level p)) 1 0)) (sum_ℕ places (λ p. nat_abs (level p)))
