-- Condition 3's sentence, place by place: "after the list a line is marked exactly when an accepted batch in it covers that line, every
-- marked line holds condition 2's numbers, and every number of the two work buffers outside the marked lines is as at opening".
use Rattle.std.specs.Prelude.{◌≡◌, Bool, true, false, List, ℕ, ◌+◌, ◌*◌, ◌/◌, ◌<◌, ℤ, pos, length, get_or}
use Rattle.answer.specs.Answer.{answers}
use Rattle.block.specs.Block.{column_at, row_at}
use Rattle.tickets.specs.Mark.{marked}
use Rattle.tickets.specs.Batch.{line_count}
use Rattle.tickets.specs.declared.Batch.{Batch}
use Rattle.tickets.specs.Open.{open_answer, new_ticket}
use Rattle.tickets.specs.Run.{State, state_at, run}
use Rattle.tickets.specs.Condition3.{covered}

-- of the state after a list: done row j where an accepted batch in it covers line j. A line that is covered is one that the block has
pub record ByPlace (w h ck rk : ℕ) (residuals scratch output : List ℤ) (done : Bool → ℕ → Bool) (after : State) : Type 0 where
  pub covers : (row : Bool) (j : ℕ) → done row j ≡ true → j < line_count w h row
  pub columns_marked : (j : ℕ) → j < 32 → marked after.ticket.columns j ≡ done false j
  pub rows_marked : (j : ℕ) → j < 32 → marked after.ticket.rows j ≡ done true j
  pub columns_hold : (j f : ℕ) → f < h → done false j ≡ true
      → get_or after.scratch (j * h + f) (pos 0) ≡ column_at w h ck residuals j f
  pub rows_hold : (j f : ℕ) → f < w → done true j ≡ true
      → get_or after.output (j * w + f) (pos 0) ≡ row_at w h ck rk residuals j f
  pub scratch_long : length after.scratch ≡ length scratch
  pub output_long : length after.output ≡ length output
  pub scratch_kept : (p : ℕ) → p < length scratch → done false (p / h) ≡ false
      → get_or after.scratch p (pos 0) ≡ get_or scratch p (pos 0)
  pub output_kept : (p : ℕ) → p < length output → done true (p / w) ≡ false
      → get_or after.output p (pos 0) ≡ get_or output p (pos 0)

-- of every list of batches, run from its accepted opening
abbrev pub PlaceByPlace : Type 0
PlaceByPlace =
    (w h ck rk : ℕ) (residuals scratch output : List ℤ) → open_answer w h ck rk residuals (length scratch) (length output) ≡ answers 0
    → (bs : List Batch)
    → ByPlace w h ck rk residuals scratch output (covered w h bs (length bs)) (run residuals (state_at (new_ticket w h ck rk) scratch output) bs).state
