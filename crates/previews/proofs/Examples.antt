-- Number 3's place in the order, computed: "Number 3 also when the preview buffer is short, judged only for 1, 4 or 8 lines". And what
-- condition 3 says of a list of calls. Assumes nothing.
use mathlib.Core.Path.{◌≡◌, refl, ap}
use mathlib.Core.Bool.{true, false}
use mathlib.Core.List.{[], ◌∷◌}
use Prim.Native.Nat.{ℕ}
use Rattle.laws.specs.Store.{tab}
use Rattle.answer.specs.Answer.{Answer, answers, refuses, lowest}
use Rattle.sizes.specs.Size.{is_side}
use Rattle.kernels.specs.Kernel.{has_kernel}
use Rattle.fixed.specs.Limit.{is_within, all_within}
use Rattle.residual.specs.Residual.{residuals_ok}
use Rattle.block.specs.Call.{is_kind, has_kinds, refusals}
use Rattle.tickets.specs.Mark.{marked, any_from, all_marked, is_among}
use Rattle.tickets.specs.Batch.{batch_of, out_of_range, out_of_order, answer_unless}
use Rattle.tickets.specs.Open.{open_answer, new_ticket}
use Rattle.tickets.specs.Condition3.{covers, answer_to}
use Rattle.previews.specs.Preview.{is_short, preview_answer}
use Rattle.previews.specs.Calls.{Run}
use Rattle.previews.specs.Condition3.{covered, settled}
use Rattle.tickets.specs.Examples.{zeros}
use Rattle.previews.specs.Examples.{list, ListAnswers}

-- a preview of column lines of a newly opened block of 8 × 4, into a buffer of length room
abbrev columns_of : ℕ → ℕ → ℕ → Answer
columns_of start count room = preview_answer (new_ticket 8 4 0 0) (batch_of false start count) 32 32 room

-- four lines of four numbers; one number too few; two lines, whatever the buffer; a bad start in a short buffer, and in a long one
pub answers_are : columns_of 0 4 16 ∷ columns_of 0 4 15 ∷ columns_of 0 2 0 ∷ columns_of 2 4 15 ∷ columns_of 2 4 16 ∷ []
    ≡ answers 4 ∷ refuses 3 ∷ refuses 5 ∷ refuses 3 ∷ refuses 5 ∷ []
unfolding is_short answer_unless lowest is_side has_kinds is_kind has_kernel out_of_range out_of_order any_from all_marked marked
answers_are = refl

-- a row preview with a column unmarked
pub rows_wait : preview_answer (new_ticket 8 4 0 0) (batch_of true 0 4) 32 32 31 ∷ preview_answer (new_ticket 8 4 0 0) (batch_of true 0 4) 32 32 32 ∷ []
    ≡ refuses 3 ∷ refuses 6 ∷ []
unfolding is_short answer_unless lowest is_side has_kinds is_kind has_kernel out_of_range out_of_order any_from all_marked marked
rows_wait = refl

pub list_answers : ListAnswers
unfolding open_answer refusals lowest is_side has_kinds is_kind has_kernel residuals_ok all_within is_within settled tab answer_to covered covers is_among out_of_range is_short
list_answers claim = ap (λ (r : Run). r.answered) (claim 8 4 0 0 (zeros 32) (zeros 32) (zeros 32) refl list)
