-- Document 01's examples of batches, computed: "Line count 4: one four-line batch, no eight. Start 28 with 8 of 32 lines: number 5; with 4:
-- accepted." With a list of four on a block of 8 × 4, and an opening that is accepted. Assumes nothing.
use mathlib.Core.Path.{◌≡◌, refl}
use mathlib.Core.Bool.{false}
use mathlib.Core.List.{[], ◌∷◌}
use Prim.Native.Nat.{ℕ}
use lib.IntN.{pos}
use lib.ListN.{replicate}
use Rattle.laws.specs.Store.{tab}
use Rattle.answer.specs.Answer.{Answer, answers, refuses, lowest}
use Rattle.sizes.specs.Size.{is_side}
use Rattle.kernels.specs.Kernel.{has_kernel}
use Rattle.fixed.specs.Limit.{is_within, all_within}
use Rattle.residual.specs.Residual.{residuals_ok}
use Rattle.block.specs.Call.{is_kind, has_kinds, refusals}
use Rattle.tickets.specs.Mark.{marked, any_from, all_marked, is_among}
use Rattle.tickets.specs.Batch.{batch_of, out_of_range, out_of_order, answer_unless, batch_answer}
use Rattle.tickets.specs.Open.{open_answer, new_ticket}
use Rattle.tickets.specs.Run.{nth}
use Rattle.tickets.specs.Condition3.{covers, answer_to, covered}
use Rattle.tickets.specs.Examples.{list}

-- what a column batch of a newly opened block of w × 32 answers
abbrev columns_of : ℕ → ℕ → ℕ → Answer
columns_of w start count = batch_answer (new_ticket w 32 0 0) (batch_of false start count) 1024 1024

pub batches : columns_of 4 0 4 ∷ columns_of 4 4 4 ∷ columns_of 4 0 8 ∷ columns_of 32 28 8 ∷ columns_of 32 28 4 ∷ []
    ≡ answers 4 ∷ refuses 5 ∷ refuses 5 ∷ refuses 5 ∷ answers 4 ∷ []
unfolding answer_unless lowest is_side has_kinds is_kind has_kernel out_of_range out_of_order any_from all_marked marked
batches = refl

pub list_answers : tab 4 (λ i. answer_to 8 4 (covered 8 4 list i false) (nth list i)) ≡ refuses 6 ∷ refuses 5 ∷ answers 8 ∷ answers 4 ∷ []
unfolding tab answer_to covered covers is_among out_of_range lowest
list_answers = refl

-- there are openings that are accepted
pub opens : open_answer 4 4 0 0 (replicate 16 (pos 4095)) 16 16 ≡ answers 0
unfolding open_answer refusals lowest is_side has_kinds is_kind has_kernel residuals_ok all_within is_within
opens = refl
