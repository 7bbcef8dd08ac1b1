-- The theorems at a few calls, from their statements. Assumes nothing.
use mathlib.Core.Path.{refl, ap}
use mathlib.Core.List.{[]}
use Rattle.laws.specs.Store.{tab}
use Rattle.answer.specs.Answer.{lowest}
use Rattle.sizes.specs.Size.{is_side}
use Rattle.kernels.specs.Kernel.{has_kernel}
use Rattle.fixed.specs.Limit.{is_within, all_within}
use Rattle.residual.specs.Residual.{residuals_ok}
use Rattle.block.specs.Call.{is_kind, has_kinds}
use Rattle.tickets.specs.Mark.{marked, mask_of, any_from, all_marked, is_among, with_lines}
use Rattle.tickets.specs.Batch.{out_of_range, out_of_order, answer_unless, with_batch}
use Rattle.tickets.specs.Run.{Run}
use Rattle.tickets.specs.Condition3.{covers, answer_to, covered, settled}
use Rattle.plane.specs.Places.{overlap}
use Rattle.plane.specs.Plane.{sides_ok, ticket_ok, placed, tile_ok, apart, plane_ok, smallest, first_free, has_place, open_answer, open_for, tile_answer, made, opening, closing}
use Rattle.plane.specs.Batch.{columns_in, rows_in}
use Rattle.plane.specs.Calls.{turn, frame_after}
use Rattle.plane.specs.Condition3.{tile_batches, stays_open}
use Rattle.plane.specs.Isolation.{deeds_for}
use Rattle.plane.specs.Examples.{copies, half_at, list, TileAnswers, quiet, busy, SameShown}

pub tile_answers : TileAnswers
unfolding turn frame_after made opening open_answer lowest is_side has_kinds is_kind has_kernel has_place first_free smallest plane_ok sides_ok tile_ok apart residuals_ok all_within is_within tab ticket_ok placed overlap out_of_order any_from all_marked marked stays_open settled tile_batches answer_to covered out_of_range covers is_among
tile_answers c =
    ap (λ (r : Run). r.answered) (c 8 4 (copies 32 0) refl [] (half_at 0 0) (copies 16 0) (copies 16 0) 0 refl list refl)

pub same_shown : SameShown
unfolding turn made opening closing open_answer lowest is_side has_kinds is_kind has_kernel has_place first_free smallest plane_ok sides_ok tile_ok apart residuals_ok all_within is_within tab ticket_ok placed overlap out_of_order any_from all_marked marked columns_in rows_in tile_answer open_for answer_unless out_of_range with_batch with_lines mask_of is_among deeds_for
same_shown c = c 8 4 0 refl quiet busy refl
