-- One preview in a list of calls, after batches that have covered the lines that done names: its answer and its numbers are those settled from
-- these lines. Assumes nothing.
use mathlib.Core.Path.{◌≡◌, refl, sym, ap, subst, ◌∙◌}
use mathlib.Core.Bool.{Bool, true, false, cond, not, ◌&&◌, ◌||◌, or-true}
use mathlib.Core.Logic.{⊎_elim}
use mathlib.Core.List.{List}
use Prim.Native.Nat.{ℕ, ◌+◌, ◌*◌, ◌/◌, ◌%◌, ◌≤◌, ◌<◌}
use native.Mathlib.Nat.{add-mul, mul_comm, mul-le-mul_right, mod-lt, div-add-mod', div-lt_iff_lt-mul}
use native.Mathlib.Omega.{arith}
use lib.IntN.{ℤ, pos}
use lib.ListN.{length, get_or}
use Rattle.laws.specs.Table.{every}
use Rattle.laws.proofs.Bool.{decided}
use Rattle.laws.proofs.Laid.{laid_ext}
use Rattle.answer.specs.Answer.{Answer, answers, refuses, after}
use Rattle.sizes.proofs.Side.{side_bounds}
use Rattle.tickets.specs.Batch.{line_count, line_length, out_of_range, answer_unless, lines_of, batch}
use Rattle.tickets.specs.declared.Batch.{Batch}
use Rattle.tickets.specs.Run.{State}
use Rattle.tickets.specs.Condition3.{answer_to, covered_with, ticket_of, held, number_at, state_of}
use Rattle.tickets.specs.declared.Ticket.{Ticket}
use Rattle.tickets.proofs.Mark.{among_in}
use Rattle.tickets.proofs.Held.{held_line}
use Rattle.tickets.proofs.Opened.{Opened}
use Rattle.tickets.proofs.Reached.{Reached, cases, in_range}
use Rattle.tickets.proofs.Step.{answer_is, own, long_scratch, long_output, column_written, row_written}
use Rattle.previews.specs.Preview.{is_short, lines_shown, Preview, preview_of}
use Rattle.previews.specs.Calls.{preview_at}
use Rattle.previews.specs.Condition3.{answer_to_preview, with_lines_of}
use Rattle.previews.proofs.Shown.{ran, preview_same}

module _ (w h ck rk : ℕ) (residuals scratch output : List ℤ) (o : Opened w h ck rk residuals (length scratch) (length output))
    {done : Bool → ℕ → Bool} (reached : Reached w h done) (b : Batch) (room : List ℤ) where
  abbrev t : Ticket
  t = ticket_of w h ck rk done

  abbrev n : ℕ
  n = line_length w h b.row

  abbrev short : Bool
  short = is_short b.count n (length room)

  abbrev answer : Answer
  answer = answer_to w h (done false) b

  abbrev then : Bool → ℕ → Bool
  then = covered_with w h done b

  abbrev settled : Preview
  settled =
      record {
        answer = answer_to_preview w h (done false) b (length room);
        shown = after (answer_to_preview w h (done false) b (length room)) (with_lines_of w h ck rk residuals b room) room;
      }

  -- the lines of an accepted batch, where the buffer that it writes then holds the numbers of the lines covered
  module _ (source target opening : List ℤ) (some : 0 < n) (ls : w * h ≤ length source) (lt : w * h ≤ length target)
      (long : line_count w h b.row * n ≤ length opening)
      (written : answer ≡ answers b.count → out_of_range (line_count w h b.row) b.start b.count ≡ false
      → (b.row && not (every w (done false))) ≡ false
      → lines_of t b source target ≡ held n (then b.row) (number_at w h ck rk residuals b.row) opening) where
    unless : (x : Bool) → answer_unless x t b (length source) (length target) ≡ cond x (refuses 3) answer
    unless x = answer_is w h ck rk residuals scratch output o reached b x (length source) (length target) ls lt

    number_is : answer ≡ answers b.count → out_of_range (line_count w h b.row) b.start b.count ≡ false
        → (b.row && not (every w (done false))) ≡ false → (p : ℕ) → p < b.count * n
        → get_or (batch t b source target).buffer (b.start * n + p) (pos 0) ≡ number_at w h ck rk residuals b.row (b.start + p / n) (p % n)
    number_is e r q p l =
        let few : p / n < b.count = (div-lt_iff_lt-mul some).1 l in
        let end = (in_range (line_count w h b.row) b.start b.count r).end in
        let j = b.start + p / n in
        let at : b.start * n + p ≡ j * n + p % n = omega (arith, add-mul b.start (p / n) n, div-add-mod' p n) in
        let in_list : b.start * n + p < length opening =
        omega (arith, long, add-mul b.start b.count n, mul-le-mul_right n end) in
        ap (λ (d : List ℤ). get_or d (b.start * n + p) (pos 0)) (ran t b source target (sym (unless false ∙ e)) ∙ written e r q)
        ∙ ap (λ (k : ℕ). get_or (held n (then b.row) (number_at w h ck rk residuals b.row) opening) k (pos 0)) at
        ∙ held_line n (then b.row) (number_at w h ck rk residuals b.row) opening j (p % n) (mod-lt p some) (omega (arith, at))
        (sym (own w h ck rk residuals scratch output o reached b b.row refl e j)
        ∙ ap (λ (x : Bool). done b.row j || x) (among_in b.start b.count j (omega arith) (omega arith))
        ∙ or-true (done b.row j))

    shown_same : after (cond short (refuses 3) answer) (lines_shown t b source target room) room
        ≡ after (cond short (refuses 3) answer) (with_lines_of w h ck rk residuals b room) room
    unfolding ticket_of
    shown_same =
        ⊎_elim
        (λ s. rw s)
        (λ s.
        rw s
        (⊎_elim
        (λ x. rw x.0 (laid_ext room 0 (b.count * n) _ _ (number_is x.0 x.1 x.2)))
        (λ r. rw r.is)
        (cases w h (done false) b)))
        (decided short)

    of_buffers : preview_of t b source target room ≡ settled
    unfolding preview_of ticket_of
    of_buffers =
        preview_same (unless short) (ap (λ (a : Answer). after a (lines_shown t b source target room) room) (unless short) ∙ shown_same)

  abbrev before : State
  before = state_of w h ck rk residuals scratch output done

  abbrev scratch_now : List ℤ
  scratch_now = held h (done false) (number_at w h ck rk residuals false) scratch

  abbrev output_now : List ℤ
  output_now = held w (done true) (number_at w h ck rk residuals true) output

  by_kind : {is : Bool} → b.row ≡ is
      → preview_at residuals before b room ≡ cond is (preview_of t b scratch_now output_now room) (preview_of t b residuals scratch_now room)
  unfolding preview_at state_of
  by_kind e = ap (λ (x : Bool). cond x (preview_of t b scratch_now output_now room) (preview_of t b residuals scratch_now room)) e

  by_row : b.row ≡ true → preview_at residuals before b room ≡ settled
  by_row k =
      by_kind k
      ∙ of_buffers scratch_now output_now output
      (subst (λ (x : Bool). 0 < line_length w h x) (sym k) (omega (arith, side_bounds w o.block.wide)))
      (long_scratch w h ck rk residuals scratch output o reached b)
      (long_output w h ck rk residuals scratch output o reached b)
      (subst (λ (x : Bool). line_count w h x * line_length w h x ≤ length output) (sym k) (omega (arith, mul_comm h w, o.block.output_long)))
      (λ e r q.
      row_written w h ck rk residuals scratch output o reached b k e r q
      ∙ ap (λ (x : Bool). held (line_length w h x) (then x) (number_at w h ck rk residuals x) output) (sym k))

  by_column : b.row ≡ false → preview_at residuals before b room ≡ settled
  by_column k =
      by_kind k
      ∙ of_buffers residuals scratch_now scratch
      (subst (λ (x : Bool). 0 < line_length w h x) (sym k) (omega (arith, side_bounds h o.block.high)))
      o.block.residuals_long
      (long_scratch w h ck rk residuals scratch output o reached b)
      (subst (λ (x : Bool). line_count w h x * line_length w h x ≤ length scratch) (sym k) o.block.scratch_long)
      (λ e r q.
      column_written w h ck rk residuals scratch output o reached b k e r
      ∙ ap (λ (x : Bool). held (line_length w h x) (then x) (number_at w h ck rk residuals x) scratch) (sym k))

  -- what a preview gives back and shows
  pub preview_is : preview_at residuals before b room ≡ settled
  preview_is = ⊎_elim by_row by_column (decided b.row)
