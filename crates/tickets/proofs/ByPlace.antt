-- Condition 3's sentence, place by place, as it is stated. Assumes nothing.
use mathlib.Core.Path.{sym, subst}
use mathlib.Core.Bool.{Bool, true, false}
use mathlib.Core.List.{List}
use Prim.Native.Nat.{ℕ}
use native.Mathlib.Nat.{mul_comm}
use native.Mathlib.Omega.{arith}
use lib.Arith.{digits_lt}
use lib.IntN.{ℤ}
use lib.ListN.{length}
use Rattle.tickets.specs.Run.{Run}
use Rattle.tickets.specs.Condition3.{covered, ticket_of, number_at, state_of, settled}
use Rattle.tickets.specs.ByPlace.{ByPlace, PlaceByPlace}
use Rattle.tickets.proofs.Condition3.{reached, condition3}
use Rattle.tickets.proofs.Held.{held_length, held_line, held_kept}
use Rattle.tickets.proofs.Mark.{marked_mask}
use Rattle.tickets.proofs.Opened.{Opened, opened}
use Rattle.tickets.proofs.Reached.{Reached}

-- the state that is settled, whatever lines are covered
pub reads : (w h ck rk : ℕ) (residuals scratch output : List ℤ) → Opened w h ck rk residuals (length scratch) (length output)
    → {done : Bool → ℕ → Bool} → Reached w h done
    → ByPlace w h ck rk residuals scratch output done (state_of w h ck rk residuals scratch output done)
unfolding state_of ticket_of number_at
reads w h ck rk residuals scratch output o {done} reached =
    record {
      covers = reached.inside;
      columns_marked = marked_mask 32 (done false);
      rows_marked = marked_mask 32 (done true);
      columns_hold = λ j f b e.
          held_line h (done false) (number_at w h ck rk residuals false) scratch j f b
          (omega (arith, digits_lt (reached.inside false j e) b, o.block.scratch_long)) e;
      rows_hold = λ j f b e.
          held_line w (done true) (number_at w h ck rk residuals true) output j f b
          (omega (arith, digits_lt (reached.inside true j e) b, mul_comm h w, o.block.output_long)) e;
      scratch_long = held_length h (done false) (number_at w h ck rk residuals false) scratch;
      output_long = held_length w (done true) (number_at w h ck rk residuals true) output;
      scratch_kept = held_kept h (done false) (number_at w h ck rk residuals false) scratch;
      output_kept = held_kept w (done true) (number_at w h ck rk residuals true) output;
    }

pub by_place : PlaceByPlace
unfolding settled
by_place w h ck rk residuals scratch output accepted bs =
    subst (λ (r : Run). ByPlace w h ck rk residuals scratch output (covered w h bs (length bs)) r.state)
    (sym (condition3 w h ck rk residuals scratch output accepted bs))
    (reads w h ck rk residuals scratch output (opened w h ck rk residuals (length scratch) (length output) accepted) (reached w h bs (length bs)))
