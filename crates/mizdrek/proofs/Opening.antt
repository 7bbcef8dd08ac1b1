-- An opening on a ticket that is given: where it is refused that ticket is left, else the new one. Assumes nothing.
use mathlib.Core.List.{List}
use Prim.Native.Nat.{ℕ}
use lib.Dec.{T, lit<}
use lib.IntN.{ℤ}
use Rattle.answer.specs.Answer.{told, is_small}
use Rattle.answer.proofs.Answer.{lowest_small, signed_asked}
use Rattle.block.specs.Call.{refusals}
use Rattle.tickets.specs.Open.{Opening, open_answer}
use Rattle.tickets.specs.declared.Batched.{Batched}

module _ {w h ck rk : ℕ} {residuals : List ℤ} {ls lo : ℕ} {o : Batched} (op : Opening w h ck rk residuals ls lo o) where
  pub open_small : T (is_small (told o.outcome))
  unfolding open_answer
  open_small = signed_asked op.answer (lowest_small (refusals w h ck rk residuals ls lo) 0 (lit< tt))
