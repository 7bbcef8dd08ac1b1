-- What an accepted opening knows of its arguments, and the two ways out of `open`, whose tests are a block's. Assumes nothing.
use mathlib.Core.Path.{◌≡◌, sym}
use mathlib.Core.Bool.{true}
use mathlib.Core.List.{List}
use Prim.Native.Nat.{ℕ, ◌*◌, ◌<◌, ◌≤◌}
use borrow.Author.Tests.{not-false}
use lib.IntN.{ℤ, pos, nat_abs}
use lib.ListN.{get_or}
use Rattle.answer.specs.Answer.{answers, refuses}
use Rattle.answer.proofs.Answer.{passed, refused_alike, accepted_alike}
use Rattle.residual.proofs.Residual.{residual_size}
use Rattle.block.specs.Call.{has_kinds, refusals, block_answer}
use Rattle.block.proofs.Accepted.{Accepted, accepted}
use Rattle.tickets.specs.Open.{open_answer}

pub record Opened (w h ck rk : ℕ) (residuals : List ℤ) (ls lo : ℕ) : Type 0 where
  pub block : Accepted w h ck rk residuals ls lo
  pub kinds : has_kinds w h ck rk ≡ true
  pub small : (p : ℕ) → p < w * h → nat_abs (get_or residuals p (pos 0)) ≤ 4095

pub opened : (w h ck rk : ℕ) (residuals : List ℤ) (ls lo : ℕ) → open_answer w h ck rk residuals ls lo ≡ answers 0 → Opened w h ck rk residuals ls lo
unfolding open_answer refusals
opened w h ck rk residuals ls lo e =
    let a = accepted 0 (sym e) in
    record {
      block = a;
      kinds = not-false _ (passed _ 2 _ 0 0 (passed _ 1 _ 0 0 (sym e)).1).0;
      small = residual_size (w * h) residuals a.small;
    }

-- ---- the two ways out of an opening

module _ (w h ck rk : ℕ) (residuals : List ℤ) (ls lo : ℕ) where
  pub open_refused : {k : ℕ} → refuses k ≡ block_answer w h ck rk residuals ls lo → refuses k ≡ open_answer w h ck rk residuals ls lo
  unfolding block_answer open_answer
  open_refused {k} e = refused_alike (refusals w h ck rk residuals ls lo) (w * h) 0 k e

  pub open_done : {n : ℕ} → answers n ≡ block_answer w h ck rk residuals ls lo → answers 0 ≡ open_answer w h ck rk residuals ls lo
  unfolding block_answer open_answer
  open_done {n} e = accepted_alike (refusals w h ck rk residuals ls lo) (w * h) 0 n e
