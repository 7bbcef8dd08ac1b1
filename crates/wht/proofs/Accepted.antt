-- What an accepted call knows of its arguments. Assumes nothing.
use mathlib.Core.Path.{◌≡◌}
use mathlib.Core.Bool.{true, not, ◌||◌}
use mathlib.Core.List.{List}
use Prim.Native.Nat.{ℕ, ◌≤◌}
use borrow.Author.Tests.{ltb-false, not-false}
use lib.Dec.{ltb}
use lib.IntN.{ℤ}
use lib.ListN.{length}
use Rattle.answer.specs.Answer.{answers}
use Rattle.answer.proofs.Answer.{passed}
use Rattle.laws.proofs.Bool.{neither}
use Rattle.residual.specs.Residual.{residuals_ok}
use Rattle.wht.specs.Wht.{wht_answer}

pub record Accepted (residuals : List ℤ) (room : ℕ) : Type 0 where
  pub read : 16 ≤ length residuals
  pub written : 16 ≤ room
  pub limit : residuals_ok 16 residuals ≡ true

pub accepted : (residuals : List ℤ) (room n : ℕ) → answers n ≡ wht_answer residuals room → Accepted residuals room
unfolding wht_answer
accepted residuals room n e =
    let short = passed (ltb (length residuals) 16 || ltb room 16) 3 _ 16 n e in
    let range = passed (not (residuals_ok 16 residuals)) 4 _ 16 n short.1 in
    record {
      read = ltb-false _ _ (neither (ltb (length residuals) 16) (ltb room 16) short.0).0;
      written = ltb-false _ _ (neither (ltb (length residuals) 16) (ltb room 16) short.0).1;
      limit = not-false _ range.0;
    }
