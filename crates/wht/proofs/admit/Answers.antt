-- `wht::admit` meets its contract: each return by the tests that led there. Assumes nothing.
use mathlib.Core.Path.{◌≡◌, sym, ◌∙◌}
use mathlib.Core.Bool.{◌||◌, false}
use mathlib.Core.List.{List}
use Prim.Native.Nat.{ℕ}
use borrow.Author.Tests.{ltb-false}
use lib.Dec.{ltb}
use lib.IntN.{ℤ}
use lib.ListN.{length, take}
use Rattle.answer.specs.Answer.{lowest}
use Rattle.laws.proofs.Bool.{neither}
use Rattle.residual.specs.Residual.{residuals_ok}
use Rattle.residual.proofs.Residual.{slice_ok}
use Rattle.wht.specs.Wht.{wht_answer}
use Rattle.wht.proofs.admit.Goals as goal

-- the first 16 residuals, as a slice
front : (l : List ℤ) (room : ℕ) → (ltb (length l) 16 || ltb room 16) ≡ false → residuals_ok (length (take 16 l)) (take 16 l) ≡ residuals_ok 16 l
front l room e = slice_ok 16 l (ltb-false _ _ (neither (ltb (length l) 16) (ltb room 16) e).0)

pub returns-then-not-residuals_ok : goal.returns-then-not-residuals_ok
unfolding wht_answer lowest
returns-then-not-residuals_ok c =
    let long = c.if-residuals-room.false in
    rw (long, sym (front _ _ long) ∙ sym c.residuals_ok.ensures ∙ c.if-not-residuals_ok.true)

pub returns : goal.returns
unfolding wht_answer lowest
returns c =
    let long = c.if-residuals-room.false in
    rw (long, sym (front _ _ long) ∙ sym c.residuals_ok.ensures ∙ c.if-not-residuals_ok.false)
