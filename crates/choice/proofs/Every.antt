-- What holds of every choice. Assumes nothing.
use mathlib.Core.Bool.{Bool, true, false, cond}
use mathlib.Core.List.{[], ◌∷◌}
use mathlib.Core.Logic.{◌⊎◌, inl, inr, ⊎_elim}
use mathlib.Core.Path.{◌≡◌, sym, ap, ◌∙◌}
use Prim.Native.Nat.{ℕ}
use native.Mathlib.Omega.{arith}
use borrow.Author.Tests.{lt-ltb, le-ltb}
use lib.ListN.{length}
use lib.Seq.{length-take-le}
use Rattle.laws.proofs.Place.{split}
use Rattle.laws.specs.Sum.{sum_ℕ}
use Rattle.answer.specs.Answer.{refuses, lowest}
use Rattle.answer.proofs.Answer.{no_answer}
use Rattle.choice.specs.Choice.{weight, choice_answer, lighter_of, Refusals, NoLevels, Lightest}
use Rattle.choice.proofs.Accepted.{accepted, first_given, second_given, weight_firsts}
use Rattle.format.specs.Pieces.{are_near}

one_of : (a b c : Bool) (n k : ℕ) → lowest ((a, 8) ∷ (b, 3) ∷ (c, 11) ∷ []) n ≡ refuses k → (k ≡ 8) ⊎ (k ≡ 3) ⊎ (k ≡ 11)
unfolding lowest
one_of true b c n k e = inl (cc)
one_of false true c n k e = inr (inl (cc))
one_of false false true n k e = inr (inr (cc))
one_of false false false n k e = no_answer (sym e)

pub refusals : Refusals
unfolding choice_answer
refusals first second count k e = one_of _ _ _ _ k e

pub no_levels : NoLevels
unfolding choice_answer lighter_of lowest are_near weight sum_ℕ
no_levels first second =
    let a = le-ltb (length first.now) 0 (omega arith) in
    let b = le-ltb (length second.now) 0 (omega arith) in
    (rw (a, b), rw (a, b))

pub lightest : Lightest
lightest first second count n e =
    let ok = accepted first.now second.now count n (sym e) in
    let x = weight count first.now in
    let y = weight count second.now in
    ⊎_elim
    (λ h.
    let z : n ≡ 1 = ok.which ∙ ap (λ (t : Bool). cond t 1 0) (lt-ltb y x h) in
    rw (sym (second_given first second count n (sym e) (λ q. omega arith)))
    (length-take-le count second.now ok.in_second, omega (arith, weight_firsts count second.now), omega (arith, weight_firsts count second.now)))
    (λ h.
    let z : n ≡ 0 = ok.which ∙ ap (λ (t : Bool). cond t 1 0) (le-ltb y x h) in
    rw (sym (first_given first second count n (sym e) z))
    (length-take-le count first.now ok.in_first, omega (arith, weight_firsts count first.now), omega (arith, weight_firsts count first.now)))
    (split y x)
