-- What an accepted choice knows of its arguments, and the part that it gives. Assumes nothing.
use mathlib.Core.Bool.{Bool, true, false, cond, not, ◌&&◌, ◌||◌}
use mathlib.Core.List.{List}
use mathlib.Core.Path.{◌≡◌, refl, sym, ap, ◌∙◌}
use Prim.Native.Nat.{ℕ, zero, suc, ◌≤◌, ◌<◌}
use native.Mathlib.Omega.{arith}
use borrow.Author.Tests.{lt-ltb, le-ltb, ltb-false}
use denote.Ref.{Bor}
use lib.Dec.{T, ltb}
use lib.IntN.{ℤ, pos, nat_abs}
use lib.ListN.{length, get_or, take}
use lib.Seq.{length-take-le, get_or-take}
use Rattle.laws.proofs.Bool.{bit_most, neither}
use Rattle.laws.proofs.Every.{every_first}
use Rattle.laws.proofs.Sum.{sum_ℕ_same}
use Rattle.format.specs.Pieces.{is_near, are_near}
use Rattle.answer.specs.Answer.{Answer, answers, refuses, lowest, is_small}
use Rattle.answer.proofs.Answer.{passed, the_answer, lowest_small}
use Rattle.choice.specs.Choice.{weight, choice_answer, firsts, part_given, lighter_of}

pub record Accepted (first second : List ℤ) (count n : ℕ) : Type 0 where
  pub in_first : count ≤ length first
  pub in_second : count ≤ length second
  pub which : n ≡ cond (ltb (weight count second) (weight count first)) 1 0

pub accepted : (first second : List ℤ) (count n : ℕ) → answers n ≡ choice_answer first second count → Accepted first second count n
unfolding choice_answer
accepted first second count n e =
    let few = passed _ _ _ _ _ e in
    let there = passed _ _ _ _ _ few.1 in
    let near = passed _ _ _ _ _ there.1 in
    let long = neither (ltb (length first) count) (ltb (length second) count) there.0 in
    record { in_first = ltb-false _ _ long.0; in_second = ltb-false _ _ long.1; which = the_answer _ _ near.1 }

pub choice_small : (first second : List ℤ) (count : ℕ) → T (is_small (choice_answer first second count))
unfolding choice_answer
choice_small first second count = lowest_small _ _ (omega (arith, bit_most (ltb (weight count second) (weight count first))))

-- ---- the part that is given

module _ (first second : Bor (List ℤ)) (count n : ℕ) (e : answers n ≡ choice_answer first.now second.now count) where
  pub first_given : n ≡ 0 → firsts count first ≡ lighter_of first second count
  unfolding lighter_of
  first_given z = rw (sym e, z)

  pub second_given : (n ≡ 0 → ⊥) → firsts count second ≡ lighter_of first second count
  unfolding lighter_of
  second_given z = rw (sym e) (one n z)
    where
      one : (n : ℕ) → (n ≡ 0 → ⊥) → firsts count second ≡ part_given (answers n) first second count
      one zero z = absurd (z refl)
      one (suc n) z = refl

-- the first n levels of a slice, where it has them
pub cut : (s : Bor (List ℤ)) (n : ℕ) → n ≤ length s.now → record { place = s.ref_ptr; count = length (take n s.now); levels = take n s.now } ≡ firsts n s
cut s n h = ap (λ (k : ℕ). record { place = s.ref_ptr; count = k; levels = take n s.now }) (length-take-le n s.now h)

-- ---- the answer, by what the first levels come to

near_firsts : (n : ℕ) (l : List ℤ) → n ≤ length l → are_near (length (take n l)) (take n l) ≡ are_near n l
unfolding are_near
near_firsts n l h = every_first is_near n l (pos 0) h

-- the first levels weigh what they weigh where they stand
pub weight_firsts : (n : ℕ) (l : List ℤ) → weight n (take n l) ≡ weight n l
unfolding weight
weight_firsts n l = sum_ℕ_same n (λ k. nat_abs (get_or (take n l) k (pos 0))) (λ k. nat_abs (get_or l k (pos 0))) (λ k h. ap nat_abs (get_or-take n l k (pos 0) h))

weighed : (n : ℕ) (l : List ℤ) → n ≤ length l → weight (length (take n l)) (take n l) ≡ weight n l
weighed n l h = ap (λ (m : ℕ). weight m (take n l)) (length-take-le n l h) ∙ weight_firsts n l

module _ (first second : List ℤ) (count : ℕ) (few : count ≤ 1024) (long : (ltb (length first) count || ltb (length second) count) ≡ false) where
  in_both : (count ≤ length first) × (count ≤ length second)
  in_both = let n = neither (ltb (length first) count) (ltb (length second) count) long in (ltb-false _ _ n.0, ltb-false _ _ n.1)

  -- by the tests and the sums of the first levels alone
  by_firsts : cond (not (are_near (length (take count first)) (take count first) && are_near (length (take count second)) (take count second))) (refuses 11)
      (answers (cond (ltb (weight (length (take count second)) (take count second)) (weight (length (take count first)) (take count first))) 1 0)) ≡ choice_answer first second count
  unfolding choice_answer lowest
  by_firsts =
      rw (le-ltb _ _ few, long, near_firsts count first in_both.0, near_firsts count second in_both.1, weighed count first in_both.0, weighed count second in_both.1)

  pub far_first : are_near (length (take count first)) (take count first) ≡ false → refuses 11 ≡ choice_answer first second count
  far_first e = rw e at by_firsts

  pub far_second : are_near (length (take count second)) (take count second) ≡ false → refuses 11 ≡ choice_answer first second count
  far_second e = sym (no (are_near (length (take count first)) (take count first)) _ _) ∙ (rw e at by_firsts)
    where
      no : (t : Bool) (a b : Answer) → cond (not (t && false)) a b ≡ a
      no true a b = refl
      no false a b = refl

  module _ {x y : ℕ} (a : (are_near (length (take count first)) (take count first) ≡ true) × (x ≡ weight (length (take count first)) (take count first)))
      (b : (are_near (length (take count second)) (take count second) ≡ true) × (y ≡ weight (length (take count second)) (take count second))) where
    pub second_lighter : y < x → answers 1 ≡ choice_answer first second count
    second_lighter h = rw (a.0, b.0, sym a.1, sym b.1, lt-ltb y x h) at by_firsts

    pub first_lighter : x ≤ y → answers 0 ≡ choice_answer first second count
    first_lighter h = rw (a.0, b.0, sym a.1, sym b.1, le-ltb y x h) at by_firsts
