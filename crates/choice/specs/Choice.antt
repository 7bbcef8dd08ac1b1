-- The lighter of two trials ("The lighter of two trials"): which buffer's first levels are given back, or why none are.
use Rattle.std.specs.Prelude.{Bool, cond, not, ◌&&◌, ◌||◌, List, [], ◌∷◌, ◌⊎◌, ◌≡◌, ℕ, zero, suc, ◌≤◌, ltb, ℤ, pos, nat_abs, length, get_or, take}
use Rattle.std.specs.Borrow.{Bor}
use Rattle.laws.specs.Sum.{sum_ℕ}
use Rattle.laws.specs.Table.{every}
use Rattle.answer.specs.Answer.{Answer, answers, refuses, lowest}
use Rattle.format.specs.Pieces.{are_near}

-- ---- which

-- "the .. sum of magnitudes" of the first n levels of a buffer
unfoldable pub weight : ℕ → List ℤ → ℕ
weight n l = sum_ℕ n (λ k. nat_abs (get_or l k (pos 0)))

-- "8 for a count above 1,024, then 3, then 11 for a level beyond 2^30 from zero". Accepted, 1 where the second is the lighter and 0 where
-- the first is: "On a tie the first wins"
unfoldable pub choice_answer : List ℤ → List ℤ → ℕ → Answer
choice_answer first second count =
    lowest
    ((ltb 1024 count, 8) ∷
    (ltb (length first) count || ltb (length second) count, 3) ∷
    (not (are_near count first && are_near count second), 11) ∷ [])
    (cond (ltb (weight count second) (weight count first)) 1 0)

-- "A sister call on the same arguments gives the number, or 0."
abbrev pub number_in : Answer → ℕ
number_in (answers which) = 0
number_in (refuses k) = k

-- ---- what is given back

-- a part of a lent buffer: where in memory it begins, as a block of it and a number of bytes from its start; how many levels it has, and these
pub record Part : Type 0 where
  pub place : ℕ × ℕ
  pub count : ℕ
  pub levels : List ℤ

-- what a slice is
abbrev pub part_at : Bor (List ℤ) → Part
part_at s = record { place = s.ref_ptr; count = length s.now; levels = s.now }

-- the first n levels of a lent buffer, where they stand: "not a copy"
abbrev pub firsts : ℕ → Bor (List ℤ) → Part
firsts n s = record { place = s.ref_ptr; count = n; levels = take n s.now }

-- by the answer; refused, "the part given is then empty, from the first buffer"
abbrev pub part_given : Answer → Bor (List ℤ) → Bor (List ℤ) → ℕ → Part
part_given (answers zero) first second count = firsts count first
part_given (answers (suc which)) first second count = firsts count second
part_given (refuses k) first second count = firsts 0 first

-- "the first levels of the buffer with the smaller sum of magnitudes"
unfoldable pub lighter_of : Bor (List ℤ) → Bor (List ℤ) → ℕ → Part
lighter_of first second count = part_given (choice_answer first.now second.now count) first second count

-- ---- what holds of every choice

-- the refusals, so that the sister call's 0 is an accepted choice's alone
abbrev pub Refusals : Type 0
Refusals = (first second : List ℤ) (count k : ℕ) → choice_answer first second count ≡ refuses k → (k ≡ 8) ⊎ (k ≡ 3) ⊎ (k ≡ 11)

-- "a count of 0 gives an empty part of the first", and is never refused
abbrev pub NoLevels : Type 0
NoLevels = (first second : Bor (List ℤ)) → (choice_answer first.now second.now 0 ≡ answers 0) × (lighter_of first second 0 ≡ firsts 0 first)

-- accepted, the part has count levels, and neither buffer's first count have a smaller sum: "the one with less to code"
abbrev pub Lightest : Type 0
Lightest =
    (first second : Bor (List ℤ)) (count which : ℕ) → choice_answer first.now second.now count ≡ answers which
    → let given = (lighter_of first second count).levels in
    (length given ≡ count) × (weight count given ≤ weight count first.now) × (weight count given ≤ weight count second.now)
