-- The code's two tables of shifts are document 01's pairs, each in a pass's range, and how large they are: tests over the sixteen sizes. Assumes nothing.
use mathlib.Core.Path.{◌≡◌, refl}
use mathlib.Core.Bool.{Bool, true, ◌&&◌}
use mathlib.Core.List.{List, [], ◌∷◌}
use Prim.Native.Nat.{ℕ, ◌+◌, ◌-◌, ◌*◌, ◌≤◌}
use borrow.Author.Tests.{eqb-true, leb-true}
use lib.Dec.{eqb, leb}
use lib.IntN.{pos}
use lib.ListN.{get_or}
use Rattle.laws.proofs.Bool.{both}
use Rattle.fixed.specs.Fixed.{is_shift}
use Rattle.sizes.specs.Size.{is_side, log_of}
use Rattle.sizes.specs.Shift.{shifts, lookup, first_shift, second_shift}
use Rattle.sizes.proofs.Side.{each_size}

-- the tables, as the code has them
unfoldable pub firsts : List ℕ
firsts = 1 ∷ 1 ∷ 1 ∷ 1 ∷ 1 ∷ 2 ∷ 1 ∷ 1 ∷ 1 ∷ 2 ∷ 2 ∷ 2 ∷ 1 ∷ 3 ∷ 3 ∷ 3 ∷ []

unfoldable pub seconds : List ℕ
seconds = 10 ∷ 11 ∷ 11 ∷ 12 ∷ 11 ∷ 10 ∷ 12 ∷ 12 ∷ 11 ∷ 11 ∷ 11 ∷ 13 ∷ 12 ∷ 10 ∷ 12 ∷ 12 ∷ []

-- what stands in one at the place that the code works out of two logarithms
abbrev at : List ℕ → ℕ → ℕ → ℕ
at t i j = get_or t ((i - 2) * 4 + (j - 2)) 0

-- there it has the shift of w × h, which is one that a pass may have
abbrev has : List ℕ → (ℕ → ℕ → ℕ) → ℕ → ℕ → Bool
has t shift w h = eqb (at t (log_of w) (log_of h)) (shift w h) && is_shift (pos (at t (log_of w) (log_of h)))

entry : (t : List ℕ) (shift : ℕ → ℕ → ℕ) (w h : ℕ) {i j : ℕ} → has t shift w h ≡ true → i ≡ log_of w → j ≡ log_of h
    → (at t i j ≡ shift w h) × (is_shift (pos (at t i j)) ≡ true)
entry t shift w h e a b =
    let p = both (eqb (at t (log_of w) (log_of h)) (shift w h)) (is_shift (pos (at t (log_of w) (log_of h)))) e in
    rw (a, b) (eqb-true _ _ p.0, p.1)

module _ (w h : ℕ) {i j : ℕ} (sw : is_side w ≡ true) (sh : is_side h ≡ true) where
  pub first_entry : i ≡ log_of w → j ≡ log_of h → (at firsts i j ≡ first_shift w h) × (is_shift (pos (at firsts i j)) ≡ true)
  unfolding is_shift firsts first_shift lookup shifts log_of
  first_entry = entry firsts first_shift w h (each_size (has firsts first_shift) refl w h sw sh)

  pub second_entry : i ≡ log_of w → j ≡ log_of h → (at seconds i j ≡ second_shift w h) × (is_shift (pos (at seconds i j)) ≡ true)
  unfolding is_shift seconds second_shift lookup shifts log_of
  second_entry = entry seconds second_shift w h (each_size (has seconds second_shift) refl w h sw sh)

-- how large the shifts are
pub record Shifted (w h : ℕ) : Type 0 where
  pub first_high : first_shift w h ≤ 3
  pub second_low : 10 ≤ second_shift w h
  pub second_high : second_shift w h ≤ 13

pub shift_bounds : (w h : ℕ) → is_side w ≡ true → is_side h ≡ true → Shifted w h
unfolding first_shift second_shift lookup shifts
shift_bounds w h sw sh =
    record {
      first_high = leb-true _ _ (each_size (λ w h. leb (first_shift w h) 3) refl w h sw sh);
      second_low = leb-true _ _ (each_size (λ w h. leb 10 (second_shift w h)) refl w h sw sh);
      second_high = leb-true _ _ (each_size (λ w h. leb (second_shift w h) 13) refl w h sw sh);
    }
