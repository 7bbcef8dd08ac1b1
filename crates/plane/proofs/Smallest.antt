-- The smallest number from i on that a test names: the test names it, and none before it; and the first free number of a record, as a
-- search finds it. Assumes nothing.
use mathlib.Core.Path.{◌≡◌, refl, sym, ap, ◌∙◌}
use mathlib.Core.Bool.{Bool, true, false, not, cond}
use mathlib.Core.Logic.{⊎_elim}
use Prim.Native.Nat.{ℕ, zero, suc, ◌+◌, ◌≤◌, ◌<◌}
use native.Mathlib.Omega.{arith}
use lib.Dec.{eqb}
use lib.ListN.{length}
use Rattle.std.specs.Prelude.{Option, Some, None, MatchOption}
use Rattle.std.specs.List.{AllWithin, HoldsAt}
use Rattle.laws.proofs.Place.{split}
use Rattle.plane.specs.Plane.{tile_at, is_open, no_tile, smallest, number_or_16, first_free}
use Rattle.plane.specs.declared.Plane.{Plane}
use Rattle.plane.specs.declared.Tile.{Tile}

module _ (g : ℕ → Bool) where
  pub smallest_is : (m i : ℕ) → smallest m i g < i + m → g (smallest m i g) ≡ true
  unfolding smallest
  smallest_is zero i l = absurd (omega arith)
  smallest_is (suc m) i l = go (g i) refl l (smallest_is m (suc i))
    where
      go : (x : Bool) → g i ≡ x → cond x i (smallest m (suc i) g) < i + suc m
          → (smallest m (suc i) g < suc i + m → g (smallest m (suc i) g) ≡ true) → g (cond x i (smallest m (suc i) g)) ≡ true
      go true e l f = e
      go false e l f = f (omega arith)

  -- and none before it is named
  pub smallest_least : (m i j : ℕ) → i ≤ j → j < smallest m i g → g j ≡ false
  unfolding smallest
  smallest_least zero i j a l = absurd (omega arith)
  smallest_least (suc m) i j a l = go (g i) refl l (smallest_least m (suc i) j)
    where
      go : (x : Bool) → g i ≡ x → j < cond x i (smallest m (suc i) g) → (suc i ≤ j → j < smallest m (suc i) g → g j ≡ false) → g j ≡ false
      go true e l f = absurd (omega arith)
      go false e l f = ⊎_elim (λ u. ap g (omega arith) ∙ e) (λ u. f u l) (split j (suc i))

  pub smallest_none : (m i : ℕ) → ((j : ℕ) → i ≤ j → j < i + m → g j ≡ false) → smallest m i g ≡ i + m
  unfolding smallest
  smallest_none zero i h = omega arith
  smallest_none (suc m) i h = rw (h i (omega arith) (omega arith)) (smallest_none m (suc i) (λ j a b. h j (omega arith) (omega arith)) ∙ omega arith)

  pub smallest_found : (m i n : ℕ) → i ≤ n → n < i + m → g n ≡ true → ((j : ℕ) → i ≤ j → j < n → g j ≡ false) → smallest m i g ≡ n
  unfolding smallest
  smallest_found zero i n a b e h = absurd (omega arith)
  smallest_found (suc m) i n a b e h =
      ⊎_elim (λ l. rw (h i (omega arith) l) (smallest_found m (suc i) n (omega arith) (omega arith) e (λ j c d. h j (omega arith) d)))
      (λ l. let same : n ≡ i = omega arith in rw (ap g (sym same) ∙ e) (sym same))
      (split i n)

-- ---- the first free number

-- what a search asks of a tile, and its answer
abbrev pub asks_free : Bool → Tile → Type 0
asks_free x t = x ≡ eqb t.opened 0

pub free_number : (p : Plane) (r : Option ℕ) → length p.tiles ≡ 16 → MatchOption r (AllWithin (asks_free false) p.tiles 0 (length p.tiles))
    (λ i. (i < length p.tiles) × HoldsAt (asks_free true) p.tiles i × AllWithin (asks_free false) p.tiles 0 i)
    → number_or_16 r ≡ first_free p
unfolding first_free
free_number p None many h =
    sym (smallest_none (λ i. not (is_open (tile_at p i))) 16 0 (λ j a b. ap (λ (x : Bool). not (not x)) (sym (h j no_tile a (omega arith)))))
free_number p (Some i) many h =
    sym
    (smallest_found (λ i. not (is_open (tile_at p i))) 16 0 i (omega arith) (omega arith) (ap (λ (x : Bool). not (not x)) (sym (h.1 no_tile)))
    (λ j a b. ap (λ (x : Bool). not (not x)) (sym (h.2 j no_tile a b))))
