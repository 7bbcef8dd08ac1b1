-- The bounds of a record's tiles, stored by number: no two meet where no two tiles overlap. Assumes nothing.
use mathlib.Core.Path.{◌≡◌, refl, sym, ap, ap₂, ◌∙◌}
use mathlib.Core.Bool.{Bool, true, false, cond, not, ◌&&◌, and-false}
use mathlib.Core.Logic.{⊎_elim}
use mathlib.Core.List.{List}
use Prim.Native.Nat.{ℕ, suc, ◌+◌, ◌-◌, ◌≤◌, ◌<◌}
use native.Mathlib.Omega.{arith}
use borrow.Author.Tests.{le-ltb}
use lib.Dec.{ltb}
use lib.ListN.{length, get_or, set, replicate, get_or-replicate}
use Rattle.std.proofs.lemmas.List.{get_or_past}
use Rattle.std.specs.Bool.{MatchBool}
use Rattle.std.specs.List.{AllWithin, HoldsAt}
use Rattle.laws.specs.Table.{every}
use Rattle.laws.proofs.Bool.{same_test}
use Rattle.laws.proofs.Every.{every_all, every_each, every_not}
use Rattle.laws.proofs.Place.{split}
use Rattle.laws.proofs.Store.{Stored, stored_none, stored_turn, stores_front, stores_out}
use Rattle.plane.specs.Bounds.{bounds_of, bounds_in, meet, clear_at, clear_all, InLargest}
use Rattle.plane.specs.Places.{overlap}
use Rattle.plane.specs.Plane.{no_tile, tile_at, is_open, sides_ok, tile_ok, clash, apart}
use Rattle.plane.specs.declared.AllBounds.{AllBounds}
use Rattle.plane.specs.declared.Bounds.{Bounds}
use Rattle.plane.specs.declared.Plane.{Plane}
use Rattle.plane.specs.declared.Tile.{Tile}
use Rattle.plane.proofs.Rules.{lying, tile_rules, sides}

-- ---- after n turns

abbrev zeros : List ℕ
zeros = replicate 32 0

-- a list has one bound of each of the first n tiles, and zeros past them
abbrev HasBound : Plane → ℕ → (Bounds → ℕ) → List ℕ → Type 0
HasBound p n f d = Stored d zeros n (λ i. i) (λ i. f (bounds_of (tile_at p i)))

pub record Bounded (p : Plane) (n : ℕ) (all : AllBounds) : Type 0 where
  pub left : HasBound p n (λ b. b.left) all.lefts
  pub right : HasBound p n (λ b. b.right) all.rights
  pub top : HasBound p n (λ b. b.top) all.tops
  pub bottom : HasBound p n (λ b. b.bottom) all.bottoms

abbrev pub all_of : List ℕ → List ℕ → List ℕ → List ℕ → AllBounds
all_of lefts rights tops bottoms = record { lefts = lefts; rights = rights; tops = tops; bottoms = bottoms }

pub bounded_none : {p : Plane} → Bounded p 0 (all_of zeros zeros zeros zeros)
bounded_none = record { left = stored_none; right = stored_none; top = stored_none; bottom = stored_none }

module _ {p : Plane} {n : ℕ} {all : AllBounds} (k : Bounded p n all) where
  -- a turn stores those of tile n
  pub bounded_turn : {b : Bounds} → b ≡ bounds_of (tile_at p n)
      → Bounded p (n + 1) (all_of (set all.lefts n b.left) (set all.rights n b.right) (set all.tops n b.top) (set all.bottoms n b.bottom))
  bounded_turn e =
      record {
        left = stored_turn k.left refl (ap (λ (b : Bounds). b.left) e);
        right = stored_turn k.right refl (ap (λ (b : Bounds). b.right) e);
        top = stored_turn k.top refl (ap (λ (b : Bounds). b.top) e);
        bottom = stored_turn k.bottom refl (ap (λ (b : Bounds). b.bottom) e);
      }

-- ---- two tiles meet where they clash

meet_clash : (s t : Tile) → meet (bounds_of t) (bounds_of s) ≡ clash s t
unfolding overlap
meet_clash s t =
    by (is_open s) (is_open t) t.x (t.x + t.ticket.w) t.y (t.y + t.ticket.h) s.x (s.x + s.ticket.w) s.y (s.y + s.ticket.h)
  where
    none : (n : ℕ) → ltb n 0 ≡ false
    none n = le-ltb n 0 (omega arith)

    by : (u v : Bool) (l r t b l' r' t' b' : ℕ)
        → ((ltb (cond v l 0) (cond u r' 0) && ltb (cond u l' 0) (cond v r 0)) && (ltb (cond v t 0) (cond u b' 0) && ltb (cond u t' 0) (cond v b 0)))
        ≡ ((u && v) && ((ltb l r' && ltb l' r) && (ltb t b' && ltb t' b)))
    by true true l r t b l' r' t' b' = refl
    by true false l r t b l' r' t' b' = rw (none l', and-false (ltb 0 r'))
    by false v l r t b l' r' t' b' = rw (none (cond v l 0))

-- ---- after all sixteen

no_tile_past : (p : Plane) (i : ℕ) → length p.tiles ≤ i → tile_at p i ≡ no_tile
no_tile_past p i l = get_or_past p.tiles i no_tile l

module _ {d : List ℕ} {g : ℕ → ℕ} (s : Stored d zeros 16 (λ i. i) g) (i : ℕ) where
  at_tile : i < 16 → get_or d i 0 ≡ g i
  at_tile l = ap (λ (x : List ℕ). get_or x i 0) s.is ∙ stores_front zeros 16 g i 0 l (omega arith)

  past_tiles : 16 ≤ i → i < 32 → get_or d i 0 ≡ 0
  past_tiles l m =
      ap (λ (x : List ℕ). get_or x i 0) s.is ∙ stores_out zeros 16 (λ i. i) g i 0 (λ j n e. omega arith) ∙ get_or-replicate 32 i 0 0 m

-- the bounds of every tile, and of none past the last
module _ {p : Plane} {all : AllBounds} (many : length p.tiles ≡ 16) (k : Bounded p 16 all) where
  of_tile : (i : ℕ) → i < 16 → bounds_in all i ≡ bounds_of (tile_at p i)
  of_tile i l = rw (at_tile k.left i l, at_tile k.right i l, at_tile k.top i l, at_tile k.bottom i l)

  of_none : (i : ℕ) → 16 ≤ i → i < 32 → bounds_in all i ≡ bounds_of (tile_at p i)
  of_none i l m =
      rw (
        past_tiles k.left i l m,
        past_tiles k.right i l m,
        past_tiles k.top i l m,
        past_tiles k.bottom i l m,
        no_tile_past p i (omega arith),
      )

  pub all_bounds : (i : ℕ) → i < 32 → bounds_in all i ≡ bounds_of (tile_at p i)
  all_bounds i m = ⊎_elim (λ l. of_tile i l) (λ l. of_none i l m) (split i 16)

module _ (p : Plane) (many : length p.tiles ≡ 16) (b : ℕ → Bounds) (is : (i : ℕ) → i < 32 → b i ≡ bounds_of (tile_at p i)) where
  pair : (i j : ℕ) → i < 16 → j < 16 → not (meet (b j) (b i)) ≡ not (clash (tile_at p i) (tile_at p j))
  pair i j l m = ap not (ap₂ meet (is j (omega arith)) (is i (omega arith)) ∙ meet_clash (tile_at p i) (tile_at p j))

  -- a tile meets none past the last
  pair_none : (i j : ℕ) → 16 ≤ i → i < 32 → j < 16 → not (meet (b j) (b i)) ≡ true
  pair_none i j l m n =
      ap not
      (ap₂ meet (is j (omega arith)) (is i m ∙ ap bounds_of (no_tile_past p i (omega arith))) ∙ meet_clash no_tile (tile_at p j))

  -- of two tiles, the one of the smaller number is tested with the other, which is k + 1 numbers on
  clear_apart : clear_all b ≡ true → apart p ≡ true
  unfolding clear_all clear_at apart
  clear_apart e =
      every_all 16 (λ i. every i (λ j. not (clash (tile_at p i) (tile_at p j))))
      (λ i l.
      every_all i (λ j. not (clash (tile_at p i) (tile_at p j)))
      (λ j m.
      let k = i - suc j in
      let on : j + suc k ≡ i = omega arith in
      let at-k = every_each 15 (λ k. clear_at (suc k) b) e k (omega arith) in
      let at_j = every_each 16 (λ j. not (meet (b j) (b (j + suc k)))) at-k j (omega arith) in
      sym (pair i j l (omega arith)) ∙ rw on at at_j))

  apart_clear : apart p ≡ true → clear_all b ≡ true
  unfolding clear_all clear_at apart
  apart_clear e =
      every_all 15 (λ k. clear_at (suc k) b)
      (λ k l.
      every_all 16 (λ j. not (meet (b j) (b (j + suc k))))
      (λ j m.
      let i = j + suc k in
      ⊎_elim
      (λ n.
      let at_i = every_each 16 (λ i. every i (λ j. not (clash (tile_at p i) (tile_at p j)))) e i n in
      pair i j n m ∙ every_each i (λ j. not (clash (tile_at p i) (tile_at p j))) at_i j (omega arith))
      (λ n. pair_none i j n (omega arith) m)
      (split i 16)))

  pub clear_is : clear_all b ≡ apart p
  clear_is = same_test (clear_all b) (apart p) clear_apart apart_clear

-- ---- an open tile that keeps its rules lies in the largest plane

pub in_largest : (w h : ℕ) (t : Tile) → sides_ok w h ≡ true → tile_ok w h t ≡ true → InLargest t
in_largest w h t s e o =
    let a = sides s in
    let l = lying (tile_rules w h t e o) in
    (omega arith, omega arith)

-- ---- a test of every tile

-- what is asked of a tile in a plane of these sides, and the answer
abbrev pub asks_ok : ℕ → ℕ → Bool → Tile → Type 0
asks_ok w h x t = x ≡ tile_ok w h t

pub all_ok : (p : Plane) (r : Bool) → length p.tiles ≡ 16 → MatchBool r (AllWithin (asks_ok p.w p.h true) p.tiles 0 (length p.tiles))
    ((k : ℕ) × (k < length p.tiles) × HoldsAt (asks_ok p.w p.h false) p.tiles k) → r ≡ every 16 (λ i. tile_ok p.w p.h (tile_at p i))
all_ok p true many h = sym (every_all 16 (λ i. tile_ok p.w p.h (tile_at p i)) (λ i b. sym (h i no_tile (omega arith) (omega arith))))
all_ok p false many h = sym (every_not 16 (λ i. tile_ok p.w p.h (tile_at p i)) h.0 (omega arith) (sym (h.2 no_tile)))
