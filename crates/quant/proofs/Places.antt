-- The places that a scan means, and whether one isn't in the buffer. Assumes nothing.
use mathlib.Core.Path.{◌≡◌, refl, sym, ap, ap₂, ◌∙◌, subst}
use mathlib.Core.Bool.{Bool, true, false, not, not-not, cond}
use mathlib.Core.List.{List}
use Prim.Native.Nat.{ℕ, ◌+◌, ◌*◌, ◌/◌, ◌%◌, ◌≤◌, ◌<◌}
use native.Mathlib.Nat.{mul-le-mul}
use native.Mathlib.Omega.{arith}
use borrow.Author.Tests.{lt-ltb, le-ltb, ltb-true, leb-false}
use lib.Dec.{ltb, leb}
use lib.IntN.{ℤ, pos}
use lib.ListN.{length, get_or}
use mir.Syntax.{w16}
use mir.Val.{Fits}
use Rattle.laws.specs.Store.{laid}
use Rattle.laws.specs.Table.{every}
use Rattle.laws.proofs.Filled.{front_at}
use Rattle.laws.proofs.Every.{every_each, every_same}
use Rattle.laws.proofs.Laid.{laid_ext}
use Rattle.quant.specs.Scan.{is_by_width, meant, place_at, named_at, is_bad_scan}

-- the largest place of a stride of 32
stride_small : (rc width : ℕ) → rc < 65536 → width ≤ 32 → rc % 32 * width + rc / 32 < 65536
stride_small rc width h w = let l : rc % 32 ≤ 31 = omega arith in omega (arith, mul-le-mul l w)

meant_small : (direct : Bool) (width rc : ℕ) → rc < 65536 → width ≤ 32 → meant direct width rc < 65536
unfolding meant
meant_small true width rc h w = h
meant_small false width rc h w = stride_small rc width h w

-- a place of 16 bits is below room where it is below what of room 16 bits can reach
below_reach : (p room : ℕ) → p < 65536 → ltb p (cond (leb room 65536) room 65536) ≡ ltb p room
below_reach p room h = go (leb room 65536) (leb-false room 65536)
  where
    go : (t : Bool) → (t ≡ false → 65536 < room) → ltb p (cond t room 65536) ≡ ltb p room
    go true f = refl
    go false f = let l = f refl in lt-ltb p 65536 h ∙ sym (lt-ltb p room (omega arith))

module _ (width : ℕ) (coefficients : List ℤ) (scan : List ℕ) where
  abbrev n : ℕ
  n = length scan

  abbrev room : ℕ
  room = length coefficients

  abbrev bad_scan : Bool
  bad_scan = is_bad_scan width room scan

  abbrev found : Bool
  found = every n (λ i. ltb (place_at width scan i) room)

  pub too_long : 1024 < n → not bad_scan ≡ false
  unfolding is_bad_scan
  too_long h = rw (lt-ltb 1024 n h)

  short_enough : n ≤ 1024 → not bad_scan ≡ found
  unfolding is_bad_scan
  short_enough h = rw (le-ltb 1024 n h) (not-not found)

  -- the places as a list, and whether every one was found
  pub record Placed (places : List ℕ) (r : Bool) : Type 0 where
    pub tested : r ≡ not bad_scan
    pub below : not bad_scan ≡ true → (i : ℕ) → i < n → get_or places i 0 < room
    pub gathers : (old new : List ℤ) (m : ℕ) → m ≡ n → new ≡ laid old 0 m (λ i. get_or coefficients (get_or places i 0) (pos 0)) → new ≡ laid old 0 n (named_at width coefficients scan)

  -- as the code has it: how places are read, how far they may reach, the places over old ones, and whether each is below the limit
  module _ (direct : Bool) (wide limit : ℕ) (old : List ℕ) (named : List ℤ) (places : List ℕ) (r : Bool)
      (asked : (width ≤ 32) × (n ≤ 1024) × (length old ≡ n) × (length named ≡ n)) (d : (direct ≡ is_by_width width scan) × (wide ≡ width))
      (is : places ≡ laid old 0 n (λ i. meant direct wide (get_or scan i 0))) (t : r ≡ every n (λ i. ltb (meant direct wide (get_or scan i 0)) limit)) where
    meant_is : (rc : ℕ) → meant direct wide rc ≡ meant (is_by_width width scan) width rc
    meant_is rc = ap₂ (λ (t : Bool) (w : ℕ). meant t w rc) d.0 d.1

    place_is : (i : ℕ) → i < n → get_or places i 0 ≡ place_at width scan i
    unfolding place_at
    place_is i b =
        ap (λ (l : List ℕ). get_or l i 0) is
        ∙ front_at old n (λ i. meant direct wide (get_or scan i 0)) 0 (omega arith) i b
        ∙ meant_is (get_or scan i 0)

    all_found : ((i : ℕ) → Fits w16 (get_or scan i 0)) → limit ≡ cond (leb room 65536) room 65536 → r ≡ not bad_scan
    unfolding place_at
    all_found h e =
        t
        ∙ every_same n (λ i. ltb (meant direct wide (get_or scan i 0)) limit) (λ i. ltb (place_at width scan i) room) (λ i b.
        ap₂ ltb (meant_is (get_or scan i 0)) e
        ∙ below_reach (meant (is_by_width width scan) width (get_or scan i 0)) room (meant_small (is_by_width width scan) width (get_or scan i 0) (h i).fits asked.0))
        ∙ sym (short_enough asked.1)

    place_below : not bad_scan ≡ true → (i : ℕ) → i < n → get_or places i 0 < room
    place_below e i b =
        subst (λ (p : ℕ). p < room) (sym (place_is i b))
        (ltb-true (place_at width scan i) room (every_each n (λ i. ltb (place_at width scan i) room) (sym (short_enough asked.1) ∙ e) i b))

    gathered : (old new : List ℤ) (m : ℕ) → m ≡ n → new ≡ laid old 0 m (λ i. get_or coefficients (get_or places i 0) (pos 0)) → new ≡ laid old 0 n (named_at width coefficients scan)
    unfolding named_at
    gathered old new m h e =
        e
        ∙ ap (λ (k : ℕ). laid old 0 k (λ i. get_or coefficients (get_or places i 0) (pos 0))) h
        ∙ laid_ext old 0 n (λ i. get_or coefficients (get_or places i 0) (pos 0)) (λ i. get_or coefficients (place_at width scan i) (pos 0))
        (λ i b. ap (λ (p : ℕ). get_or coefficients p (pos 0)) (place_is i b))

    pub placed : ((i : ℕ) → Fits w16 (get_or scan i 0)) → limit ≡ cond (leb room 65536) room 65536 → Placed places r
    placed h e = record { tested = all_found h e; below = place_below; gathers = gathered }
