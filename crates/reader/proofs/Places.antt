-- The places of a record, eight to a byte of its map. Assumes nothing.
use mathlib.Core.Bool.{Bool, false, cond}
use mathlib.Core.List.{List}
use mathlib.Core.Path.{◌≡◌, refl, sym, ap, ap₂, ◌∙◌}
use Prim.Native.Nat.{ℕ, suc, ◌+◌, ◌*◌, ◌/◌, ◌%◌, ◌^◌, ◌≤◌, ◌<◌}
use native.Mathlib.Nat.{zero-div, mod-lt}
use native.Mathlib.Omega.{arith}
use lib.Count.{ones}
use lib.Dec.{eqb, lit<}
use lib.IntN.{pos}
use lib.ListN.{length, get_or, replicate}
use Rattle.laws.specs.Store.{tab}
use Rattle.laws.proofs.Bool.{bit_is}
use Rattle.laws.proofs.Laid.{tab_ext}
use Rattle.format.specs.Pieces.{number_at, of_word, bit_of}
use Rattle.format.specs.Format.{bit_in, count_in, list_in, listed_in, level_in, places_in, length_in}
use Rattle.format.proofs.Sides.{sized_in}
use Rattle.format.proofs.Listed.{standing_more, standing_within}
use Rattle.look.proofs.Counted.{bit_at, ones_none, byte_ones, count_eight}

-- ---- a level by its bit

zeros : replicate 8 (pos 0) ≡ tab 8 (λ i. pos 0)
unfolding tab
zeros = refl

-- ---- the eight places from q on, one after the other: x is their byte of the map

module _ (s : List ℕ) (q : ℕ) (whole : q % 8 ≡ 0) (inside : q + 8 ≤ places_in s) (room : length_in s ≤ length s) where
  pub map_room : 5 + q / 8 < length s
  unfolding length_in
  map_room = let z = sized_in s in omega (arith, z.whole)

  -- the bytes reach past a level that is listed
  pub list_room : (i : ℕ) → i < 8 → list_in s + 4 * count_in s (q + i) + 4 * (get_or s (5 + q / 8) 0 / 2 ^ i % 2) ≤ length s
  unfolding length_in
  list_room i h =
      omega (
        arith,
        standing_within (bit_in s) (places_in s) (q + i) (omega arith),
        ap (λ (b : Bool). cond {A = ℕ} b 1 0) (bit_at s q i whole h),
        bit_is (get_or s (5 + q / 8) 0 / 2 ^ i % 2) (mod-lt (get_or s (5 + q / 8) 0 / 2 ^ i) (lit< tt)),
      )

  -- where the next begins
  pub count_next : (i : ℕ) → i < 8 → count_in s (q + i) + get_or s (5 + q / 8) 0 / 2 ^ i % 2 ≡ count_in s (q + (i + 1))
  count_next i h =
      omega (
        arith,
        ap (count_in s) (let e : q + (i + 1) ≡ suc (q + i) = omega arith in e),
        standing_more (bit_in s) (q + i),
        ap (λ (b : Bool). cond {A = ℕ} b 1 0) (bit_at s q i whole h),
        bit_is (get_or s (5 + q / 8) 0 / 2 ^ i % 2) (mod-lt (get_or s (5 + q / 8) 0 / 2 ^ i) (lit< tt)),
      )

  -- the level
  pub level_at_lem : (i at : ℕ) → i < 8 → at ≡ list_in s + 4 * count_in s (q + i)
      → cond (bit_of (get_or s (5 + q / 8) 0) i) (of_word (number_at s at)) (pos 0) ≡ level_in s (q + i)
  unfolding level_in listed_in
  level_at_lem i at h e =
      ap₂ (λ (b : Bool) (k : ℕ). cond b (of_word (number_at s k)) (pos 0)) (sym (bit_at s q i whole h)) e

  -- where no bit stands
  module _ (none : get_or s (5 + q / 8) 0 ≡ 0) where
    off : (i : ℕ) → i < 8 → bit_in s (q + i) ≡ false
    off i h = bit_at s q i whole h ∙ ap (λ (x : ℕ). bit_of x i) none ∙ zero_bit i
      where
        zero_bit : (i : ℕ) → bit_of 0 i ≡ false
        zero_bit i = ap (λ (n : ℕ). eqb (n % 2) 1) (zero-div (2 ^ i))

    pub count_same : count_in s (q + 8) ≡ count_in s q
    count_same = count_eight s q whole ∙ omega (arith, byte_ones (get_or s (5 + q / 8) 0) (omega arith), ap ones none, ones_none)

    levels_zero : (i : ℕ) → i < 8 → pos 0 ≡ level_in s (q + i)
    unfolding level_in
    levels_zero i h = rw (off i h)

    pub eight_zeros : replicate 8 (pos 0) ≡ tab 8 (λ i. level_in s (q + i))
    eight_zeros = zeros ∙ tab_ext 8 (λ i. pos 0) (λ i. level_in s (q + i)) levels_zero
