-- The blocks that lent buffers hold: their records and their bytes, one block after the other. Assumes nothing.
use mathlib.Core.Bool.{true, false, not, ◌||◌, or-true}
use mathlib.Core.List.{List, [], ◌∷◌, ◌++◌}
use mathlib.Core.Path.{◌≡◌, refl, sym, ap, ap₂, ◌∙◌}
use Prim.Native.Nat.{ℕ, zero, suc, ◌+◌, ◌-◌, ◌*◌, ◌/◌, ◌≤◌, ◌<◌}
use native.Mathlib.Numerals.{add-one}
use native.Mathlib.Omega.{arith}
use borrow.Author.Tests.{lt-ltb, le-ltb, ltb-false, not-true}
use lib.Dec.{ltb}
use lib.IntN.{ℤ, pos}
use lib.ListN.{length, get_or, set, take, drop, length-append, length-drop}
use lib.Seq.{get_or-take, get_or-drop, length-take-le}
use Rattle.laws.proofs.Bool.{neither}
use Rattle.laws.proofs.Every.{every_each}
use Rattle.laws.proofs.Pasted.{pasted_set, pasted_both, pasted_first}
use Rattle.laws.proofs.Sum.{sum_within}
use Rattle.laws.specs.Store.{tab, over, pasted}
use Rattle.laws.specs.Sum.{sum_ℕ}
use Rattle.laws.specs.Table.{every}
use Rattle.sizes.specs.Size.{is_side}
use Rattle.format.specs.Pieces.{four, side_byte, map_of, listed}
use Rattle.format.specs.Format.{level_of, record_of, bytes_of}
use Rattle.writer.specs.Write.{level_at, block_of, level_from, block_from, places_at, place_at, block_at, blocks_in, length_to}
use Rattle.format.proofs.Bits.{map_length}
use Rattle.format.proofs.Listed.{listed_same}
use Rattle.format.proofs.Parse.{bytes_more}
use Rattle.format.proofs.Record.{record_length}
use Rattle.format.proofs.Sides.{Sized, sized}

-- ---- where the levels of a block begin

pub place_none : (sides : List ℕ) → place_at sides 0 ≡ 0
unfolding place_at sum_ℕ
place_none sides = refl

pub place_step : (sides : List ℕ) (k : ℕ) → place_at sides (k + 1) ≡ place_at sides k + places_at sides k
unfolding place_at sum_ℕ
place_step sides k = ap (λ (n : ℕ). sum_ℕ n (places_at sides)) (add-one k)

pub place_within : (sides : List ℕ) (n k : ℕ) → k < n → place_at sides k + places_at sides k ≤ place_at sides n
unfolding place_at
place_within sides n k h = sum_within n (places_at sides) k h

-- ---- a part of the levels, as it is lent on

module _ (levels : List ℤ) (place m n : ℕ) (e : m ≡ n) (room : place + n ≤ length levels) where
  pub part_long : length (take m (drop place levels)) ≡ n
  part_long = length-take-le m (drop place levels) (omega (arith, length-drop place levels)) ∙ e

  pub part_at : (p : ℕ) → p < n → level_at (take m (drop place levels)) p ≡ level_from levels place p
  part_at p b = get_or-take m (drop place levels) p (pos 0) (omega arith) ∙ get_or-drop place levels p (pos 0)

  pub part_listed : listed (length (take m (drop place levels))) (level_at (take m (drop place levels))) ≡ listed n (level_from levels place)
  part_listed =
      ap (λ (k : ℕ). listed k (level_at (take m (drop place levels)))) part_long
      ∙ listed_same n (level_at (take m (drop place levels))) (level_from levels place)
      part_at

-- a block whose levels are such a part
pub block_part : (number w h : ℕ) (levels : List ℤ) (place m : ℕ) → m ≡ w * h → block_of number w h (take m (drop place levels)) ≡ block_from number w h levels place
unfolding block_from
block_part number w h levels place m e = ap (λ (k : ℕ). block_of number w h (take k (drop place levels))) e

-- ---- a block's record, with the levels where they lie

module _ (number w h : ℕ) (levels : List ℤ) (place : ℕ) where
  pub level_from_lem : (p : ℕ) → p < w * h → level_of (block_from number w h levels place) p ≡ level_from levels place p
  unfolding block_from
  level_from_lem p b = get_or-take (w * h) (drop place levels) p (pos 0) b ∙ get_or-drop place levels p (pos 0)

  pub from_length : length (record_of (block_from number w h levels place)) ≡ 5 + w * h / 8 + length (listed (w * h) (level_from levels place))
  unfolding block_from
  from_length =
      record_length (block_from number w h levels place)
      ∙ ap (λ (l : List ℕ). 5 + w * h / 8 + length l) (listed_same (w * h) (level_of (block_from number w h levels place)) (level_from levels place) level_from_lem)

-- the same, with the levels of a buffer
module _ (number w h : ℕ) (levels : List ℤ) (long : length levels ≡ w * h) where
  pub record_is : record_of (block_of number w h levels)
      ≡ four number ++ ((side_byte w h ∷ []) ++ (map_of (length levels) (level_at levels) ++ listed (length levels) (level_at levels)))
  unfolding record_of
  record_is = rw long refl

  pub of_length : length (record_of (block_of number w h levels)) ≡ 5 + length levels / 8 + length (listed (length levels) (level_at levels))
  of_length = rw long (record_length (block_of number w h levels))

-- ---- the bytes of the first blocks, one block more

-- the bytes of block k
abbrev pub length_at : List ℕ → List ℤ → ℕ → ℕ
length_at sides levels k = 5 + places_at sides k / 8 + length (listed (places_at sides k) (level_from levels (place_at sides k)))

module _ (numbers sides : List ℕ) (levels : List ℤ) where
  pub bytes_none : bytes_of (blocks_in 0 numbers sides levels) ≡ []
  unfolding bytes_of blocks_in tab
  bytes_none = refl

  pub bytes_step : (k : ℕ) → bytes_of (blocks_in (k + 1) numbers sides levels) ≡ bytes_of (blocks_in k numbers sides levels) ++ record_of (block_at numbers sides levels k)
  unfolding blocks_in tab
  bytes_step k =
      ap (λ (n : ℕ). bytes_of (tab n (block_at numbers sides levels))) (add-one k)
      ∙ bytes_more (tab k (block_at numbers sides levels)) (block_at numbers sides levels k)

  pub at_length : (k : ℕ) → length (record_of (block_at numbers sides levels k)) ≡ length_at sides levels k
  unfolding block_at
  at_length k = from_length (get_or numbers k 0) (get_or sides (2 * k) 0) (get_or sides (2 * k + 1) 0) levels (place_at sides k)

  pub bytes_long : (k : ℕ) → length (bytes_of (blocks_in (k + 1) numbers sides levels)) ≡ length (bytes_of (blocks_in k numbers sides levels)) + length_at sides levels k
  bytes_long k =
      ap length (bytes_step k) ∙ length-append (bytes_of (blocks_in k numbers sides levels)) (record_of (block_at numbers sides levels k))
      ∙ ap (λ (n : ℕ). length (bytes_of (blocks_in k numbers sides levels)) + n) (at_length k)

module _ (sides : List ℕ) (levels : List ℤ) where
  sum_bytes : (numbers : List ℕ) (k : ℕ) → length (bytes_of (blocks_in k numbers sides levels)) ≡ sum_ℕ k (length_at sides levels)
  unfolding sum_ℕ
  sum_bytes numbers zero = ap length (bytes_none numbers sides levels)
  sum_bytes numbers (suc k) =
      ap (λ (n : ℕ). length (bytes_of (blocks_in n numbers sides levels))) (sym (add-one k)) ∙ bytes_long numbers sides levels k
      ∙ ap (λ (n : ℕ). n + length_at sides levels k) (sum_bytes numbers k)

  -- the numbers don't change how many bytes there are
  pub length_to_lem : (numbers : List ℕ) (k : ℕ) → length (bytes_of (blocks_in k numbers sides levels)) ≡ length_to sides levels k
  unfolding length_to
  length_to_lem numbers k = sum_bytes numbers k ∙ sym (sum_bytes [] k)

  pub to_none : length_to sides levels 0 ≡ 0
  unfolding length_to
  to_none = ap length (bytes_none [] sides levels)

  pub to_step : (k : ℕ) → length_to sides levels (k + 1) ≡ length_to sides levels k + length_at sides levels k
  unfolding length_to
  to_step k = bytes_long [] sides levels k

  pub to_within : (n k : ℕ) → k < n → length_to sides levels k + length_at sides levels k ≤ length_to sides levels n
  unfolding length_to
  to_within n k h = omega (arith, sum_within n (length_at sides levels) k h, sum_bytes [] n, sum_bytes [] k)

-- a turn of the loop that writes
pub over_block : {out : List ℕ} (numbers sides : List ℕ) (levels : List ℤ) (d : List ℕ) (k at : ℕ) → out ≡ over (bytes_of (blocks_in k numbers sides levels)) d
    → at ≡ length (bytes_of (blocks_in k numbers sides levels)) → at ≤ length d
    → pasted out at (record_of (block_at numbers sides levels k)) ≡ over (bytes_of (blocks_in (k + 1) numbers sides levels)) d
over_block numbers sides levels d k at e a h =
    ap (λ (o : List ℕ). pasted o at (record_of (block_at numbers sides levels k))) e
    ∙ pasted_both d 0 at (bytes_of (blocks_in k numbers sides levels)) (record_of (block_at numbers sides levels k)) (omega arith) (omega arith)
    ∙ ap (λ (l : List ℕ). over l d) (sym (bytes_step numbers sides levels k))

-- ---- a record, written with its levels first: d, then with the levels, with the number, with the side byte, and with the map
module _ (d : List ℕ) (number w h : ℕ) (levels : List ℤ) (long : length levels ≡ w * h) (room : length (record_of (block_of number w h levels)) ≤ length d) where
  pub room_of_lem : 5 + length levels / 8 + length (listed (length levels) (level_at levels)) ≤ length d
  room_of_lem = omega (arith, of_length number w h levels long)

  pub paste_record : (d₁ : List ℕ) → length d₁ ≡ length d → {d₂ d₃ : List ℕ} {side : ℕ} → d₂ ≡ over (four number) d₁ → side ≡ side_byte w h
      → (list : ℕ) {end : ℕ} → list + length (listed (length levels) (level_at levels)) ≡ end
      → end ≡ 5 + length levels / 8 + length (listed (length levels) (level_at levels)) → take (list - 4) d₁ ≡ take (list - 4) d
      → drop list d₁ ≡ listed (length levels) (level_at levels) ++ drop end d
      → d₃ ≡ pasted (set d₂ 4 side) 5 (map_of (length levels) (level_at levels))
      → d₃ ≡ over (record_of (block_of number w h levels)) d
  paste_record d₁ same {d₂} {d₃} {side} e₂ s list ends is kept put e₃ =
      let map = map_of (length levels) (level_at levels) in
      let head = four number ++ (side_byte w h ∷ []) ++ map in
      let head_long : length head ≡ 5 + length levels / 8 = omega (arith, map_length (length levels) (level_at levels)) in
      let sided = ap₂ (λ (x : List ℕ) (v : ℕ). set x 4 v) e₂ s ∙ pasted_set d₁ 0 4 (four number) (side_byte w h) (omega (arith, room_of_lem)) refl in
      e₃ ∙ ap (λ (x : List ℕ). pasted x 5 map) sided
      ∙ pasted_both d₁ 0 5 (four number ++ (side_byte w h ∷ [])) map (omega (arith, room_of_lem)) refl
      ∙ pasted_first d d₁ 0 (list - 4) list head (listed (length levels) (level_at levels)) (omega arith) (omega (arith, head_long)) kept
      (put ∙ ap (λ (k : ℕ). listed (length levels) (level_at levels) ++ drop k d) (sym ends))
      ∙ ap (λ (l : List ℕ). over l d) (sym (record_is number w h levels long))

-- ---- the sides of block k
pub sides_at : (count : ℕ) (sides : List ℕ) → every (2 * count) (λ i. is_side (get_or sides i 0)) ≡ true → (k : ℕ) → k < count
    → (is_side (get_or sides (2 * k) 0) ≡ true) × (is_side (get_or sides (2 * k + 1) 0) ≡ true)
sides_at count sides e k h =
    let at = every_each (2 * count) (λ i. is_side (get_or sides i 0)) e in
    (at (2 * k) (omega arith), at (2 * k + 1) (omega arith))

pub sized_at : (count : ℕ) (sides : List ℕ) → every (2 * count) (λ i. is_side (get_or sides i 0)) ≡ true → (k : ℕ) → k < count → Sized (places_at sides k)
sized_at count sides e k h = let s = sides_at count sides e k h in sized (get_or sides (2 * k) 0) (get_or sides (2 * k + 1) 0) s.0 s.1

-- ---- whether levels and bytes have room

module _ (levels room place bytes : ℕ) where
  pub fits_levels : levels < place → false ≡ not (ltb levels place || ltb room bytes)
  fits_levels h = rw (lt-ltb levels place h)

  pub fits_bytes : room < bytes → false ≡ not (ltb levels place || ltb room bytes)
  fits_bytes h = rw (lt-ltb room bytes h, or-true (ltb levels place))

  pub fits_both : place ≤ levels → bytes ≤ room → true ≡ not (ltb levels place || ltb room bytes)
  fits_both a b = rw (le-ltb levels place a, le-ltb room bytes b)

  pub fits_told : not (ltb levels place || ltb room bytes) ≡ true → (place ≤ levels) × (bytes ≤ room)
  fits_told e =
      let n = neither (ltb levels place) (ltb room bytes) (not-true _ e) in
      (ltb-false levels place n.0, ltb-false room bytes n.1)

-- block k, by the place that the loop has reached
pub block_at_lem : (numbers sides : List ℕ) (levels : List ℤ) (k : ℕ) {place : ℕ} → place ≡ place_at sides k
    → block_from (get_or numbers k 0) (get_or sides (2 * k) 0) (get_or sides (2 * k + 1) 0) levels place ≡ block_at numbers sides levels k
unfolding block_at
block_at_lem numbers sides levels k e = ap (block_from (get_or numbers k 0) (get_or sides (2 * k) 0) (get_or sides (2 * k + 1) 0) levels) e
