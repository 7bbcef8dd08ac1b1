-- The bits of a map that stand, counted by its bytes. Assumes nothing.
use Rattle.std.proofs.Common.{◌≡◌, ℕ, zero, suc, ◌+◌, ◌*◌, ◌/◌, ◌%◌, ◌^◌, ◌<◌, List, get_or, sym, refl, ap, ◌∙◌, ap₂, mod-lt, pow-suc, div-one, arith, lit<}
use native.Mathlib.Nat.{div-div-eq-div-mul}
use lib.Count.{ones, ones_step}
use Rattle.format.specs.Pieces.{bit_of, standing}
use Rattle.format.specs.Format.{bit_in, count_in}
use Rattle.format.proofs.Listed.{standing_add, standing_same}
use Rattle.laws.proofs.Bool.{bit_is}
use Rattle.laws.specs.Sum.{sum_ℕ}

-- bit i of the byte at q / 8
pub bit_at : (s : List ℕ) (q i : ℕ) → q % 8 ≡ 0 → i < 8 → bit_in s (q + i) ≡ bit_of (get_or s (5 + q / 8) 0) i
unfolding bit_in
bit_at s q i e h =
    let j : (q + i) / 8 ≡ q / 8 = omega arith in
    let k : (q + i) % 8 ≡ i = omega arith in
    ap₂ (λ (a b : ℕ). bit_of (get_or s (5 + a) 0) b) j k

-- ---- counting by bytes

-- a byte's set digits, the lowest k and the rest
ones_above : (x k : ℕ) → standing (bit_of x) k + ones (x / 2 ^ k) ≡ ones x
unfolding standing sum_ℕ
ones_above x zero = omega (arith, ap ones (div-one x))
ones_above x (suc k) =
    let d = x / 2 ^ k in
    let half : ones (x / 2 ^ suc k) ≡ ones (d / 2) = ap ones (sym (div-div-eq-div-mul x (2 ^ k) 2 ∙ ap (λ (n : ℕ). x / n) (sym (pow-suc 2 k)))) in
    omega (arith, half, ones_step d, bit_is (d % 2) (mod-lt d (lit< tt)), ones_above x k)

pub ones_none : ones 0 ≡ 0
unfolding ones
ones_none = refl

pub byte_ones : (x : ℕ) → x < 256 → standing (bit_of x) 8 ≡ ones x
byte_ones x h = let z : x / 2 ^ 8 ≡ 0 = omega arith in omega (arith, ones_above x 8, ap ones z, ones_none)

-- eight places more
pub count_eight : (s : List ℕ) (q : ℕ) → q % 8 ≡ 0 → count_in s (q + 8) ≡ count_in s q + standing (bit_of (get_or s (5 + q / 8) 0)) 8
count_eight s q e =
    standing_add (bit_in s) q 8
    ∙ ap (λ (n : ℕ). count_in s q + n) (standing_same (λ i. bit_in s (q + i)) (bit_of (get_or s (5 + q / 8) 0)) 8 (λ i h. bit_at s q i e h))

-- a turn of the loop over the bytes of the map
pub count_byte : (s : List ℕ) (j : ℕ) → get_or s (5 + j) 0 < 256 → count_in s (8 * j) + ones (get_or s (5 + j) 0) ≡ count_in s (8 * (j + 1))
count_byte s j h =
    let next : 8 * (j + 1) ≡ 8 * j + 8 = omega arith in
    let same : 8 * j / 8 ≡ j = omega arith in
    omega (
      arith,
      ap (count_in s) next,
      count_eight s (8 * j) (omega arith),
      ap (λ (k : ℕ). standing (bit_of (get_or s (5 + k) 0)) 8) same,
      byte_ones (get_or s (5 + j) 0) h,
    )

pub count_none : (s : List ℕ) → count_in s 0 ≡ 0
unfolding standing sum_ℕ
count_none s = refl
