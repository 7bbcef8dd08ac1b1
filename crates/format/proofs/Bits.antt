-- The bit map, low bit first, both ways. Assumes nothing.
use mathlib.Core.Bool.{Bool, false, cond}
use mathlib.Core.List.{List}
use mathlib.Core.Path.{◌≡◌, sym, ap, ap₂, ◌∙◌}
use Prim.Native.Nat.{ℕ, ◌+◌, ◌*◌, ◌/◌, ◌%◌, ◌^◌, ◌≤◌, ◌<◌}
use native.Mathlib.Nat.{div-add-mod', mod-lt, zero-div}
use native.Mathlib.Omega.{arith}
use lib.Arith.{digits_div, digits_mod}
use lib.Dec.{eqb, lit<}
use lib.IntN.{ℤ}
use lib.ListN.{length, get_or}
use Rattle.laws.proofs.Bool.{bit_most, bit_is, is_bit, times_bit}
use Rattle.laws.proofs.Digits.{below_eight, digit, digits}
use Rattle.laws.proofs.Laid.{length_tab, get_or_tab}
use Rattle.laws.specs.Sum.{sum_ℕ}
use Rattle.format.specs.Pieces.{Bytes, bit_of, packed, stands, map_of, MapBytes}
use Rattle.format.specs.Format.{bit_in}
use Rattle.laws.proofs.Part.{Part, part_get, part_made}

-- a bit as a number
abbrev pub one? : Bool → ℕ
one? b = cond b 1 0

-- ---- a byte of eight bits

pub eight : (f : ℕ → Bool)
    → packed f ≡ one? (f 0) + 2 * one? (f 1) + 4 * one? (f 2) + 8 * one? (f 3) + 16 * one? (f 4) + 32 * one? (f 5) + 64 * one? (f 6) + 128 * one? (f 7)
unfolding packed sum_ℕ
eight f =
    omega (
      arith,
      times_bit (f 0) 1,
      times_bit (f 1) 2,
      times_bit (f 2) 4,
      times_bit (f 3) 8,
      times_bit (f 4) 16,
      times_bit (f 5) 32,
      times_bit (f 6) 64,
      times_bit (f 7) 128,
    )

packed_bit : (f : ℕ → Bool) (i : ℕ) → i < 8 → eqb (packed f / 2 ^ i % 2) 1 ≡ f i
packed_bit f =
    let o : ((i : ℕ) → one? (f i) ≤ 1) = λ i. bit_most (f i) in
    let d = digit (one? (f 0)) (one? (f 1)) (one? (f 2)) (one? (f 3)) (one? (f 4)) (one? (f 5)) (one? (f 6)) (one? (f 7)) (o 0) (o 1) (o 2) (o 3) (o 4) (o 5) (o 6) (o 7) in
    below_eight (λ i. eqb (packed f / 2 ^ i % 2) 1 ≡ f i)
    (is_bit (f 0) (packed f / 1 % 2) (ap (λ (n : ℕ). n / 1 % 2) (eight f) ∙ d.0))
    (is_bit (f 1) (packed f / 2 % 2) (ap (λ (n : ℕ). n / 2 % 2) (eight f) ∙ d.1))
    (is_bit (f 2) (packed f / 4 % 2) (ap (λ (n : ℕ). n / 4 % 2) (eight f) ∙ d.2))
    (is_bit (f 3) (packed f / 8 % 2) (ap (λ (n : ℕ). n / 8 % 2) (eight f) ∙ d.3))
    (is_bit (f 4) (packed f / 16 % 2) (ap (λ (n : ℕ). n / 16 % 2) (eight f) ∙ d.4))
    (is_bit (f 5) (packed f / 32 % 2) (ap (λ (n : ℕ). n / 32 % 2) (eight f) ∙ d.5))
    (is_bit (f 6) (packed f / 64 % 2) (ap (λ (n : ℕ). n / 64 % 2) (eight f) ∙ d.6))
    (is_bit (f 7) (packed f / 128 % 2) (ap (λ (n : ℕ). n / 128 % 2) (eight f) ∙ d.7))

packed_back : (x : ℕ) → x < 256 → packed (bit_of x) ≡ x
packed_back x h =
    let o : ((n : ℕ) → one? (eqb (n % 2) 1) ≡ n % 2) = λ n. bit_is (n % 2) (mod-lt n (lit< tt)) in
    eight (bit_of x)
    ∙ omega (arith, digits x h, o (x / 1), o (x / 2), o (x / 4), o (x / 8), o (x / 16), o (x / 32), o (x / 64), o (x / 128))

packed_ext : (f g : ℕ → Bool) → ((i : ℕ) → i < 8 → f i ≡ g i) → packed f ≡ packed g
packed_ext f g e =
    let o : ((i : ℕ) → i < 8 → one? (f i) ≡ one? (g i)) = λ i b. ap one? (e i b) in
    omega (arith, eight f, eight g, o 0 (lit< tt), o 1 (lit< tt), o 2 (lit< tt), o 3 (lit< tt), o 4 (lit< tt), o 5 (lit< tt), o 6 (lit< tt), o 7 (lit< tt))

-- ---- the map

pub map_length : (n : ℕ) (level : ℕ → ℤ) → length (map_of n level) ≡ n / 8
unfolding map_of
map_length n level = length_tab (n / 8) (λ j. packed (λ i. stands (level (j * 8 + i))))

map_at : (n : ℕ) (level : ℕ → ℤ) (j : ℕ) → j < n / 8 → get_or (map_of n level) j 0 ≡ packed (λ i. stands (level (j * 8 + i)))
unfolding map_of
map_at n level j h = get_or_tab (n / 8) (λ j. packed (λ i. stands (level (j * 8 + i)))) j 0 h

pub bits_read : {s : List ℕ} (n : ℕ) (level : ℕ → ℤ) → n % 8 ≡ 0 → Part s 5 (map_of n level) → (p : ℕ) → p < n → bit_in s p ≡ stands (level p)
unfolding bit_in
bits_read {s} n level e m p h =
    let j : p / 8 < n / 8 = omega arith in
    ap (λ (x : ℕ). bit_of x (p % 8)) (part_get m (p / 8) 0 (omega (arith, map_length n level)) ∙ map_at n level (p / 8) j)
    ∙ packed_bit (λ i. stands (level (p / 8 * 8 + i))) (p % 8) (mod-lt p (lit< tt))
    ∙ ap (λ (q : ℕ). stands (level q)) (div-add-mod' p 8)

pub bits_made : (s : List ℕ) (n : ℕ) (level : ℕ → ℤ) → Bytes s → n % 8 ≡ 0 → 5 + n / 8 ≤ length s → ((p : ℕ) → p < n → stands (level p) ≡ bit_in s p)
    → Part s 5 (map_of n level)
unfolding bit_in
bits_made s n level bytes e room same =
    part_made s (map_of n level) 5 0 (omega (arith, map_length n level))
    (λ j b.
    let long : j < n / 8 = omega (arith, map_length n level) in
    sym (packed_back (get_or s (5 + j) 0) (bytes (5 + j)))
    ∙ packed_ext (bit_of (get_or s (5 + j) 0)) (λ i. stands (level (j * 8 + i)))
    (λ i c. sym (same (j * 8 + i) (omega arith) ∙ ap₂ (λ (q r : ℕ). bit_of (get_or s (5 + q) 0) r) (digits_div j c) (digits_mod j c)))
    ∙ sym (map_at n level j long))

-- a byte that is 0 has no bits
pub packed_none : (f : ℕ → Bool) → packed f ≡ 0 → (i : ℕ) → i < 8 → f i ≡ false
packed_none f e i h = sym (packed_bit f i h) ∙ rw (e, zero-div (2 ^ i))

-- a byte's bits, both ways
pub map_bytes : MapBytes
map_bytes = record { read = packed_bit; made = packed_back }
