-- The pieces of a record ("Block records on disk"), each both ways: numbers in four bytes, the side byte, the bit map, the levels.
use Rattle.std.specs.Prelude.{Bool, true, cond, not, List, [], ◌∷◌, ◌++◌, ◌≡◌, ℕ, zero, suc, ◌+◌, ◌-◌, ◌*◌, ◌/◌, ◌%◌, ◌^◌, ◌<◌, eqb, leb, ltb, ℤ, pos, negsuc, nat_abs, length, get_or}
use Rattle.laws.specs.Store.{tab}
use Rattle.laws.specs.Sum.{sum_ℕ}
use Rattle.laws.specs.Table.{every}
use Rattle.sizes.specs.Size.{is_side, log_of}

-- ---- numbers in four bytes

-- "four bytes, low first"
abbrev pub four : ℕ → List ℕ
four n = n % 256 ∷ n / 256 % 256 ∷ n / 65536 % 256 ∷ n / 16777216 % 256 ∷ []

-- the number of the four bytes at a place. Past the end a byte counts as 0, so that a record that is cut short has a length too
unfoldable pub number_at : List ℕ → ℕ → ℕ
number_at s at = get_or s at 0 + 256 * get_or s (at + 1) 0 + 65536 * get_or s (at + 2) 0 + 16777216 * get_or s (at + 3) 0

-- bytes
abbrev pub Bytes : List ℕ → Type 0
Bytes s = (i : ℕ) → get_or s i 0 < 256

pub record FourBytes : Type 0 where
  pub read : (n : ℕ) → n < 2 ^ 32 → number_at (four n) 0 ≡ n
  pub made : (s : List ℕ) → Bytes s → length s ≡ 4 → four (number_at s 0) ≡ s

-- ---- "signed 32-bit numbers"

-- a level as the unsigned number that has its bits
abbrev pub word_of : ℤ → ℕ
word_of (pos n) = n
word_of (negsuc n) = 2 ^ 32 - suc n

abbrev pub of_word : ℕ → ℤ
of_word n = cond (ltb n (2 ^ 31)) (pos n) (negsuc (2 ^ 32 - suc n))

pub record Words : Type 0 where
  pub read : (l : ℤ) → nat_abs l < 2 ^ 31 → of_word (word_of l) ≡ l
  pub made : (n : ℕ) → n < 2 ^ 32 → word_of (of_word n) ≡ n

-- ---- the side byte

-- "log2 w - 2 in two low bits, log2 h - 2 in the next two, upper four zero"
unfoldable pub side_byte : ℕ → ℕ → ℕ
side_byte w h = log_of w - 2 + 4 * (log_of h - 2)

-- w and h by the lower four bits of a byte
abbrev pub width_of : ℕ → ℕ
width_of x = 4 * 2 ^ (x % 4)

abbrev pub height_of : ℕ → ℕ
height_of x = 4 * 2 ^ (x / 4 % 4)

pub record SideBytes : Type 0 where
  pub read : (w h : ℕ) → is_side w ≡ true → is_side h ≡ true → (width_of (side_byte w h) ≡ w) × (height_of (side_byte w h) ≡ h)
  pub made : (x : ℕ) → x < 16 → side_byte (width_of x) (height_of x) ≡ x

-- ---- the bit map

-- bit i of a byte, and the byte of eight bits, "low bit first"
abbrev pub bit_of : ℕ → ℕ → Bool
bit_of x i = eqb (x / 2 ^ i % 2) 1

unfoldable pub packed : (ℕ → Bool) → ℕ
packed bit = sum_ℕ 8 (λ i. cond (bit i) (2 ^ i) 0)

-- how many of the first n bits stand
unfoldable pub standing : (ℕ → Bool) → ℕ → ℕ
standing bit n = sum_ℕ n (λ p. cond (bit p) 1 0)

-- a level whose bit stands: "Levels are nonzero"
abbrev pub stands : ℤ → Bool
stands l = not (eqb (nat_abs l) 0)

-- "a bit map of w×h bits, low bit first", of n places with the level at each
unfoldable pub map_of : ℕ → (ℕ → ℤ) → List ℕ
map_of n level = tab (n / 8) (λ j. packed (λ i. stands (level (j * 8 + i))))

pub record MapBytes : Type 0 where
  pub read : (bit : ℕ → Bool) (i : ℕ) → i < 8 → bit_of (packed bit) i ≡ bit i
  pub made : (x : ℕ) → x < 256 → packed (bit_of x) ≡ x

-- ---- the levels

-- a level "within 2^30 of zero"
abbrev pub is_near : ℤ → Bool
is_near l = leb (nat_abs l) (2 ^ 30)

-- each of the first n levels of a list
unfoldable pub are_near : ℕ → List ℤ → Bool
are_near n l = every n (λ k. is_near (get_or l k (pos 0)))

-- "only the levels whose bit stands, as signed 32-bit numbers, low byte first": the bytes for a level, and for those of n places
abbrev pub bytes_for : ℤ → List ℕ
bytes_for l = cond (stands l) (four (word_of l)) []

unfoldable pub listed : ℕ → (ℕ → ℤ) → List ℕ
listed zero level = []
listed (suc n) level = listed n level ++ bytes_for (level n)

-- a level is read where those before it end
abbrev pub ListedLevels : Type 0
ListedLevels =
    (n : ℕ) (level : ℕ → ℤ) (p : ℕ) → p < n → stands (level p) ≡ true → is_near (level p) ≡ true
    → of_word (number_at (listed n level) (length (listed p level))) ≡ level p
