-- A number by its digits, the lowest first: eight binary ones, and four bytes. Assumes nothing.
use mathlib.Core.Path.{◌≡◌, sym, ap, ◌∙◌}
use Prim.Native.Nat.{ℕ, zero, suc, ◌+◌, ◌*◌, ◌/◌, ◌%◌, ◌^◌, ◌≤◌, ◌<◌}
use native.Mathlib.Nat.{div-add-mod', div-one, div-div-eq-div-mul}
use native.Mathlib.Omega.{arith}

-- what holds at 0 to 3
pub below_four : (P : ℕ → Type 0) → P 0 → P 1 → P 2 → P 3 → (i : ℕ) → i < 4 → P i
below_four P a b c d zero h = a
below_four P a b c d (suc zero) h = b
below_four P a b c d (suc (suc zero)) h = c
below_four P a b c d (suc (suc (suc zero))) h = d
below_four P a b c d (suc (suc (suc (suc i)))) h = absurd (omega arith)

-- and at 0 to 7
pub below_eight : (P : ℕ → Type 0) → P 0 → P 1 → P 2 → P 3 → P 4 → P 5 → P 6 → P 7 → (i : ℕ) → i < 8 → P i
below_eight P a b c d e f g k zero h = a
below_eight P a b c d e f g k (suc zero) h = b
below_eight P a b c d e f g k (suc (suc zero)) h = c
below_eight P a b c d e f g k (suc (suc (suc zero))) h = d
below_eight P a b c d e f g k (suc (suc (suc (suc zero)))) h = e
below_eight P a b c d e f g k (suc (suc (suc (suc (suc zero))))) h = f
below_eight P a b c d e f g k (suc (suc (suc (suc (suc (suc zero)))))) h = g
below_eight P a b c d e f g k (suc (suc (suc (suc (suc (suc (suc zero))))))) h = k
below_eight P a b c d e f g k (suc (suc (suc (suc (suc (suc (suc (suc i)))))))) h = absurd (omega arith)

-- ---- eight binary digits

-- each of eight binary digits, read from the number that they make
pub digit : (a b c d e f g h : ℕ) → a ≤ 1 → b ≤ 1 → c ≤ 1 → d ≤ 1 → e ≤ 1 → f ≤ 1 → g ≤ 1 → h ≤ 1 →
    let n = a + 2 * b + 4 * c + 8 * d + 16 * e + 32 * f + 64 * g + 128 * h in
    (n / 1 % 2 ≡ a) × (n / 2 % 2 ≡ b) × (n / 4 % 2 ≡ c) × (n / 8 % 2 ≡ d) × (n / 16 % 2 ≡ e) × (n / 32 % 2 ≡ f) × (n / 64 % 2 ≡ g) × (n / 128 % 2 ≡ h)
digit a b c d e f g h la lb lc ld le lf lg lh = (omega arith, omega arith, omega arith, omega arith, omega arith, omega arith, omega arith, omega arith)

eight_chain : (x q₁ q₂ q₃ q₄ q₅ q₆ q₇ a b c d e f g h : ℕ) → x ≡ q₁ * 2 + a → q₁ ≡ q₂ * 2 + b → q₂ ≡ q₃ * 2 + c → q₃ ≡ q₄ * 2 + d → q₄ ≡ q₅ * 2 + e
    → q₅ ≡ q₆ * 2 + f → q₆ ≡ q₇ * 2 + g → q₇ ≡ h → a + 2 * b + 4 * c + 8 * d + 16 * e + 32 * f + 64 * g + 128 * h ≡ x
eight_chain x q₁ q₂ q₃ q₄ q₅ q₆ q₇ a b c d e f g h i j k l m n o p = omega arith

-- a byte is made of its eight binary digits
pub digits : (x : ℕ) → x < 256
    → x / 1 % 2 + 2 * (x / 2 % 2) + 4 * (x / 4 % 2) + 8 * (x / 8 % 2) + 16 * (x / 16 % 2) + 32 * (x / 32 % 2) + 64 * (x / 64 % 2) + 128 * (x / 128 % 2) ≡ x
digits x h =
    let halved : ((k : ℕ) → x / k ≡ x / (k * 2) * 2 + x / k % 2) =
    λ k. sym (div-add-mod' (x / k) 2) ∙ ap (λ (q : ℕ). q * 2 + x / k % 2) (div-div-eq-div-mul x k 2) in
    eight_chain x (x / 2) (x / 4) (x / 8) (x / 16) (x / 32) (x / 64) (x / 128) _ _ _ _ _ _ _ _
    (sym (div-one x) ∙ halved 1) (halved 2) (halved 4) (halved 8) (halved 16) (halved 32) (halved 64) (omega arith)

-- ---- four bytes

four_chain : (n q₁ q₂ q₃ a b c d : ℕ) → n ≡ q₁ * 256 + a → q₁ ≡ q₂ * 256 + b → q₂ ≡ q₃ * 256 + c → q₃ ≡ d → a + 256 * b + 65536 * c + 16777216 * d ≡ n
four_chain n q₁ q₂ q₃ a b c d e f g h = omega arith

-- a number of 32 bits is made of its four bytes
pub four_sum : (n : ℕ) → n < 2 ^ 32 → n % 256 + 256 * (n / 256 % 256) + 65536 * (n / 65536 % 256) + 16777216 * (n / 16777216 % 256) ≡ n
four_sum n h =
    let cut : ((k : ℕ) → n / k ≡ n / (k * 256) * 256 + n / k % 256) =
    λ k. sym (div-add-mod' (n / k) 256) ∙ ap (λ (q : ℕ). q * 256 + n / k % 256) (div-div-eq-div-mul n k 256) in
    four_chain n (n / 256) (n / 65536) (n / 16777216) _ _ _ _ (sym (div-add-mod' n 256)) (cut 256) (cut 65536) (omega arith)
