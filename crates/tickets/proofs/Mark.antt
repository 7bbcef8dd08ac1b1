-- Laws of marks: a mask and its lines settle each other, and what the code's operations on masks say of lines. Assumes nothing.
use mathlib.Core.Path.{◌≡◌, refl, sym, ap, ap₂, ◌∙◌}
use mathlib.Core.Logic.{⊎_elim}
use mathlib.Core.Bool.{Bool, true, false, cond, not, ◌||◌, or-true}
use Prim.Native.Nat.{ℕ, zero, suc, ◌+◌, ◌-◌, ◌*◌, ◌/◌, ◌%◌, ◌^◌, ◌<◌, ◌≤◌}
use native.Mathlib.Nat.{pow-suc, mul-one, div-one, lt_of_lt_of_le}
use native.Mathlib.Omega.{arith}
use borrow.Author.Tests.{eq-eqb, eqb-true, le-leb, lt-ltb, leb-true, ltb-true, not-true}
use lib.Dec.{leb, ltb, eqb, leb-suc-suc, leb-suc-zero, leb-zero}
use lib.Pow.{pow_pos, pow_mono, ones_lt, shl_exact, shl_lt, shr-shr, shr_lt}
use lib.Bits.{bit_or, or_shr, or_mod, or_lt, shifted_even, shifted_half}
use Rattle.laws.specs.Table.{every}
use Rattle.laws.proofs.Bits.{low_bit, above_bit, bit_and_rest, or_bits, ones_odd, ones_half}
use Rattle.laws.proofs.Bool.{both, decided, or_already, same_test}
use Rattle.laws.proofs.Every.{every_all, every_each, every_same}
use Rattle.laws.proofs.Machine.{one_shl}
use Rattle.tickets.specs.Mark.{marked, mask_of, any_from, all_marked, is_among, with_lines}

-- ---- a mask and its lines

pub marked_mask : (n : ℕ) (p : ℕ → Bool) (j : ℕ) → j < n → marked (mask_of n p) j ≡ p j
unfolding marked mask_of
marked_mask zero p j b = absurd (omega arith)
marked_mask (suc n) p zero b = low_bit (p 0) (mask_of n (λ j. p (suc j)))
marked_mask (suc n) p (suc j) b =
    ap (λ (m : ℕ). marked m j) (above_bit (p 0) (mask_of n (λ j. p (suc j)))) ∙ marked_mask n (λ j. p (suc j)) j (omega arith)

pub mask_same : (n : ℕ) (p q : ℕ → Bool) → ((j : ℕ) → j < n → p j ≡ q j) → mask_of n p ≡ mask_of n q
unfolding mask_of
mask_same zero p q f = refl
mask_same (suc n) p q f =
    ap₂ (λ (x : Bool) (m : ℕ). cond x 1 0 + 2 * m) (f 0 (omega arith)) (mask_same n (λ j. p (suc j)) (λ j. q (suc j)) (λ j b. f (suc j) (omega arith)))

-- a mask is that of the lines that it marks
pub mask_marked : (n m : ℕ) → m < 2 ^ n → mask_of n (marked m) ≡ m
unfolding mask_of marked
mask_marked zero m b = omega arith
mask_marked (suc n) m b =
    ap (λ (k : ℕ). cond (eqb (m % 2) 1) 1 0 + 2 * k) (mask_marked n (m / 2) (omega (arith, pow-suc 2 n))) ∙ bit_and_rest m

marked_none : (j : ℕ) → marked 0 j ≡ false
unfolding marked
marked_none zero = refl
marked_none (suc j) = marked_none j

-- no line is marked where the mask is 0
pub none_zero : (p : ℕ → Bool) → ((j : ℕ) → j < 32 → p j ≡ false) → mask_of 32 p ≡ 0
none_zero p f = mask_same 32 p (marked 0) (λ j b. f j b ∙ sym (marked_none j)) ∙ mask_marked 32 0 (pow_pos 32)

-- ---- what `any_from` looks at

marked_shr : (m n j : ℕ) → marked (m / 2 ^ n) j ≡ marked m (n + j)
unfolding marked
marked_shr m zero j = let e : 0 + j ≡ j = omega arith in rw (div-one m, e)
marked_shr m (suc n) j =
    let e : 1 + n ≡ suc n = omega arith in
    let g : suc n + j ≡ suc (n + j) = omega arith in
    let d : m / 2 ^ suc n ≡ m / 2 / 2 ^ n = sym (rw e at (shr-shr m 1 n)) in
    rw (d, g) (marked_shr (m / 2) n j)

-- a mask of k lines is 0 exactly where none is marked
none_test : (k m : ℕ) → m < 2 ^ k → every k (λ j. not (marked m j)) ≡ eqb m 0
none_test k m b =
    same_test (every k (λ j. not (marked m j))) (eqb m 0)
    (λ e. eq-eqb m 0
    (sym (mask_marked k m b)
    ∙ mask_same k (marked m) (marked 0) (λ j l. not-true (marked m j) (every_each k (λ j. not (marked m j)) e j l) ∙ sym (marked_none j))
    ∙ mask_marked k 0 (pow_pos k)))
    (λ e. every_all k (λ j. not (marked m j)) (λ j l. ap (λ (x : ℕ). not (marked x j)) (eqb-true m 0 e) ∙ ap not (marked_none j)))

pub any_from_is : (m n : ℕ) → n ≤ 32 → m < 2 ^ 32 → not (eqb (m / 2 ^ n) 0) ≡ any_from n m
unfolding any_from
any_from_is m n few small =
    let e : 32 - n + n ≡ 32 = omega arith in
    ap not
    (sym (none_test (32 - n) (m / 2 ^ n) (shr_lt (32 - n) n (rw e small)))
    ∙ every_same (32 - n) _ _ (λ j b. ap not (marked_shr m n j)))

-- ---- what `with_lines` makes

marked_or : (a b j : ℕ) → marked (bit_or a b) j ≡ (marked a j || marked b j)
unfolding marked
marked_or a b zero =
    let p : a % 2 < 2 = omega arith in
    let q : b % 2 < 2 = omega arith in
    ap (λ (x : ℕ). eqb x 1) (or_mod a b 1) ∙ or_bits (a % 2) (b % 2) p q
marked_or a b (suc j) = ap (λ (x : ℕ). marked x j) (or_shr a b 1) ∙ marked_or (a / 2) (b / 2) j

-- 2 ^ n - 1 marks the first n lines
marked_ones : (n j : ℕ) → marked (2 ^ n - 1) j ≡ ltb j n
unfolding marked
marked_ones zero j = marked_none j ∙ sym (leb-suc-zero j)
marked_ones (suc n) zero = rw (ones_odd n, lt-ltb 0 (suc n) (omega arith))
marked_ones (suc n) (suc j) = ap (λ (x : ℕ). marked x j) (ones_half n) ∙ marked_ones n j ∙ sym (leb-suc-suc (suc j) n)

marked_run : (s n j : ℕ) → marked ((2 ^ n - 1) * 2 ^ s) j ≡ is_among s n j
unfolding marked is_among
marked_run zero n j =
    let e : 0 + n ≡ n = omega arith in
    ap (λ (x : ℕ). marked x j) (mul-one (2 ^ n - 1)) ∙ marked_ones n j ∙ rw (leb-zero j, e)
marked_run (suc s) n zero = rw (shifted_even (2 ^ n - 1) s, leb-suc-zero s)
marked_run (suc s) n (suc j) =
    let e : suc s + n ≡ suc (s + n) = omega arith in
    ap (λ (x : ℕ). marked x j) (shifted_half (2 ^ n - 1) s) ∙ marked_run s n j ∙ rw (e, leb-suc-suc s j, leb-suc-suc (suc j) (s + n))

-- ---- the code's shifts lose nothing

module _ (m s n : ℕ) (room : s + n ≤ 32) (small : m < 2 ^ 32) where
  run_is : ((1 * 2 ^ n) % 18446744073709551616 - 1) * 2 ^ s % 18446744073709551616 ≡ (2 ^ n - 1) * 2 ^ s
  run_is = rw (one_shl 64 n (omega arith)) (shl_exact n s 64 (ones_lt n) (omega arith))

  run_lt : (2 ^ n - 1) * 2 ^ s < 2 ^ 32
  run_lt = let k : n + s ≤ 32 = omega arith in lt_of_lt_of_le (shl_lt n s (ones_lt n)) (pow_mono k)

  or_lt_32 : bit_or m ((2 ^ n - 1) * 2 ^ s) < 2 ^ 32
  or_lt_32 = or_lt 32 m ((2 ^ n - 1) * 2 ^ s) small run_lt

  pub with_fits : bit_or m (((1 * 2 ^ n) % 18446744073709551616 - 1) * 2 ^ s % 18446744073709551616) < 2 ^ 32
  with_fits = rw run_is or_lt_32

  pub with_is : bit_or m (((1 * 2 ^ n) % 18446744073709551616 - 1) * 2 ^ s % 18446744073709551616) ≡ with_lines m s n
  unfolding with_lines
  with_is =
      rw run_is
      (sym (mask_marked 32 (bit_or m ((2 ^ n - 1) * 2 ^ s)) or_lt_32)
      ∙ mask_same 32 _ _ (λ j b. marked_or m ((2 ^ n - 1) * 2 ^ s) j ∙ ap (λ (x : Bool). marked m j || x) (marked_run s n j)))

pub marked_with : (m s n j : ℕ) → j < 32 → marked (with_lines m s n) j ≡ (marked m j || is_among s n j)
unfolding with_lines
marked_with m s n j b = marked_mask 32 (λ j. marked m j || is_among s n j) j b

-- ---- what `all_marked` looks at: with the first n lines marked a mask is as it was

pub among_in : (s n j : ℕ) → s ≤ j → j < s + n → is_among s n j ≡ true
unfolding is_among
among_in s n j a b = rw (le-leb s j a, lt-ltb j (s + n) b)

pub among_lt : (s n j : ℕ) → is_among s n j ≡ true → (s ≤ j) × (j < s + n)
unfolding is_among
among_lt s n j e = let h = both (leb s j) (ltb j (s + n)) e in (leb-true s j h.0, ltb-true j (s + n) h.1)

pub among_out : (s n j : ℕ) → (s ≤ j → j < s + n → ⊥) → is_among s n j ≡ false
among_out s n j f = ⊎_elim (λ a. let h = among_lt s n j a in absurd (f h.0 h.1)) (λ a. a) (decided (is_among s n j))

module _ (m n : ℕ) (few : n ≤ 32) (small : m < 2 ^ 32) where
  fills : every n (marked m) ≡ true → with_lines m 0 n ≡ m
  unfolding with_lines
  fills e =
      mask_same 32 (λ j. marked m j || is_among 0 n j) (marked m)
      (λ j b. or_already (marked m j) (is_among 0 n j) (λ w. every_each n (marked m) e j (omega (arith, among_lt 0 n j w))))
      ∙ mask_marked 32 m small

  filled : with_lines m 0 n ≡ m → every n (marked m) ≡ true
  filled e =
      every_all n (marked m)
      (λ j b.
      ap (λ (x : ℕ). marked x j) (sym e)
      ∙ marked_with m 0 n j (omega arith)
      ∙ ap (λ (x : Bool). marked m j || x) (among_in 0 n j (omega arith) (omega arith))
      ∙ or-true (marked m j))

  pub all_marked_is : eqb (with_lines m 0 n) m ≡ all_marked n m
  unfolding all_marked
  all_marked_is =
      same_test (eqb (with_lines m 0 n) m) (every n (marked m))
      (λ e. filled (eqb-true (with_lines m 0 n) m e))
      (λ e. eq-eqb (with_lines m 0 n) m (fills e))
