-- Numbers in four bytes, low first, both ways; signed numbers by their bits. Assumes nothing.
use mathlib.Core.Bool.{Bool, cond}
use mathlib.Core.List.{List, [], ◌++◌}
use mathlib.Core.Logic.{⊎_elim}
use mathlib.Core.Path.{◌≡◌, sym, ap, ◌∙◌}
use Prim.Native.Nat.{ℕ, suc, ◌+◌, ◌-◌, ◌^◌, ◌≤◌, ◌<◌}
use native.Mathlib.Nat.{add-zero}
use native.Mathlib.Omega.{arith}
use borrow.Author.Tests.{lt-ltb, le-ltb}
use lib.IntN.{ℤ, pos, negsuc, nat_abs}
use lib.ListN.{length, get_or, drop, drop_of_length-le}
use Rattle.laws.proofs.Digits.{below_four, four_sum}
use Rattle.laws.proofs.Place.{split}
use Rattle.format.specs.Pieces.{four, number_at, Bytes, word_of, of_word, FourBytes, Words}
use Rattle.laws.proofs.Part.{Part, part_self, part_get, part_made}

pub number_read : {s : List ℕ} {at : ℕ} (n : ℕ) → Part s at (four n) → n < 2 ^ 32 → number_at s at ≡ n
unfolding number_at
number_read {s} {at} n p h =
    rw (
      ap (λ (k : ℕ). get_or s k 0) (sym (add-zero at)) ∙ part_get p 0 0 (omega arith),
      part_get p 1 0 (omega arith),
      part_get p 2 0 (omega arith),
      part_get p 3 0 (omega arith),
    ) (four_sum n h)

pub number_made : (s : List ℕ) (at : ℕ) → Bytes s → at + 4 ≤ length s → Part s at (four (number_at s at))
unfolding number_at
number_made s at bytes room =
    part_made s (four (number_at s at)) at 0 room
    (below_four (λ i. get_or s (at + i) 0 ≡ get_or (four (number_at s at)) i 0)
    (ap (λ (k : ℕ). get_or s k 0) (add-zero at) ∙ omega (arith, bytes at, bytes (at + 1), bytes (at + 2), bytes (at + 3)))
    (omega (arith, bytes at, bytes (at + 1), bytes (at + 2), bytes (at + 3)))
    (omega (arith, bytes at, bytes (at + 1), bytes (at + 2), bytes (at + 3)))
    (omega (arith, bytes at, bytes (at + 1), bytes (at + 2), bytes (at + 3))))

pub number_small : (s : List ℕ) (at : ℕ) → Bytes s → number_at s at < 2 ^ 32
unfolding number_at
number_small s at bytes = omega (arith, bytes at, bytes (at + 1), bytes (at + 2), bytes (at + 3))

-- ---- signed numbers

pub word_small : (l : ℤ) → nat_abs l < 2 ^ 31 → word_of l < 2 ^ 32
word_small (pos n) h = omega arith
word_small (negsuc n) h = omega arith

pub word_read : (l : ℤ) → nat_abs l < 2 ^ 31 → of_word (word_of l) ≡ l
word_read (pos n) h = rw (lt-ltb n (2 ^ 31) h)
word_read (negsuc n) h =
    let e : 2 ^ 32 - suc (2 ^ 32 - suc n) ≡ n = omega arith in
    rw (le-ltb (2 ^ 32 - suc n) (2 ^ 31) (omega arith)) (ap negsuc e)

pub word_back : (n : ℕ) → n < 2 ^ 32 → word_of (of_word n) ≡ n
word_back n h =
    ⊎_elim (λ a. ap (λ (b : Bool). word_of (cond b (pos n) (negsuc (2 ^ 32 - suc n)))) (lt-ltb n (2 ^ 31) a))
    (λ a.
    let e : 2 ^ 32 - suc (2 ^ 32 - suc n) ≡ n = omega arith in
    ap (λ (b : Bool). word_of (cond b (pos n) (negsuc (2 ^ 32 - suc n)))) (le-ltb n (2 ^ 31) a) ∙ e)
    (split n (2 ^ 31))

-- ---- both ways

pub four_bytes : FourBytes
four_bytes =
    record {
      read = λ n h. number_read n (part_self (four n)) h;
      made = λ s bytes e.
          let none : drop (0 + 4) s ≡ [] = drop_of_length-le s {i = 4} (omega arith) in
          sym ((number_made s 0 bytes (omega arith)).is ∙ ap (λ (l : List ℕ). four (number_at s 0) ++ l) none);
    }

pub words : Words
words = record { read = word_read; made = word_back }
