-- What the loop over the levels of a record knows. Assumes nothing.
use Rattle.std.proofs.Common.{◌≡◌, ℕ, ◌+◌, ◌-◌, ◌/◌, ◌%◌, ◌^◌, ◌<◌, not, ◌&&◌, eqb, ltb, leb, List, nat_abs, refl, ap, ◌∙◌, ⊎_elim, arith, le-ltb, lt-ltb, eq-eqb, ne_eqb, le-leb}
use borrow.Author.Tests.{lt-leb}
use lib.Bits.{bit_or, or_comm}
use Rattle.laws.proofs.Bits.{or_ltb}
use Rattle.laws.proofs.Every.{every_turn}
use Rattle.laws.proofs.Halves.{Halves, halves_none, halves_more}
use Rattle.laws.proofs.Place.{split}
use Rattle.format.specs.Pieces.{stands, is_near}
use Rattle.format.specs.Format.{listed_in}
use Rattle.look.specs.Look.{are_right}

-- the test of a magnitude m, by the number before it, x, which for 0 is the largest
right_before : (m x : ℕ) → x < 2 ^ 32 → (x + 1) % 2 ^ 32 ≡ m → ltb x (2 ^ 30) ≡ (not (eqb m 0) && leb m (2 ^ 30))
right_before m x small e =
    ⊎_elim
    (λ l. rw (lt-ltb x (2 ^ 30) l, ne_eqb m 0 (λ z. omega arith), le-leb m (2 ^ 30) (omega arith)))
    (λ g.
    rw (le-ltb x (2 ^ 30) g)
    (⊎_elim
    (λ l. rw (ne_eqb m 0 (λ z. omega arith), lt-leb m (2 ^ 30) (omega arith)))
    (λ l. rw (eq-eqb m 0 (omega arith)))
    (split x (2 ^ 32 - 1))))
    (split x (2 ^ 30))

-- after i levels
pub record Summed (s : List ℕ) (lower upper reach i : ℕ) : Type 0 where
  pub sum : Halves (λ i. nat_abs (listed_in s i)) lower upper i
  pub right : ltb reach (2 ^ 30) ≡ are_right s i

pub summed_none : (s : List ℕ) → Summed s 0 0 0 0
summed_none s = record { sum = halves_none (λ i. nat_abs (listed_in s i)); right = refl }

-- and one more
pub summed_more : {s : List ℕ} {lower upper reach i : ℕ} → Summed s lower upper reach i → {m : ℕ} → m ≡ nat_abs (listed_in s i) → m < 2 ^ 32
    → Summed s (lower + m % 65536) (upper + m / 65536) (bit_or reach ((m + 4294967295) % 4294967296)) (i + 1)
summed_more {s} {lower} {upper} {reach} {i} h {m} level small =
    let x = (m + 4294967295) % 4294967296 in
    record {
      sum = halves_more h.sum level small;
      right = ap (λ (n : ℕ). ltb n (2 ^ 30)) (or_comm reach x)
          ∙ or_ltb 30 x reach
          ∙ every_turn (λ i. stands (listed_in s i) && is_near (listed_in s i)) i
          (right_before m x (omega arith) (omega arith) ∙ ap (λ (n : ℕ). not (eqb n 0) && leb n (2 ^ 30)) level) h.right;
    }
