-- The totals of a block, by the levels that its record lists; and that they fit. Assumes nothing.
use mathlib.Core.Bool.{Bool, true, false, cond}
use mathlib.Core.List.{List, [], ◌∷◌}
use mathlib.Core.Logic.{⊎_elim}
use mathlib.Core.Path.{◌≡◌, refl, ap, ◌∙◌}
use Prim.Native.Nat.{ℕ, zero, suc, ◌+◌, ◌-◌, ◌*◌, ◌^◌, ◌≤◌, ◌<◌}
use native.Mathlib.Omega.{arith}
use borrow.Author.Tests.{leb-true, leb-false}
use lib.IntN.{ℤ, nat_abs}
use lib.ListN.{length, length-append}
use Rattle.laws.proofs.Bool.{both, decided}
use Rattle.laws.proofs.Sum.{sum_ℕ_same, sum_ℕ_most}
use Rattle.laws.specs.Sum.{sum_of}
use Rattle.answer.specs.Answer.{Answer, answers, refuses}
use Rattle.format.specs.Pieces.{Bytes, number_at, standing, stands, is_near}
use Rattle.format.specs.Format.{Block, level_of, record_of, bytes_of, is_block, are_blocks, places_in, bit_in, listed_in, level_in, length_in, count_in, block_in, record_answer, Found, blocks, damage, before, unless_refused, found_from, parse}
use Rattle.look.specs.Look.{list_found, listed_count, listed_sum}
use Rattle.format.proofs.Listed.{listed_length, standing_same, sum_ranked}
use Rattle.format.proofs.Record.{Accepted, whole, level_zero, record_length, level_in_lem, bits_in}
use Rattle.totals.specs.Totals.{nonzero_in, level_count, magnitude_in, magnitude_sum, totals, refused, totals_of, is_long, report_of, SumFits}

-- ---- a block by its record

module _ (s : List ℕ) (bytes : Bytes s) {low : ℕ} (ok : Accepted low s) where
  pub nonzero_is : nonzero_in (block_in s) ≡ listed_count s
  unfolding nonzero_in block_in
  nonzero_is = standing_same (λ p. stands (level_of (block_in s) p)) (bit_in s) (places_in s) (bits_in s bytes ok)

  -- a level that isn't listed is 0
  level_size : (p : ℕ) → p < places_in s → nat_abs (level_of (block_in s) p) ≡ cond (bit_in s p) (nat_abs (listed_in s (count_in s p))) 0
  unfolding level_in
  level_size p h = ap nat_abs (level_in_lem s bytes ok p h) ∙ ⊎_elim (λ e. rw e) (λ e. rw e) (decided (bit_in s p))

  pub magnitude_is : magnitude_in (block_in s) ≡ listed_sum s
  unfolding magnitude_in listed_sum block_in
  magnitude_is =
      sum_ℕ_same (places_in s) (λ p. nat_abs (level_of (block_in s) p)) (λ p. cond (bit_in s p) (nat_abs (listed_in s (count_in s p))) 0) level_size
      ∙ sum_ranked (bit_in s) (λ i. nat_abs (listed_in s i)) (places_in s)

-- ---- a block's totals fit

near_most : (l : ℤ) → is_near l ≡ true → nat_abs l ≤ 2 ^ 30 * cond (stands l) 1 0
near_most l e = ⊎_elim (λ t. rw t (omega (arith, leb-true (nat_abs l) (2 ^ 30) e))) (λ t. rw t (omega (arith, ap nat_abs (level_zero l t)))) (decided (stands l))

pub block_fits : (b : Block) → is_block b ≡ true → (4 * nonzero_in b ≤ length (record_of b)) × (magnitude_in b ≤ 2 ^ 30 * nonzero_in b)
unfolding nonzero_in magnitude_in standing
block_fits b e = (
  omega (arith, record_length b, listed_length (b.w * b.h) (level_of b)),
  sum_ℕ_most (b.w * b.h) (2 ^ 30) (λ p. nat_abs (level_of b p)) (λ p. cond (stands (level_of b p)) 1 0) (λ p h. near_most (level_of b p) ((whole b e).near p h)),
)

-- and so do a list's
fits_from : (low : ℕ) (bs : List Block) → are_blocks low bs ≡ true → (4 * level_count bs ≤ length (bytes_of bs)) × (magnitude_sum bs ≤ 2 ^ 30 * level_count bs)
unfolding sum_of bytes_of are_blocks
fits_from low [] e = (omega arith, omega arith)
fits_from low (b ∷ bs) e =
    let here = both _ _ e in
    let fits = block_fits b (both _ _ here.0).0 in
    let rest = fits_from (b.number + 1) bs here.1 in
    (omega (arith, fits.0, rest.0, length-append (record_of b) (bytes_of bs)), omega (arith, fits.1, rest.1))

pub sum_fits : SumFits
sum_fits = fits_from 0

-- ---- a file has no more blocks than bytes

found_most : (low skip : ℕ) (s : List ℕ) → length (list_found (found_from low skip s)) ≤ length s
unfolding found_from
found_most low skip [] = omega arith
found_most low (suc skip) (x ∷ s) = omega (arith, found_most low skip s)
found_most low zero (x ∷ s) =
    let t = x ∷ s in
    one_more (record_answer low t) (block_in t) (found_from (number_at t 0 + 1) (length_in t - 1) s) (found_most (number_at t 0 + 1) (length_in t - 1) s)
  where
    one_more : (a : Answer) (b : Block) (f : Found) → length (list_found f) ≤ length s → length (list_found (unless_refused a (before b f))) ≤ suc (length s)
    one_more (answers n) b (blocks bs) h = omega (arith, h)
    one_more (answers n) b (damage k) h = omega arith
    one_more (refuses k) b f h = omega arith

pub no_refusal : {X : Type 0} {b l m k : ℕ} → totals b l m ≡ refused k → X
no_refusal e = absurd (let z : ◌≡◌ {A = ℕ} 0 1 = cc in omega arith)

pub blocks_small : (s : List ℕ) (b l m : ℕ) → totals b l m ≡ report_of s → b < 2 ^ 63
unfolding report_of parse
blocks_small s b l m e = by (is_long s) refl (found_from 0 0 s) (found_most 0 0 s) e
  where
    by : (t : Bool) → is_long s ≡ t → (f : Found) → length (list_found f) ≤ length s → totals b l m ≡ cond t (refused 16) (totals_of f) → b < 2 ^ 63
    by true u f h e = no_refusal e
    by false u (blocks bs) h e = let same : b ≡ length bs = cc in omega (arith, leb-false (2 ^ 36) (length s) u)
    by false u (damage k) h e = no_refusal e
