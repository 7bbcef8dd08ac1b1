-- What the loop over the records knows. Assumes nothing.
use mathlib.Core.List.{List, [], ◌∷◌, ◌++◌}
use mathlib.Core.Path.{◌≡◌, refl, sym, ap, ◌∙◌}
use Prim.Native.Nat.{ℕ, ◌+◌, ◌-◌, ◌*◌, ◌^◌, ◌≤◌, ◌<◌}
use native.Mathlib.Omega.{arith}
use borrow.Author.Tests.{le-leb, lt-leb}
use lib.ListN.{length, take, drop, length-append}
use lib.Seq.{get_or-drop}
use Rattle.laws.proofs.Sum.{sum_of_more}
use Rattle.laws.specs.Sum.{sum_of}
use Rattle.answer.specs.Answer.{answers, refuses, number_of}
use Rattle.answer.specs.declared.Refusal.{Refusal}
use Rattle.format.specs.Pieces.{Bytes, number_at}
use Rattle.format.specs.Format.{Block, block_in, record_answer}
use Rattle.look.specs.Look.{listed_count, listed_sum}
use Rattle.laws.proofs.Part.{rest_is}
use Rattle.look.proofs.Looks.{told_record}
use Rattle.look.proofs.Passed.{Passed, passed_none, passed_damage, passed_more, passed_all, taken}
use Rattle.format.proofs.Number.{number_small}
use Rattle.format.proofs.Record.{length_in_lem, block_in_lem}
use Rattle.totals.specs.Totals.{nonzero_in, level_count, magnitude_in, magnitude_sum, totals, refused, report_of}
use Rattle.totals.proofs.Fits.{nonzero_is, magnitude_is, block_fits}

-- ---- the loop's invariant

pub record Added (s : List ℕ) (at low count levels magnitude : ℕ) : Type 0 where
  pub done : List Block
  pub passed : Passed s at low done
  pub many : length done ≡ count
  pub levels_are : level_count done ≡ levels
  pub magnitude_is : magnitude_sum done ≡ magnitude
  -- each level has its bytes, and its limit
  pub levels_fit : 4 * levels ≤ at
  pub magnitude_fits : magnitude ≤ 2 ^ 30 * levels

pub added_none : (s : List ℕ) → Added s 0 0 0 0 0
unfolding sum_of
added_none s =
    record { done = []; passed = passed_none s; many = refl; levels_are = refl; magnitude_is = refl; levels_fit = omega arith; magnitude_fits = omega arith }

-- a record more, as it is read
module _ {s : List ℕ} {at low count levels magnitude : ℕ} (a : Added s at low count levels magnitude) (h : at < length s) where
  pub says_damage : (short : length s < 2 ^ 36) (why : Refusal) → refuses (number_of why) ≡ record_answer low (take (length s - at) (drop at s))
      → refused (number_of why) ≡ report_of s
  unfolding report_of
  says_damage short why e = rw (lt-leb (2 ^ 36) (length s) short, passed_damage a.passed h (told_record s low at e))

  module _ (bytes : Bytes s) {m : ℕ} (e : answers m ≡ record_answer low (take (length s - at) (drop at s))) where
    pub added_more : {n k g : ℕ} → n ≡ number_at (take (length s - at) (drop at s)) 0 → k ≡ listed_count (take (length s - at) (drop at s))
        → g ≡ listed_sum (take (length s - at) (drop at s)) → Added s (at + m) (n + 1) (count + 1) (levels + k) (magnitude + g)
    added_more e-n e-k e-g =
        let t = drop at s in
        let b : Bytes t = λ i. rw (get_or-drop at s i 0) (bytes (at + i)) in
        let ok = taken a.passed h (told_record s low at e) in
        let n = nonzero_is t b ok.0 in
        let g = magnitude_is t b ok.0 in
        let fits = block_fits (block_in t) (block_in_lem t b ok.0) in
        rw (e-n, e-k, e-g, rest_is s at)
        (record {
          done = a.done ++ (block_in t ∷ []);
          passed = passed_more a.passed h (told_record s low at e) (number_small t 0 b);
          many = length-append a.done (block_in t ∷ []) ∙ ap (λ (k : ℕ). k + 1) a.many;
          levels_are = omega (arith, sum_of_more nonzero_in a.done (block_in t), n, a.levels_are);
          magnitude_is = omega (arith, sum_of_more magnitude_in a.done (block_in t), g, a.magnitude_is);
          levels_fit = omega (arith, fits.0, n, a.levels_fit, ok.1, length_in_lem t b ok.0);
          magnitude_fits = omega (arith, fits.1, n, g, a.magnitude_fits);
        })

    -- the totals with it fit 64 bits
    pub added_small : length s < 2 ^ 36 → {k g : ℕ} → k ≡ listed_count (take (length s - at) (drop at s))
        → g ≡ listed_sum (take (length s - at) (drop at s)) → (count < 2 ^ 36) × (levels + k < 2 ^ 36) × (magnitude + g < 2 ^ 64)
    added_small short e-k e-g =
        let n = added_more refl e-k e-g in
        let i = n.passed.inside in
        let f = n.levels_fit in
        (omega (arith, a.many, a.passed.below, a.passed.small), omega arith, omega (arith, n.magnitude_fits))

-- ---- what the loop comes to

pub says_totals : {s : List ℕ} {at low count levels magnitude : ℕ} (a : Added s at low count levels magnitude) → length s < 2 ^ 36 → length s ≤ at
    → totals count levels magnitude ≡ report_of s
unfolding report_of
says_totals {s} a short e =
    rw (lt-leb (2 ^ 36) (length s) short, passed_all a.passed (omega (arith, a.passed.inside)))
    (λ i. totals (sym a.many i) (sym a.levels_are i) (sym a.magnitude_is i))

pub says_long : (s : List ℕ) → 2 ^ 36 ≤ length s → refused 16 ≡ report_of s
unfolding report_of
says_long s h = rw (le-leb (2 ^ 36) (length s) h)
