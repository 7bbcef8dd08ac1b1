-- What a call over a scan answers and writes, from what its parts tell. Assumes nothing.
use mathlib.Core.Path.{◌≡◌, sym, ap, ◌∙◌}
use mathlib.Core.Bool.{Bool, true, false, not, ◌||◌}
use mathlib.Core.List.{List}
use Prim.Native.Nat.{ℕ, ◌≤◌, ◌<◌}
use native.Mathlib.Omega.{arith}
use borrow.Author.Tests.{ltb-false, not-false}
use lib.Dec.{ltb}
use lib.IntN.{ℤ, pos}
use lib.Ieee.{Float}
use lib.ListN.{length, get_or}
use Rattle.answer.specs.Answer.{Answer, answers, refuses, lowest}
use Rattle.answer.proofs.Answer.{passed}
use Rattle.answer.proofs.More.{refused_more, passed_on}
use Rattle.laws.specs.Store.{laid}
use Rattle.laws.specs.Table.{every}
use Rattle.laws.proofs.Every.{every_each}
use Rattle.laws.proofs.Bool.{neither}
use Rattle.laws.proofs.Laid.{laid_ext, length_laid}
use Rattle.sizes.specs.Size.{is_side}
use Rattle.quant.specs.Scan.{named_at, is_bad_scan, has_bad_coefficient, first_refusals, scan_refusals, named_answer, scan_answer, scanned}
use Rattle.quant.specs.Settings.{settings_ok, coefficient_ok}
use Rattle.quant.specs.declared.Settings.{Settings}
use Rattle.laws.proofs.Filled.{front_at}
use Rattle.laws.proofs.Every.{every_same}

-- ---- the answer

-- a call's arguments, of the two buffers their lengths
pub record Call : Type 0 where
  pub width : ℕ
  pub step : ℕ
  pub settings : Settings
  pub coefficients : List ℤ
  pub scan : List ℕ
  pub levels : ℕ
  pub magnitudes : ℕ

-- what a call knows that numbers 1, 3 and 7 do not refuse
pub record FirstPassed (k : Call) : Type 0 where
  pub side : is_side k.width ≡ true
  pub levels_room : length k.scan ≤ k.levels
  pub magnitudes_room : length k.scan ≤ k.magnitudes
  pub fine : settings_ok k.settings k.step ≡ true

module _ (k : Call) where
  abbrev n : ℕ
  n = length k.scan

  abbrev tests : List (Bool × ℕ)
  tests = first_refusals k.width k.step k.settings n k.levels k.magnitudes

  abbrev more : List (Bool × ℕ)
  more = scan_refusals k.width k.coefficients k.scan

  abbrev pub first_answer : Answer
  first_answer = lowest tests n

  abbrev pub bad_scan : Bool
  bad_scan = is_bad_scan k.width (length k.coefficients) k.scan

  abbrev pub bad_coefficient : Bool
  bad_coefficient = has_bad_coefficient k.width k.coefficients k.scan

  abbrev pub answer : Answer
  answer = scan_answer k.width k.step k.settings k.coefficients k.scan k.levels k.magnitudes

  from_tests : not (is_side k.width) ≡ false → (ltb k.levels n || ltb k.magnitudes n) ≡ false → not (settings_ok k.settings k.step) ≡ false → FirstPassed k
  from_tests a b c =
      let short = neither (ltb k.levels n) (ltb k.magnitudes n) b in
      record { side = not-false _ a; levels_room = ltb-false k.levels n short.0; magnitudes_room = ltb-false k.magnitudes n short.1; fine = not-false _ c }

  module _ (m : ℕ) (ok : answers m ≡ first_answer) where
    pub first_passed : FirstPassed k
    first_passed =
        let a = passed (not (is_side k.width)) 1 _ n m ok in
        let b = passed (ltb k.levels n || ltb k.magnitudes n) 3 _ n m a.1 in
        let c = passed (not (settings_ok k.settings k.step)) 7 _ n m b.1 in
        from_tests a.0 b.0 c.0

    -- such a call answers by its scan
    pub by_its_scan : named_answer k.width k.coefficients k.scan ≡ answer
    unfolding scan_answer named_answer
    by_its_scan = sym (passed_on tests more n m ok)

  -- an accepted call: its settings are in range, and so is each coefficient that its scan names
  pub record Accepted : Type 0 where
    pub first : FirstPassed k
    pub in_scan : (i : ℕ) → i < n → coefficient_ok (named_at k.width k.coefficients k.scan i) ≡ true

  abbrev in_range : ℕ → Bool
  in_range i = coefficient_ok (named_at k.width k.coefficients k.scan i)

  pub accepted : (m : ℕ) → answers m ≡ answer → Accepted
  unfolding scan_answer has_bad_coefficient
  accepted m e =
      let a = passed (not (is_side k.width)) 1 _ n m e in
      let b = passed (ltb k.levels n || ltb k.magnitudes n) 3 _ n m a.1 in
      let c = passed (not (settings_ok k.settings k.step)) 7 _ n m b.1 in
      let f = passed bad_scan 8 _ n m c.1 in
      let g = passed bad_coefficient 9 _ n m f.1 in
      record {
        first = from_tests a.0 b.0 c.0;
        in_scan = λ i h. every_each n in_range (not-false (every n in_range) g.0) i h;
      }

-- what numbers 1, 3 and 7 refuse is refused
pub first_refuses : (r width step : ℕ) (settings : Settings) (coefficients : List ℤ) (scan : List ℕ) (levels magnitudes : ℕ)
    → refuses r ≡ lowest (first_refusals width step settings (length scan) levels magnitudes) (length scan)
    → refuses r ≡ scan_answer width step settings coefficients scan levels magnitudes
unfolding scan_answer
first_refuses r width step settings coefficients scan levels magnitudes e = refused_more _ _ (length scan) r e

-- ---- a call past those tests: the coefficients that its scan names are laid side by side

module _ (width : ℕ) (coefficients : List ℤ) (scan : List ℕ) where
  abbrev count : ℕ
  count = length scan

  abbrev is_out : Bool
  is_out = is_bad_scan width (length coefficients) scan

  abbrev found : Answer
  found = named_answer width coefficients scan

  pub found_bad_scan : is_out ≡ true → refuses 8 ≡ found
  unfolding named_answer lowest
  found_bad_scan e = rw e

  pub found_bad_coefficient : is_out ≡ false → has_bad_coefficient width coefficients scan ≡ true → refuses 9 ≡ found
  unfolding named_answer lowest
  found_bad_coefficient e f = rw (e, f)

  pub found_all : is_out ≡ false → has_bad_coefficient width coefficients scan ≡ false → answers count ≡ found
  unfolding named_answer lowest
  found_all e f = rw (e, f)

  module _ (old named : List ℤ) (room : length old ≡ count) (is : named ≡ laid old 0 count (named_at width coefficients scan)) where
    pub named_length : length named ≡ count
    named_length = ap length is ∙ length_laid old 0 count (named_at width coefficients scan) (omega arith) ∙ room

    at : (i : ℕ) → i < count → get_or named i (pos 0) ≡ named_at width coefficients scan i
    at i h = ap (λ (l : List ℤ). get_or l i (pos 0)) is ∙ front_at old count (named_at width coefficients scan) (pos 0) (omega arith) i h

    -- whether each is in range
    pub bad_coefficient_is : not (every (length named) (λ i. coefficient_ok (get_or named i (pos 0)))) ≡ has_bad_coefficient width coefficients scan
    unfolding has_bad_coefficient
    bad_coefficient_is =
        ap (λ (m : ℕ). not (every m (λ i. coefficient_ok (get_or named i (pos 0))))) named_length
        ∙ ap not (every_same count _ _ (λ i h. ap coefficient_ok (at i h)))

    -- a buffer that is written by a number of each
    pub written_is : (buffer after_call : List Float) (of : ℤ → Float) → after_call ≡ laid buffer 0 (length named) (λ i. of (get_or named i (pos 0)))
        → after_call ≡ scanned of width coefficients scan buffer
    unfolding scanned
    written_is buffer after_call of e =
        e ∙ ap (λ (m : ℕ). laid buffer 0 m (λ i. of (get_or named i (pos 0)))) named_length
        ∙ laid_ext buffer 0 count (λ i. of (get_or named i (pos 0))) (λ i. of (named_at width coefficients scan i)) (λ i h. ap of (at i h))
