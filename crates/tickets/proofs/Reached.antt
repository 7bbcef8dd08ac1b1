-- What accepted batches can have covered: lines that the block has, and rows only once every column is. Assumes nothing.
use mathlib.Core.Path.{◌≡◌, refl, sym, ap, ◌∙◌}
use mathlib.Core.Logic.{◌⊎◌, inl, inr, ⊎_elim}
use mathlib.Core.Bool.{Bool, true, false, not, ◌&&◌, ◌||◌, beq, false≢true, or-true}
use mathlib.Core.List.{[], ◌∷◌}
use Prim.Native.Nat.{ℕ, ◌+◌, ◌%◌, ◌<◌, ◌≤◌}
use native.Mathlib.Omega.{arith}
use borrow.Author.Tests.{ltb-false, not-false, eqb-true}
use lib.Dec.{eqb, ltb}
use Rattle.laws.specs.Table.{every}
use Rattle.laws.proofs.Bool.{both, either, neither, same_bool}
use Rattle.laws.proofs.Every.{every_all, every_each}
use Rattle.answer.specs.Answer.{Answer, answers, refuses, lowest}
use Rattle.tickets.specs.Mark.{is_among}
use Rattle.tickets.specs.Batch.{is_count, line_count, out_of_range}
use Rattle.tickets.specs.declared.Batch.{Batch}
use Rattle.tickets.specs.Condition3.{covers, answer_to, accepted, covered_with}
use Rattle.tickets.proofs.Mark.{among_lt}

-- ---- a batch within its range, and an accepted one

pub counted_few : (count : ℕ) → is_count count ≡ true → count ≤ 8
counted_few count e =
    ⊎_elim (λ u. omega (arith, eqb-true count 1 u))
    (λ r. ⊎_elim (λ u. omega (arith, eqb-true count 4 u)) (λ u. omega (arith, eqb-true count 8 u)) (either (eqb count 4) (eqb count 8) r))
    (either (eqb count 1) (eqb count 4 || eqb count 8) e)

pub record InRange (lines start count : ℕ) : Type 0 where
  pub counted : is_count count ≡ true
  pub end : start + count ≤ lines
  pub few : count ≤ 8

pub in_range : (lines start count : ℕ) → out_of_range lines start count ≡ false → InRange lines start count
unfolding out_of_range
in_range lines start count e =
    let more = eqb count 4 || eqb count 8 in
    let even = eqb (start % 4) 0 in
    let a = neither (not (eqb count 1 || (more && even))) (ltb lines (start + count)) e in
    let counted : is_count count ≡ true =
    ⊎_elim (λ u. ap (λ (x : Bool). x || more) u) (λ r. ap (λ (x : Bool). eqb count 1 || x) (both more even r).0 ∙ or-true (eqb count 1))
    (either (eqb count 1) (more && even) (not-false _ a.0)) in
    record { counted = counted; end = ltb-false lines (start + count) a.1; few = counted_few count counted }

pub record Refuses (a : Answer) : Type 0 where
  pub number : ℕ
  pub is : a ≡ refuses number

-- two tests: the call is accepted with neither, or refused
either_way : (x y : Bool) (j k n : ℕ)
    → ((lowest ((x, j) ∷ (y, k) ∷ []) n ≡ answers n) × (x ≡ false) × (y ≡ false)) ⊎ Refuses (lowest ((x, j) ∷ (y, k) ∷ []) n)
unfolding lowest
either_way true y j k n = inr (record { number = j; is = refl })
either_way false true j k n = inr (record { number = k; is = refl })
either_way false false j k n = inl (refl, refl, refl)

pub cases : (w h : ℕ) (p : ℕ → Bool) (b : Batch)
    → ((answer_to w h p b ≡ answers b.count) × (out_of_range (line_count w h b.row) b.start b.count ≡ false)
    × ((b.row && not (every w p)) ≡ false))
    ⊎ Refuses (answer_to w h p b)
unfolding answer_to
cases w h p b = either_way (out_of_range (line_count w h b.row) b.start b.count) (b.row && not (every w p)) 5 6 b.count

-- a batch that covers a line is of the line's kind
pub covers_kind : (b : Batch) (row : Bool) (j : ℕ) → covers b row j ≡ true → (b.row ≡ row) × (is_among b.start b.count j ≡ true)
unfolding covers
covers_kind b row j e =
    let k = both (beq b.row row) (is_among b.start b.count j) e in (same_bool b.row row k.0, k.1)

-- ---- what is covered

pub record Reached (w h : ℕ) (done : Bool → ℕ → Bool) : Type 0 where
  -- a line that is covered is one that there is
  pub inside : (row : Bool) (j : ℕ) → done row j ≡ true → j < line_count w h row
  -- a row line is covered only once every column line is
  pub ready : (j : ℕ) → done true j ≡ true → every w (done false) ≡ true

pub reached_none : (w h : ℕ) → Reached w h (λ row j. false)
reached_none w h = record { inside = λ row j e. absurd (false≢true e); ready = λ j e. absurd (false≢true e) }

module _ {w h : ℕ} {done : Bool → ℕ → Bool} (reached : Reached w h done) (b : Batch) where
  -- a line that the batch covers, accepted
  newly : (row : Bool) (j : ℕ) → (accepted (answer_to w h (done false) b) && covers b row j) ≡ true
      → (j < line_count w h row) × ((row && not (every w (done false))) ≡ false)
  newly row j e =
      let two = both (accepted (answer_to w h (done false) b)) (covers b row j) e in
      let kind = covers_kind b row j two.1 in
      ⊎_elim
      (λ x.
      let range = rw kind.0 at x.1 in
      (omega (arith, in_range (line_count w h row) b.start b.count range, among_lt b.start b.count j kind.1), rw kind.0 at x.2))
      (λ r. absurd (false≢true (sym (ap accepted r.is) ∙ two.0)))
      (cases w h (done false) b)

  all_columns : (j : ℕ) → covered_with w h done b true j ≡ true → every w (done false) ≡ true
  all_columns j e = ⊎_elim (reached.ready j) (λ a. not-false _ (newly true j a).1) (either (done true j) _ e)

  pub reached_with : Reached w h (covered_with w h done b)
  reached_with =
      record {
        inside = λ row j e. ⊎_elim (reached.inside row j) (λ a. (newly row j a).0) (either (done row j) _ e);
        ready = λ j e. every_all w (covered_with w h done b false) (λ k l. rw (every_each w (done false) (all_columns j e) k l));
      }
