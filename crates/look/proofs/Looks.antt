-- What the look through all records knows. Assumes nothing.
use Rattle.std.proofs.Common.{◌≡◌, ℕ, ◌+◌, ◌-◌, ◌*◌, ◌^◌, ◌<◌, ◌≤◌, List, [], ◌∷◌, ◌++◌, length, take, drop, sym, refl, ap, ◌∙◌, arith, length-append}
use Rattle.laws.proofs.Sum.{sum_of_more}
use Rattle.laws.specs.Sum.{sum_of}
use Rattle.answer.specs.Answer.{Answer, answers, refuses, number_of}
use Rattle.answer.specs.declared.Refusal.{Refusal}
use Rattle.laws.proofs.Part.{rest_is}
use Rattle.format.specs.Pieces.{number_at}
use Rattle.format.specs.Format.{Block, places_in, block_in, record_answer, parse}
use Rattle.look.specs.Look.{area_of, places_of, counted, list_found}
use Rattle.format.proofs.Sides.{sized_in}
use Rattle.look.proofs.Passed.{Passed, passed_none, passed_damage, passed_all, more_room, passed_more}

pub record Looks (s : List ℕ) (at low count places : ℕ) : Type 0 where
  pub done : List Block
  pub passed : Passed s at low done
  pub many : length done ≡ count
  pub wide : places_of done ≡ places
  pub bound : places ≤ 1024 * count

-- what a record answers, with the bytes from its place on
pub told_record : (s : List ℕ) (low at : ℕ) {a : Answer} → a ≡ record_answer low (take (length s - at) (drop at s)) → a ≡ record_answer low (drop at s)
told_record s low at e = e ∙ ap (record_answer low) (rest_is s at)

-- a record that is read lies within the bytes
pub told_room : {s : List ℕ} {at low : ℕ} {done : List Block} → Passed s at low done → at < length s → {m : ℕ}
    → answers m ≡ record_answer low (take (length s - at) (drop at s)) → (5 ≤ m) × (at + m ≤ length s)
told_room {s} {at} {low} p h e = let r = more_room p h (told_record s low at e) in (r.0, r.1)

pub looks_none : (s : List ℕ) → Looks s 0 0 0 0
unfolding sum_of
looks_none s = record { done = []; passed = passed_none s; many = refl; wide = refl; bound = omega arith }

module _ {s : List ℕ} {at low count places : ℕ} (l : Looks s at low count places) where
  -- damage decides
  pub looks_damage : at < length s → (why : Refusal) → refuses (number_of why) ≡ record_answer low (take (length s - at) (drop at s))
      → refuses (number_of why) ≡ counted (parse s)
  looks_damage h why e = ap counted (sym (passed_damage l.passed h (told_record s low at e)))

  -- past the last byte
  pub looks_all : length s ≤ at → (answers count ≡ counted (parse s)) × (places ≡ places_of (list_found (parse s)))
  looks_all h =
      let e = passed_all l.passed (omega (arith, l.passed.inside)) in
      (ap answers (sym l.many) ∙ ap counted (sym e), sym l.wide ∙ ap (λ f. places_of (list_found f)) (sym e))

  -- a record more, as it is read
  module _ (h : at < length s) {m : ℕ} (e : answers m ≡ record_answer low (take (length s - at) (drop at s))) where
    pub looks_few : {p : ℕ} → p ≡ places_in (take (length s - at) (drop at s)) → (p ≤ 1024) × (count + 1 ≤ 2 ^ 33) × (places ≤ 2 ^ 43)
    looks_few {p} f =
        let z = (sized_in (take (length s - at) (drop at s))).most in
        (omega (arith, f, z), omega (arith, l.many, l.passed.below, l.passed.small), omega (arith, l.many, l.bound, l.passed.below, l.passed.small))

    pub looks_more : {n p : ℕ} → n < 2 ^ 32 → n ≡ number_at (take (length s - at) (drop at s)) 0 → p ≡ places_in (take (length s - at) (drop at s))
        → Looks s (at + m) (n + 1) (count + 1) (places + p)
    unfolding block_in
    looks_more {n} {p} small e-n e-p =
        let t = drop at s in
        let n-is = e-n ∙ ap (λ (l : List ℕ). number_at l 0) (rest_is s at) in
        let p-is = e-p ∙ ap (λ (l : List ℕ). places_in l) (rest_is s at) in
        rw (n-is, p-is)
        (record {
          done = l.done ++ (block_in t ∷ []);
          passed = passed_more l.passed h (told_record s low at e) (omega (arith, n-is));
          many = length-append l.done (block_in t ∷ []) ∙ ap (λ (k : ℕ). k + 1) l.many;
          wide = sum_of_more area_of l.done (block_in t) ∙ ap (λ (k : ℕ). k + places_in t) l.wide;
          bound = omega (arith, l.bound, (sized_in t).most);
        })
