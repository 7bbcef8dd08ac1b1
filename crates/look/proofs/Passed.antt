-- What a loop over the records knows: the blocks that it has passed, and what is found from its place on. Assumes nothing.
use Rattle.std.proofs.Common.{◌≡◌, ℕ, ◌+◌, ◌^◌, ◌<◌, ◌≤◌, List, [], ◌∷◌, ◌++◌, length, drop, sym, refl, ap, ◌∙◌, append-nil, arith, length-append, length-drop, drop-drop}
use lib.Seq.{append_snoc, drop-length}
use Rattle.answer.specs.Answer.{answers, refuses}
use Rattle.format.specs.Pieces.{number_at}
use Rattle.format.specs.Format.{Block, length_in, block_in, record_answer, Found, blocks, damage, before, found_from, parse}
use Rattle.format.proofs.Parse.{one_more, damaged, found_nothing, length_some}
use Rattle.format.proofs.Record.{Accepted, accepted}

-- ---- what is found after some blocks

abbrev past : List Block → Found → Found
past bs (blocks cs) = blocks (bs ++ cs)
past bs (damage k) = damage k

past_more : (bs : List Block) (b : Block) (f : Found) → past bs (before b f) ≡ past (bs ++ (b ∷ [])) f
past_more bs b (blocks cs) = ap blocks (sym (append_snoc bs b cs))
past_more bs b (damage k) = refl

past_none : (f : Found) → f ≡ past [] f
past_none (blocks bs) = refl
past_none (damage k) = refl

-- ---- what every loop over the records knows: done are the blocks that it has passed

pub record Passed (s : List ℕ) (at low : ℕ) (done : List Block) : Type 0 where
  pub found : parse s ≡ past done (found_from low 0 (drop at s))
  pub inside : at ≤ length s
  pub below : length done ≤ low
  pub small : low ≤ 2 ^ 32

pub passed_none : (s : List ℕ) → Passed s 0 0 []
unfolding parse
passed_none s = record { found = past_none (found_from 0 0 s); inside = omega arith; below = omega arith; small = omega arith }

module _ {s : List ℕ} {at low : ℕ} {done : List Block} (p : Passed s at low done) where
  some : at < length s → 0 < length (drop at s)
  some h = omega (arith, length-drop at s)

  -- damage decides
  pub passed_damage : at < length s → {k : ℕ} → refuses k ≡ record_answer low (drop at s) → parse s ≡ damage k
  passed_damage h {k} e = p.found ∙ ap (past done) (damaged low (drop at s) k (some h) (sym e))

  -- past the last byte
  pub passed_all : at ≡ length s → parse s ≡ blocks done
  passed_all e =
      p.found
      ∙ ap (λ (l : List ℕ). past done (found_from low 0 l)) (ap (λ (k : ℕ). drop k s) e ∙ drop-length s)
      ∙ ap (past done) (found_nothing low)
      ∙ ap blocks (append-nil done)

  -- a record more
  module _ (h : at < length s) {m : ℕ} (e : answers m ≡ record_answer low (drop at s)) where
    pub taken : Accepted low (drop at s) × (m ≡ length_in (drop at s))
    taken = accepted low (drop at s) m (sym e)

    pub more_room : (5 ≤ m) × (at + m ≤ length s) × (5 ≤ length (drop at s))
    more_room =
        let l = length_some (drop at s) in
        let r = taken.0.room in
        (omega (arith, taken.1), omega (arith, taken.1, length-drop at s), omega arith)

    pub passed_more : number_at (drop at s) 0 < 2 ^ 32 → Passed s (at + m) (number_at (drop at s) 0 + 1) (done ++ (block_in (drop at s) ∷ []))
    passed_more small =
        let t = drop at s in
        record {
          found = p.found
              ∙ ap (past done) (one_more low t m (some h) (sym e) (omega (arith, more_room.0)) (omega (arith, more_room.1, length-drop at s)) taken.1)
              ∙ past_more done (block_in t) (found_from (number_at t 0 + 1) 0 (drop m t))
              ∙ ap (λ (l : List ℕ). past (done ++ (block_in t ∷ [])) (found_from (number_at t 0 + 1) 0 l)) (drop-drop m at s);
          inside = more_room.1;
          below = omega (arith, length-append done (block_in t ∷ []), p.below, taken.0.rising);
          small = omega arith;
        }
