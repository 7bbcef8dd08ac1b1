-- What a loop that puts blocks into lent buffers knows. Assumes nothing.
use mathlib.Core.List.{List, [], ◌∷◌, ◌++◌, append-nil, append_assoc}
use mathlib.Core.Logic.{⊎_elim}
use mathlib.Core.Path.{◌≡◌, refl, sym, ap, ap₂, subst₂, ◌∙◌}
use Prim.Native.Nat.{ℕ, suc, ◌+◌, ◌*◌, ◌≤◌, ◌<◌}
use native.Mathlib.Omega.{arith}
use lib.IntN.{ℤ}
use lib.ListN.{length, set, drop, length-append, length-drop}
use lib.Seq.{append_snoc, drop-drop}
use Rattle.laws.proofs.Laid.{length_tab}
use Rattle.laws.proofs.Place.{split}
use Rattle.laws.proofs.Sum.{sum_of_append, sum_of_more}
use Rattle.laws.specs.Store.{tab, pasted}
use Rattle.laws.specs.Sum.{sum_of}
use Rattle.answer.proofs.Answer.{no_answer}
use Rattle.answer.specs.Answer.{Answer, answers, refuses}
use Rattle.laws.specs.Store.{over}
use Rattle.format.specs.Pieces.{number_at}
use Rattle.format.specs.Format.{Block, width_in, height_in, places_in, level_in, length_in, block_in, record_answer, Found, blocks, damage, before, found_from, parse}
use Rattle.look.specs.Look.{area_of, places_of, counted, list_found}
use Rattle.reader.specs.Read.{numbers_of, sides_of, levels_of}
use Rattle.laws.proofs.Pasted.{pasted_none, pasted_set, pasted_both, length_pasted}
use Rattle.format.proofs.Parse.{one_more, damaged, found_nothing, length_some, no_damage}
use Rattle.format.proofs.Record.{Accepted, accepted}

-- ---- the lists of a list of blocks, one block more

pub numbers_more : (bs : List Block) (b : Block) → numbers_of (bs ++ (b ∷ [])) ≡ numbers_of bs ++ (b.number ∷ [])
unfolding numbers_of
numbers_more [] b = refl
numbers_more (x ∷ bs) b = ap (λ (l : List ℕ). x.number ∷ l) (numbers_more bs b)

pub sides_more : (bs : List Block) (b : Block) → sides_of (bs ++ (b ∷ [])) ≡ sides_of bs ++ (b.w ∷ b.h ∷ [])
unfolding sides_of
sides_more [] b = refl
sides_more (x ∷ bs) b = ap (λ (l : List ℕ). x.w ∷ x.h ∷ l) (sides_more bs b)

pub levels_more : (bs : List Block) (b : Block) → levels_of (bs ++ (b ∷ [])) ≡ levels_of bs ++ b.levels
unfolding levels_of
levels_more [] b = append-nil b.levels
levels_more (x ∷ bs) b = ap (λ (l : List ℤ). x.levels ++ l) (levels_more bs b) ∙ sym (append_assoc x.levels (levels_of bs) b.levels)

pub numbers_length : (bs : List Block) → length (numbers_of bs) ≡ length bs
unfolding numbers_of
numbers_length [] = refl
numbers_length (b ∷ bs) = ap suc (numbers_length bs)

pub sides_length : (bs : List Block) → length (sides_of bs) ≡ 2 * length bs
unfolding sides_of
sides_length [] = refl
sides_length (b ∷ bs) = omega (arith, sides_length bs)

pub places_first : (b : Block) (bs : List Block) → places_of (b ∷ bs) ≡ b.w * b.h + places_of bs
unfolding sum_of
places_first b bs = refl

-- ---- the next of the blocks that are found

pub record Next (low : ℕ) (t : List ℕ) (rest : List Block) : Type 0 where
  pub later : List Block
  pub first : rest ≡ block_in t ∷ later
  pub ok : Accepted low t
  pub on : found_from (number_at t 0 + 1) 0 (drop (length_in t) t) ≡ blocks later

next_of : (low : ℕ) (t : List ℕ) (rest : List Block) → Accepted low t → (f : Found) → found_from (number_at t 0 + 1) 0 (drop (length_in t) t) ≡ f
    → before (block_in t) f ≡ blocks rest → Next low t rest
next_of low t rest ok (blocks cs) on e = record { later = cs; first = sym (ap list_found e); ok = ok; on = on }
next_of low t rest ok (damage k) on e = no_damage e

next_by : (low : ℕ) (t : List ℕ) (rest : List Block) → 0 < length t → (a : Answer) → record_answer low t ≡ a → found_from low 0 t ≡ blocks rest → Next low t rest
next_by low t rest some (answers m) a e =
    let u = accepted low t m a in
    let l = length_some t in
    let r = u.0.room in
    let q = ap (λ (k : ℕ). before (block_in t) (found_from (number_at t 0 + 1) 0 (drop k t))) u.1 in
    next_of low t rest u.0 (found_from (number_at t 0 + 1) 0 (drop (length_in t) t)) refl
    (sym q ∙ sym (one_more low t m some a (omega (arith, u.1)) (omega (arith, u.1)) u.1) ∙ e)
next_by low t rest some (refuses k) a e = no_damage (sym (damaged low t k some a) ∙ e)

none_left : (low : ℕ) (t : List ℕ) (rest : List Block) → length t ≤ 0 → found_from low 0 t ≡ blocks rest → length rest ≡ 0
none_left low [] rest h e = ap (λ f. length (list_found f)) (sym e ∙ found_nothing low)
none_left low (x ∷ t) rest h e = absurd (omega arith)

pub next : (low : ℕ) (t : List ℕ) (rest : List Block) → 0 < length rest → found_from low 0 t ≡ blocks rest → Next low t rest
next low t rest some e =
    ⊎_elim (λ h. next_by low t rest h (record_answer low t) refl e) (λ h. absurd (omega (arith, none_left low t rest h e))) (split 0 (length t))

-- ---- the loop's invariant

pub record Filling (s : List ℕ) (numbers₀ sides₀ : List ℕ) (levels₀ : List ℤ) (numbers sides : List ℕ) (levels : List ℤ) (at k place : ℕ) : Type 0 where
  pub done : List Block
  pub rest : List Block
  pub low : ℕ
  pub whole : parse s ≡ blocks (done ++ rest)
  pub ahead : found_from low 0 (drop at s) ≡ blocks rest
  pub many : length done ≡ k
  pub wide : places_of done ≡ place
  pub long : length (levels_of done) ≡ place
  pub inside : at ≤ length s
  pub numbers_are : numbers ≡ over (numbers_of done) numbers₀
  pub sides_are : sides ≡ over (sides_of done) sides₀
  pub levels_are : levels ≡ over (levels_of done) levels₀

pub filling_none : (s numbers sides : List ℕ) (levels : List ℤ) (n : ℕ) → counted (parse s) ≡ answers n → Filling s numbers sides levels numbers sides levels 0 0 0
unfolding numbers_of sides_of levels_of sum_of parse
filling_none s numbers sides levels n e = from (found_from 0 0 s) refl e
  where
    from : (f : Found) → found_from 0 0 s ≡ f → counted f ≡ answers n → Filling s numbers sides levels numbers sides levels 0 0 0
    from (blocks bs) u e =
        record {
          done = [];
          rest = bs;
          low = 0;
          whole = u;
          ahead = u;
          many = refl;
          wide = refl;
          long = refl;
          inside = omega arith;
          numbers_are = pasted_none numbers 0;
          sides_are = pasted_none sides 0;
          levels_are = pasted_none levels 0;
        }
    from (damage k) u e = no_answer e

module _ {s numbers₀ sides₀ : List ℕ} {levels₀ : List ℤ} {numbers sides : List ℕ} {levels : List ℤ} {at k place : ℕ}
    (i : Filling s numbers₀ sides₀ levels₀ numbers sides levels at k place) {n : ℕ} (e : counted (parse s) ≡ answers n) where
  total : length (i.done ++ i.rest) ≡ n
  total = let z : answers (length (i.done ++ i.rest)) ≡ answers n = sym (ap counted i.whole) ∙ e in cc

  left : k + length i.rest ≡ n
  left = omega (arith, total, length-append i.done i.rest, i.many)

  -- past the last block
  pub filled_all : k ≡ n → list_found (parse s) ≡ i.done
  filled_all h = ap list_found i.whole ∙ nothing i.rest (omega (arith, left))
    where
      nothing : (r : List Block) → length r ≡ 0 → i.done ++ r ≡ i.done
      nothing [] z = append-nil i.done
      nothing (x ∷ r) z = absurd (omega arith)

  -- a block more
  module _ (h : k < n) where
    pub now_next : Next i.low (drop at s) i.rest
    now_next = next i.low (drop at s) i.rest (omega (arith, left)) i.ahead

    -- there is room for its levels
    pub next_room : places_of (list_found (parse s)) ≤ length levels₀ → place + places_in (drop at s) ≤ length levels₀
    unfolding block_in
    next_room r =
        let t = drop at s in
        omega (
          arith,
          ap (λ f. places_of (list_found f)) i.whole,
          sum_of_append area_of i.done i.rest,
          ap places_of now_next.first,
          places_first (block_in t) now_next.later,
          i.wide,
        )

    pub next_inside : at + length_in (drop at s) ≤ length s
    next_inside = omega (arith, now_next.ok.room, length-drop at s, i.inside, length_some (drop at s))

    filling_next : {numbers' sides' : List ℕ} {levels' : List ℤ} → k < length numbers₀ → 2 * k + 1 < length sides₀ → places_of (list_found (parse s)) ≤ length levels₀
        → numbers' ≡ set numbers k (number_at (drop at s) 0)
        → sides' ≡ pasted sides (2 * k) (width_in (drop at s) ∷ height_in (drop at s) ∷ [])
        → levels' ≡ pasted levels place (tab (places_in (drop at s)) (level_in (drop at s)))
        → Filling s numbers₀ sides₀ levels₀ numbers' sides' levels' (at + length_in (drop at s)) (k + 1) (place + places_in (drop at s))
    unfolding block_in
    filling_next room-n room-s room-l en es el =
        let t = drop at s in
        let b = block_in t in
        let n1 : length (numbers_of i.done) ≡ k = numbers_length i.done ∙ i.many in
        let n2 : length (sides_of i.done) ≡ 2 * k = sides_length i.done ∙ ap (λ (x : ℕ). 2 * x) i.many in
        record {
          done = i.done ++ (b ∷ []);
          rest = now_next.later;
          low = number_at t 0 + 1;
          whole = i.whole ∙ ap (λ (r : List Block). blocks (i.done ++ r)) now_next.first ∙ ap blocks (sym (append_snoc i.done b now_next.later));
          ahead = ap (λ (l : List ℕ). found_from (number_at t 0 + 1) 0 l) (sym (drop-drop (length_in t) at s)) ∙ now_next.on;
          many = length-append i.done (b ∷ []) ∙ ap (λ (x : ℕ). x + 1) i.many;
          wide = sum_of_more area_of i.done b ∙ ap (λ (x : ℕ). x + places_in t) i.wide;
          long = ap length (levels_more i.done b) ∙ length-append (levels_of i.done) (tab (places_in t) (level_in t)) ∙ ap₂ ◌+◌ i.long (length_tab (places_in t) (level_in t));
          inside = next_inside;
          numbers_are = en ∙ ap (λ (l : List ℕ). set l k (number_at t 0)) i.numbers_are
              ∙ pasted_set numbers₀ 0 k (numbers_of i.done) (number_at t 0) (omega (arith, n1)) (omega (arith, n1))
              ∙ ap (λ (l : List ℕ). over l numbers₀) (sym (numbers_more i.done b));
          sides_are = es ∙ ap (λ (l : List ℕ). pasted l (2 * k) (width_in t ∷ height_in t ∷ [])) i.sides_are
              ∙ pasted_both sides₀ 0 (2 * k) (sides_of i.done) (width_in t ∷ height_in t ∷ []) (omega (arith, n2)) (omega (arith, n2))
              ∙ ap (λ (l : List ℕ). over l sides₀) (sym (sides_more i.done b));
          levels_are = el ∙ ap (λ (l : List ℤ). pasted l place (tab (places_in t) (level_in t))) i.levels_are
              ∙ pasted_both levels₀ 0 place (levels_of i.done) (tab (places_in t) (level_in t)) (omega (arith, i.long, next_room room-l)) (omega (arith, i.long))
              ∙ ap (λ (l : List ℤ). over l levels₀) (sym (levels_more i.done b));
        }

    -- the same, with the record's length x and its places y
    pub filling_more : {numbers' sides' : List ℕ} {levels' : List ℤ} {x y : ℕ} → x ≡ length_in (drop at s) → y ≡ places_in (drop at s)
        → k < length numbers₀ → 2 * k + 1 < length sides₀ → places_of (list_found (parse s)) ≤ length levels₀
        → numbers' ≡ set numbers k (number_at (drop at s) 0)
        → sides' ≡ pasted sides (2 * k) (width_in (drop at s) ∷ height_in (drop at s) ∷ [])
        → levels' ≡ pasted levels place (tab (places_in (drop at s)) (level_in (drop at s)))
        → Filling s numbers₀ sides₀ levels₀ numbers' sides' levels' (at + x) (k + 1) (place + y)
    filling_more {numbers'} {sides'} {levels'} ex ey room-n room-s room-l en es el =
        subst₂ (λ (a b : ℕ). Filling s numbers₀ sides₀ levels₀ numbers' sides' levels' (at + a) (k + 1) (place + b)) (sym ex) (sym ey)
        (filling_next room-n room-s room-l en es el)

-- the buffers keep their lengths
module _ {s numbers₀ sides₀ : List ℕ} {levels₀ : List ℤ} {numbers sides : List ℕ} {levels : List ℤ} {at k place : ℕ}
    (i : Filling s numbers₀ sides₀ levels₀ numbers sides levels at k place) where
  pub levels_long : places_of (list_found (parse s)) ≤ length levels₀ → length levels ≡ length levels₀
  levels_long h =
      ap length i.levels_are
      ∙ length_pasted levels₀ 0 (levels_of i.done) (omega (arith, i.long, i.wide, ap (λ f. places_of (list_found f)) i.whole, sum_of_append area_of i.done i.rest))
