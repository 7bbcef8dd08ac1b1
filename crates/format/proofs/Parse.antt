-- The list of blocks, both ways: a list's bytes read back to it, and bytes that are accepted are the list's bytes. Assumes nothing.
use mathlib.Core.Bool.{true}
use mathlib.Core.List.{List, [], ◌∷◌, ◌++◌, append-nil, append_assoc}
use mathlib.Core.Logic.{◌⊎◌, inl, inr, ⊎_elim}
use mathlib.Core.Path.{◌≡◌, refl, sym, ap, ap₂, subst, ◌∙◌}
use Prim.Native.Nat.{ℕ, zero, suc, ◌+◌, ◌-◌, ◌≤◌, ◌<◌}
use native.Mathlib.Omega.{arith}
use borrow.Author.Tests.{leb-true, le-leb}
use lib.ListN.{length, drop, length-drop, length-append}
use lib.Seq.{drop-append_seam, get_or-drop}
use Rattle.laws.proofs.Bool.{both}
use Rattle.laws.proofs.Place.{split}
use Rattle.answer.specs.Answer.{Answer, answers, refuses}
use Rattle.format.specs.Pieces.{Bytes, number_at}
use Rattle.format.specs.Format.{Block, record_of, bytes_of, are_blocks, length_in, block_in, record_answer, Found, blocks, damage, before, unless_refused, found_from, parse}
use Rattle.format.specs.Exact.{ReadBack, OnlyBytes, OneFile, Blocks, Damaged, Decides, NoBytes, ByRecord}
use Rattle.laws.proofs.Part.{part_front}
use Rattle.format.proofs.Record.{whole, record_length, number_is, length_is, block_is, answer_is, Accepted, accepted, length_in_lem, record_in, block_in_lem, Number, refused}

-- ---- what is found past a number of bytes

pub skipped : (low k : ℕ) (s : List ℕ) → k ≤ length s → found_from low k s ≡ found_from low 0 (drop k s)
unfolding found_from
skipped low zero [] h = refl
skipped low zero (x ∷ s) h = refl
skipped low (suc k) [] h = refl
skipped low (suc k) (x ∷ s) h = skipped low k s (omega arith)

pub found_nothing : (low : ℕ) → found_from low 0 [] ≡ blocks []
unfolding found_from
found_nothing low = refl

-- what is found from a record on, of which there are bytes: the rest starts at its length
pub one_more : (low : ℕ) (s : List ℕ) (m : ℕ) → 0 < length s → record_answer low s ≡ answers m → 0 < m → m ≤ length s → m ≡ length_in s
    → found_from low 0 s ≡ before (block_in s) (found_from (number_at s 0 + 1) 0 (drop m s))
unfolding found_from
one_more low [] m some e p room q = absurd (omega arith)
one_more low (x ∷ s) zero some e p room q = absurd (omega arith)
one_more low (x ∷ s) (suc m) some e p room q =
    let t : length_in (x ∷ s) - 1 ≡ m = omega arith in
    ap (λ (a : Answer). unless_refused a (before (block_in (x ∷ s)) (found_from (number_at (x ∷ s) 0 + 1) (length_in (x ∷ s) - 1) s))) e
    ∙ ap (λ (k : ℕ). before (block_in (x ∷ s)) (found_from (number_at (x ∷ s) 0 + 1) k s)) t
    ∙ ap (before (block_in (x ∷ s))) (skipped (number_at (x ∷ s) 0 + 1) m s (omega arith))

-- damage in the first record
pub damaged : (low : ℕ) (s : List ℕ) (k : ℕ) → 0 < length s → record_answer low s ≡ refuses k → found_from low 0 s ≡ damage k
unfolding found_from
damaged low [] k some e = absurd (omega arith)
damaged low (x ∷ s) k some e =
    ap (λ (a : Answer). unless_refused a (before (block_in (x ∷ s)) (found_from (number_at (x ∷ s) 0 + 1) (length_in (x ∷ s) - 1) s))) e

-- ---- a list's bytes are read back

-- the bytes of one block more
pub bytes_more : (bs : List Block) (b : Block) → bytes_of (bs ++ (b ∷ [])) ≡ bytes_of bs ++ record_of b
unfolding bytes_of
bytes_more [] b = append-nil (record_of b)
bytes_more (x ∷ bs) b = ap (λ (l : List ℕ). record_of x ++ l) (bytes_more bs b) ∙ sym (append_assoc (record_of x) (bytes_of bs) (record_of b))

some_bytes : (b : Block) (l : List ℕ) → 0 < length (record_of b ++ l)
some_bytes b l = omega (arith, length-append (record_of b) l, record_length b)

back_from : (low : ℕ) (bs : List Block) → are_blocks low bs ≡ true → found_from low 0 (bytes_of bs) ≡ blocks bs
unfolding are_blocks bytes_of
back_from low [] e = found_nothing low
back_from low (b ∷ bs) e =
    let s = record_of b ++ bytes_of bs in
    let u = both _ _ e in
    let v = both _ _ u.0 in
    let ok = whole b v.0 in
    let here = part_front (record_of b) (bytes_of bs) in
    one_more low s (length (record_of b)) (some_bytes b (bytes_of bs)) (answer_is s b ok here low (leb-true _ _ v.1))
    (omega (arith, record_length b)) (omega (arith, length-append (record_of b) (bytes_of bs))) (sym (length_is s b ok here))
    ∙ ap₂ (λ (x : Block) (y : Found). before x y) (block_is s b ok here)
    (ap₂ (λ (k : ℕ) (l : List ℕ). found_from (k + 1) 0 l) (number_is s b ok here) (drop-append_seam (record_of b) (bytes_of bs))
    ∙ back_from (b.number + 1) bs u.1)

-- the reader gives back the list that was written
pub read_back : ReadBack
unfolding parse
read_back bs e = back_from 0 bs e

-- ---- what is accepted is a list's bytes

-- what is found is right: blocks have these bytes, and damage has a number
abbrev Right : ℕ → List ℕ → Found → Type 0
Right low s (blocks bs) = (s ≡ bytes_of bs) × (are_blocks low bs ≡ true)
Right low s (damage k) = Number k

right_more : (low : ℕ) (s : List ℕ) (m : ℕ) → Bytes s → Accepted low s → m ≡ length_in s → (f : Found)
    → Right (number_at s 0 + 1) (drop m s) f → Right low s (before (block_in s) f)
unfolding are_blocks bytes_of block_in
right_more low s m bytes ok e (blocks bs) r =
    let t : 0 + length (record_of (block_in s)) ≡ m = omega (arith, length_in_lem s bytes ok) in (
      (record_in s bytes ok).is ∙ ap (λ (l : List ℕ). record_of (block_in s) ++ l) (ap (λ (k : ℕ). drop k s) t ∙ r.0),
      rw (block_in_lem s bytes ok, le-leb low (number_at s 0) ok.rising) r.1,
    )
right_more low s m bytes ok e (damage k) r = r

pub length_some : (s : List ℕ) → 5 ≤ length_in s
unfolding length_in
length_some s = omega arith

-- one record, and what follows it
right_step : (low : ℕ) (s : List ℕ) → 0 < length s → Bytes s
    → ((m : ℕ) → 0 < m → m ≤ length s → Right (number_at s 0 + 1) (drop m s) (found_from (number_at s 0 + 1) 0 (drop m s)))
    → (a : Answer) → record_answer low s ≡ a → Right low s (found_from low 0 s)
right_step low s some bytes more (answers m) e =
    let ok = accepted low s m e in
    let pos : 0 < m = omega (arith, length_some s, ok.1) in
    let room : m ≤ length s = omega (arith, ok.0.room, ok.1) in
    subst (Right low s) (sym (one_more low s m some e pos room ok.1))
    (right_more low s m bytes ok.0 ok.1 (found_from (number_at s 0 + 1) 0 (drop m s)) (more m pos room))
right_step low s some bytes more (refuses k) e = subst (Right low s) (sym (damaged low s k some e)) (refused low s k e)

right_nothing : (low : ℕ) (s : List ℕ) → length s ≤ 0 → Right low s (found_from low 0 s)
right_nothing low [] h = subst (Right low []) (sym (found_nothing low)) (unfold bytes_of are_blocks in (refl, refl))
right_nothing low (x ∷ s) h = absurd (omega arith)

right_from : (n low : ℕ) (s : List ℕ) → length s ≤ n → Bytes s → Right low s (found_from low 0 s)
right_from zero low s h bytes = right_nothing low s h
right_from (suc n) low s h bytes =
    ⊎_elim
    (λ some.
    right_step low s some bytes
    (λ m pos room.
    right_from n (number_at s 0 + 1) (drop m s) (omega (arith, length-drop m s))
    (λ i. subst (λ (k : ℕ). k < 256) (sym (get_or-drop m s i 0)) (bytes (m + i))))
    (record_answer low s) refl)
    (right_nothing low s)
    (split 0 (length s))

right : (s : List ℕ) → Bytes s → Right 0 s (parse s)
unfolding parse
right s bytes = right_from (length s) 0 s (omega arith) bytes

pub only_bytes : OnlyBytes
only_bytes s bytes bs e = subst (Right 0 s) e (right s bytes)

pub one_file : OneFile
one_file s t bytes-s bytes-t bs e f = (only_bytes s bytes-s bs e).0 ∙ sym (only_bytes t bytes-t bs f).0

pub no_bytes : NoBytes
unfolding parse bytes_of
no_bytes = (found_nothing 0, refl)

-- ---- every string of bytes is decided

pub no_damage : {X : Type 0} {k : ℕ} {bs : List Block} → damage k ≡ blocks bs → X
no_damage e = absurd (let z : ◌≡◌ {A = ℕ} 0 1 = cc in omega arith)

pub decides : Decides
decides s bytes = by (parse s) refl (right s bytes)
  where
    by : (f : Found) → parse s ≡ f → Right 0 s f → Blocks s ⊎ Damaged s
    by (blocks bs) e r = inl (record { list = bs; found = e; bytes = r.0; are = r.1 })
    by (damage k) e r = inr (record { number = k; found = e; one = r; none = λ bs ok same. no_damage (sym e ∙ ap parse same ∙ read_back bs ok) })

-- ---- record by record

pub by_record : ByRecord
by_record low x s = by (record_answer low (x ∷ s)) refl
  where
    by : (a : Answer) → record_answer low (x ∷ s) ≡ a
        → found_from low 0 (x ∷ s) ≡ unless_refused a (before (block_in (x ∷ s)) (found_from (number_at (x ∷ s) 0 + 1) 0 (drop (length_in (x ∷ s)) (x ∷ s))))
    by (answers m) e =
        let ok = accepted low (x ∷ s) m e in
        let some = length_some (x ∷ s) in
        one_more low (x ∷ s) m (omega arith) e (omega (arith, ok.1)) (omega (arith, ok.0.room, ok.1)) ok.1
        ∙ ap (λ (k : ℕ). before (block_in (x ∷ s)) (found_from (number_at (x ∷ s) 0 + 1) 0 (drop k (x ∷ s)))) ok.1
    by (refuses k) e = damaged low (x ∷ s) k (omega arith) e
