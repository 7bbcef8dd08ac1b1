-- The reader on what the writer wrote, and the writer on what the reader read. Assumes nothing.
use mathlib.Core.Bool.{true, ◌||◌}
use mathlib.Core.List.{List}
use mathlib.Core.Logic.{⊎_elim}
use mathlib.Core.Path.{◌≡◌, refl, sym, ap, ap₂, subst, ◌∙◌}
use Prim.Native.Nat.{ℕ, zero, suc, ◌+◌, ◌-◌, ◌*◌, ◌/◌, ◌%◌, ◌≤◌, ◌<◌, min}
use native.Mathlib.Numerals.{add-one}
use native.Mathlib.Omega.{arith}
use borrow.Author.Tests.{leb-true, le-ltb, lt-ltb, ltb-false}
use lib.Dec.{ltb}
use lib.IntN.{ℤ, pos}
use lib.ListN.{length, get_or, take, drop}
use lib.Seq.{take-append_seam}
use Rattle.laws.proofs.Bool.{both, neither}
use Rattle.laws.proofs.Every.{every_all}
use Rattle.laws.proofs.Tab.{tab_cons}
use Rattle.laws.proofs.Laid.{length_tab}
use Rattle.laws.proofs.Pasted.{length_pasted}
use Rattle.laws.proofs.Place.{split}
use Rattle.laws.specs.Store.{tab, pasted, over}
use Rattle.laws.specs.Sum.{sum_ℕ}
use Rattle.answer.proofs.Answer.{passed, the_answer, accepted_alike, no_answer}
use Rattle.answer.specs.Answer.{Answer, answers, lowest, after}
use Rattle.sizes.specs.Size.{is_side}
use Rattle.format.proofs.Parse.{only_bytes}
use Rattle.format.proofs.Record.{Whole, whole}
use Rattle.format.specs.Pieces.{Bytes, is_near, are_near}
use Rattle.format.specs.Format.{Block, bytes_of, is_block, are_blocks, Found, blocks, damage, parse}
use Rattle.records.specs.Both.{WrittenRead, ReadWritten, BothWays}
use Rattle.look.specs.Look.{places_of, list_found}
use Rattle.reader.specs.Read.{numbers_of, sides_of, levels_of, read_answer, numbers_after, sides_after, levels_after}
use Rattle.writer.specs.Write.{block_from, place_at, block_at, blocks_in, are_sides, is_rising, by_buffers, write_answer, bytes_after}
use Rattle.writer.proofs.Admitted.{Admitted, admitted}
use Rattle.records.proofs.Back.{written_reads}
use Rattle.writer.proofs.Blocks.{level_from_lem}
use Rattle.reader.proofs.Filling.{numbers_length, sides_length}
use Rattle.records.proofs.Held.{numbers_held, sides_held, levels_held, places_held, held, levels_many}

-- ---- a reading into buffers with room

module _ (s : List ℕ) (bs : List Block) (found : parse s ≡ blocks bs) (n₀ s₀ : List ℕ) (l₀ : List ℤ) (numbers : length bs ≤ length n₀) (sides : 2 * length bs ≤ length s₀)
    (levels : places_of bs ≤ length l₀) where
  pub read_all : read_answer (parse s) (length n₀) (length s₀) (length l₀) ≡ answers (length bs)
  unfolding lowest
  read_all =
      ap (λ (f : Found). read_answer f (length n₀) (length s₀) (length l₀)) found
      ∙ rw (le-ltb (length n₀) (length bs) numbers, le-ltb (length s₀) (2 * length bs) sides, le-ltb (length l₀) (places_of bs) levels)

  -- what it leaves in a buffer
  left : {A : Type 0} (f : List Block → List A) (d : List A)
      → after (read_answer (parse s) (length n₀) (length s₀) (length l₀)) (over (f (list_found (parse s))) d) d ≡ over (f bs) d
  left {A} f d = ap₂ (λ (a : Answer) (x : Found). after a (over (f (list_found x)) d) d) read_all found

  pub numbers_left : numbers_after s n₀ s₀ l₀ ≡ over (numbers_of bs) n₀
  unfolding numbers_after
  numbers_left = left numbers_of n₀

  pub sides_left : sides_after s n₀ s₀ l₀ ≡ over (sides_of bs) s₀
  unfolding sides_after
  sides_left = left sides_of s₀

  pub levels_left : levels_after s n₀ s₀ l₀ ≡ over (levels_of bs) l₀
  unfolding levels_after
  levels_left = left levels_of l₀

-- ---- the reader on what the writer wrote

written_bytes : (count : ℕ) (numbers sides : List ℕ) (levels : List ℤ) (out : List ℕ) (m : ℕ) → write_answer count numbers sides levels (length out) ≡ answers m
    → take m (bytes_after count numbers sides levels out) ≡ bytes_of (blocks_in count numbers sides levels)
unfolding write_answer bytes_after pasted
written_bytes count numbers sides levels out m e =
    let b = bytes_of (blocks_in count numbers sides levels) in
    let same : answers (length b) ≡ answers m = accepted_alike (by_buffers count numbers sides levels (length out)) (length b) (length b) m (sym e) ∙ e in
    let long : m ≡ length b = cc in
    ap₂ (λ (k : ℕ) (a : Answer). take k (after a (over b out) out)) long e ∙ take-append_seam b (drop (0 + length b) out)

count_is : (count : ℕ) (numbers sides : List ℕ) (levels : List ℤ) → length (blocks_in count numbers sides levels) ≡ count
unfolding blocks_in
count_is count numbers sides levels = length_tab count (block_at numbers sides levels)

admits : (count : ℕ) (numbers sides : List ℕ) (levels : List ℤ) (room m : ℕ) → write_answer count numbers sides levels room ≡ answers m → Admitted count numbers sides levels room
unfolding write_answer
admits count numbers sides levels room m e = admitted count numbers sides levels room m (length (bytes_of (blocks_in count numbers sides levels))) (sym e)

pub written_read : WrittenRead
written_read count numbers sides levels out m small e n₀ s₀ l₀ rn rs rl =
    let bs = blocks_in count numbers sides levels in
    let s = take m (bytes_after count numbers sides levels out) in
    let ok = admits count numbers sides levels (length out) m e in
    let found : parse s ≡ blocks bs = ap parse (written_bytes count numbers sides levels out m e) ∙ written_reads count numbers sides levels (length out) m small (sym e) in
    let many = count_is count numbers sides levels in
    let a : length bs ≤ length n₀ = omega arith in
    let b : 2 * length bs ≤ length s₀ = omega arith in
    let c : places_of bs ≤ length l₀ = omega (arith, places_held numbers sides levels count) in (
      read_all s bs found n₀ s₀ l₀ a b c ∙ ap answers many,
      numbers_left s bs found n₀ s₀ l₀ a b c ∙ ap (λ (l : List ℕ). over l n₀) (numbers_held numbers sides levels count ok.many),
      sides_left s bs found n₀ s₀ l₀ a b c ∙ ap (λ (l : List ℕ). over l s₀) (sides_held numbers sides levels count ok.pairs),
      levels_left s bs found n₀ s₀ l₀ a b c ∙ ap (λ (l : List ℤ). over l l₀) (levels_held numbers sides levels count),
    )

-- ---- a list in buffers that has bytes is written

-- blocks one after the other: each is one, and their numbers rise
first : (n : ℕ) (g : ℕ → Block) (low : ℕ) → are_blocks low (tab (suc n) g) ≡ true
    → (is_block (g 0) ≡ true) × (low ≤ (g 0).number) × (are_blocks ((g 0).number + 1) (tab n (λ k. g (suc k))) ≡ true)
unfolding are_blocks
first n g low e =
    let u = both _ _ (sym (ap (are_blocks low) (tab_cons n g)) ∙ e) in
    let v = both _ _ u.0 in
    (v.0, leb-true _ _ v.1, u.1)

each : (n : ℕ) (g : ℕ → Block) (low : ℕ) → are_blocks low (tab n g) ≡ true → (k : ℕ) → k < n → is_block (g k) ≡ true
each zero g low e k h = absurd (omega arith)
each (suc n) g low e zero h = (first n g low e).0
each (suc n) g low e (suc k) h = each n (λ k. g (suc k)) ((g 0).number + 1) (first n g low e).2 k (omega arith)

rise : (n : ℕ) (g : ℕ → Block) (low : ℕ) → are_blocks low (tab n g) ≡ true → (k : ℕ) → suc k < n → (g k).number < (g (suc k)).number
rise zero g low e k h = absurd (omega arith)
rise (suc zero) g low e k h = absurd (omega arith)
rise (suc (suc n)) g low e zero h = omega (arith, (first n (λ k. g (suc k)) ((g 0).number + 1) (first (suc n) g low e).2).1)
rise (suc (suc n)) g low e (suc k) h = rise (suc n) (λ k. g (suc k)) ((g 0).number + 1) (first (suc n) g low e).2 k (omega arith)

module _ (n : ℕ) (numbers sides : List ℕ) (levels : List ℤ) (room : ℕ) (ok : are_blocks 0 (blocks_in n numbers sides levels) ≡ true) where
  block : (k : ℕ) → k < n → Whole (block_at numbers sides levels k)
  unfolding blocks_in
  block k h = whole (block_at numbers sides levels k) (each n (block_at numbers sides levels) 0 ok k h)

  sides_ok_lem : are_sides n sides ≡ true
  unfolding block_at block_from
  sides_ok_lem = every_all (min (2 * n) (length sides)) (λ i. is_side (get_or sides i 0)) (λ i h. ⊎_elim (even i (omega arith)) (odd i (omega arith)) (split (i % 2) 1))
    where
      even : (i : ℕ) → i < 2 * n → i % 2 < 1 → is_side (get_or sides i 0) ≡ true
      even i h z = let e : 2 * (i / 2) ≡ i = omega arith in subst (λ (j : ℕ). is_side (get_or sides j 0) ≡ true) e (block (i / 2) (omega arith)).wide_ok

      odd : (i : ℕ) → i < 2 * n → 1 ≤ i % 2 → is_side (get_or sides i 0) ≡ true
      odd i h z = let e : 2 * (i / 2) + 1 ≡ i = omega arith in subst (λ (j : ℕ). is_side (get_or sides j 0) ≡ true) e (block (i / 2) (omega arith)).high_ok

  near_at : (k : ℕ) → k ≤ n → (p : ℕ) → p < place_at sides k → is_near (get_or levels p (pos 0)) ≡ true
  unfolding place_at sum_ℕ block_at block_from
  near_at zero h p b = absurd (omega arith)
  near_at (suc k) h p b =
      ⊎_elim (near_at k (omega arith) p)
      (λ l.
      let place = place_at sides k in
      let e : place + (p - place) ≡ p = omega arith in
      subst (λ (q : ℕ). is_near (get_or levels q (pos 0)) ≡ true) e
      (ap is_near (sym (level_from_lem (get_or numbers k 0) (get_or sides (2 * k) 0) (get_or sides (2 * k + 1) 0) levels place (p - place) (omega arith)))
      ∙ (block k (omega arith)).near (p - place) (omega arith)))
      (split p (place_at sides k))

  near_ok : are_near (place_at sides n) levels ≡ true
  unfolding are_near
  near_ok = every_all (place_at sides n) (λ p. is_near (get_or levels p (pos 0))) (near_at n (omega arith))

  rising_ok : is_rising n numbers ≡ true
  unfolding blocks_in block_at block_from
  rising_ok =
      every_all (n - 1) (λ k. ltb (get_or numbers k 0) (get_or numbers (k + 1) 0))
      (λ k h. ap (λ (j : ℕ). ltb (get_or numbers k 0) (get_or numbers j 0)) (add-one k) ∙ lt-ltb _ _ (rise n (block_at numbers sides levels) 0 ok k (omega arith)))

  pub writes : n ≤ length numbers → 2 * n ≤ length sides → place_at sides n ≤ length levels → length (bytes_of (blocks_in n numbers sides levels)) ≤ room
      → write_answer n numbers sides levels room ≡ answers (length (bytes_of (blocks_in n numbers sides levels)))
  unfolding write_answer lowest
  writes a b c d =
      rw (
        sides_ok_lem,
        le-ltb (length numbers) n a,
        le-ltb (length sides) (2 * n) b,
        le-ltb (length levels) (place_at sides n) c,
        le-ltb room (length (bytes_of (blocks_in n numbers sides levels))) d,
        near_ok,
        rising_ok,
      )

-- ---- the writer on what the reader read

-- what an accepted reading has found
pub record Reads (f : Found) (n numbers sides levels : ℕ) : Type 0 where
  pub list : List Block
  pub is : f ≡ blocks list
  pub many : length list ≡ n
  pub numbers_room : length list ≤ numbers
  pub sides_room : 2 * length list ≤ sides
  pub levels_room : places_of list ≤ levels

pub reads : (f : Found) (n numbers sides levels : ℕ) → read_answer f numbers sides levels ≡ answers n → Reads f n numbers sides levels
reads (blocks bs) n numbers sides levels e =
    let a = passed _ _ _ _ _ (sym e) in
    let b = neither (ltb numbers (length bs)) (ltb sides (2 * length bs) || ltb levels (places_of bs)) a.0 in
    let c = neither (ltb sides (2 * length bs)) (ltb levels (places_of bs)) b.1 in
    record {
      list = bs;
      is = refl;
      many = sym (the_answer (length bs) n a.1);
      numbers_room = ltb-false _ _ b.0;
      sides_room = ltb-false _ _ c.0;
      levels_room = ltb-false _ _ c.1;
    }
reads (damage k) n numbers sides levels e = no_answer e

-- the buffers hold the list
held_over : (bs : List Block) → are_blocks 0 bs ≡ true → (n₀ s₀ : List ℕ) (l₀ : List ℤ)
    → blocks_in (length bs) (over (numbers_of bs) n₀) (over (sides_of bs) s₀) (over (levels_of bs) l₀) ≡ bs
unfolding pasted
held_over bs ok n₀ s₀ l₀ =
    held 0 bs ok (drop (0 + length (numbers_of bs)) n₀) (drop (0 + length (sides_of bs)) s₀) (drop (0 + length (levels_of bs)) l₀)

-- a list that was read, in the buffers that hold it
module _ (s : List ℕ) (bytes : Bytes s) (bs : List Block) (found : parse s ≡ blocks bs) (n₀ s₀ : List ℕ) (l₀ : List ℤ) (room-n : length bs ≤ length n₀)
    (room-s : 2 * length bs ≤ length s₀) (room-l : places_of bs ≤ length l₀) (out : List ℕ) (room : length s ≤ length out) where
  abbrev numbers : List ℕ
  numbers = over (numbers_of bs) n₀

  abbrev sides : List ℕ
  sides = over (sides_of bs) s₀

  abbrev levels : List ℤ
  levels = over (levels_of bs) l₀

  are : are_blocks 0 bs ≡ true
  are = (only_bytes s bytes bs found).1

  hold : blocks_in (length bs) numbers sides levels ≡ bs
  hold = held_over bs are n₀ s₀ l₀

  same : bytes_of (blocks_in (length bs) numbers sides levels) ≡ s
  same = ap bytes_of hold ∙ sym (only_bytes s bytes bs found).0

  answer_back : write_answer (length bs) numbers sides levels (length out) ≡ answers (length s)
  answer_back =
      let places : place_at sides (length bs) ≡ places_of bs = sym (places_held numbers sides levels (length bs)) ∙ ap places_of hold in
      writes (length bs) numbers sides levels (length out) (ap (are_blocks 0) hold ∙ are)
      (omega (arith, length_pasted n₀ 0 (numbers_of bs) (omega (arith, numbers_length bs))))
      (omega (arith, length_pasted s₀ 0 (sides_of bs) (omega (arith, sides_length bs))))
      (omega (arith, places, length_pasted l₀ 0 (levels_of bs) (omega (arith, levels_many 0 bs are))))
      (omega (arith, ap length same))
      ∙ ap (λ (l : List ℕ). answers (length l)) same

  bytes_back : bytes_after (length bs) numbers sides levels out ≡ over s out
  unfolding bytes_after
  bytes_back = ap₂ (λ (a : Answer) (l : List ℕ). after a (over l out) out) answer_back same

  both_back : (write_answer (length bs) (numbers_after s n₀ s₀ l₀) (sides_after s n₀ s₀ l₀) (levels_after s n₀ s₀ l₀) (length out) ≡ answers (length s))
      × (bytes_after (length bs) (numbers_after s n₀ s₀ l₀) (sides_after s n₀ s₀ l₀) (levels_after s n₀ s₀ l₀) out ≡ over s out)
  both_back =
      rw (
        numbers_left s bs found n₀ s₀ l₀ room-n room-s room-l,
        sides_left s bs found n₀ s₀ l₀ room-n room-s room-l,
        levels_left s bs found n₀ s₀ l₀ room-n room-s room-l,
      ) (answer_back, bytes_back)

pub read_written : ReadWritten
read_written s n₀ s₀ l₀ n bytes e out room =
    let r = reads (parse s) n (length n₀) (length s₀) (length l₀) e in
    rw (sym r.many) (both_back s bytes r.list r.is n₀ s₀ l₀ r.numbers_room r.sides_room r.levels_room out room)

pub both_ways : BothWays
both_ways = (written_read, read_written)
