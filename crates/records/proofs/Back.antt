-- What the writer writes is read back: the blocks of an accepted call are blocks that have bytes. Assumes nothing.
use mathlib.Core.Bool.{true}
use mathlib.Core.List.{List}
use mathlib.Core.Path.{◌≡◌, refl, ap, ◌∙◌}
use Prim.Native.Nat.{ℕ, zero, suc, ◌+◌, ◌-◌, ◌*◌, ◌^◌, ◌≤◌, ◌<◌}
use native.Mathlib.Numerals.{add-one}
use native.Mathlib.Omega.{arith}
use borrow.Author.Tests.{le-leb, ltb-true}
use lib.Dec.{ltb}
use lib.IntN.{ℤ, pos}
use lib.ListN.{length, get_or, drop, length-drop}
use lib.Seq.{length-take-le}
use Rattle.laws.proofs.Every.{every_each}
use Rattle.laws.proofs.Tab.{tab_cons}
use Rattle.laws.specs.Store.{tab}
use Rattle.answer.specs.Answer.{answers}
use Rattle.format.proofs.Parse.{read_back}
use Rattle.format.proofs.Record.{is_block_lem}
use Rattle.format.specs.Pieces.{is_near, are_near}
use Rattle.format.specs.Format.{Block, bytes_of, is_block, are_blocks, blocks, parse}
use Rattle.writer.specs.Write.{places_at, place_at, block_from, block_at, blocks_in, write_answer}
use Rattle.writer.proofs.Admitted.{Admitted, admitted}
use Rattle.writer.proofs.Blocks.{level_from_lem, place_within, sides_at}

-- blocks whose numbers rise
rising_tab : (n : ℕ) (g : ℕ → Block) (low : ℕ) → ((k : ℕ) → k < n → is_block (g k) ≡ true) → (0 < n → low ≤ (g 0).number)
    → ((k : ℕ) → suc k < n → (g k).number < (g (suc k)).number) → are_blocks low (tab n g) ≡ true
unfolding are_blocks tab
rising_tab zero g low b l r = refl
rising_tab (suc n) g low b l r =
    ap (are_blocks low) (tab_cons n g)
    ∙ rw (b 0 (omega arith), le-leb low (g 0).number (l (omega arith)))
    (rising_tab n (λ k. g (suc k)) ((g 0).number + 1) (λ k h. b (suc k) (omega arith)) (λ h. omega (arith, r 0 (omega arith))) (λ k h. r (suc k) (omega arith)))

module _ (count : ℕ) (numbers sides : List ℕ) (levels : List ℤ) (room : ℕ) (small : (i : ℕ) → get_or numbers i 0 < 2 ^ 32)
    (ok : Admitted count numbers sides levels room) where
  is_whole : (k : ℕ) → k < count → is_block (block_at numbers sides levels k) ≡ true
  unfolding are_near block_at block_from
  is_whole k h =
      let place = place_at sides k in
      let s = sides_at count sides ok.sided k h in
      let inside : place + places_at sides k ≤ place_at sides count = place_within sides count k h in
      is_block_lem (block_at numbers sides levels k)
      (record {
        small = small k;
        wide_ok = s.0;
        high_ok = s.1;
        long = length-take-le (places_at sides k) (drop place levels) (omega (arith, length-drop place levels, ok.placed));
        near = λ p b.
            ap is_near (level_from_lem (get_or numbers k 0) (get_or sides (2 * k) 0) (get_or sides (2 * k + 1) 0) levels place p b)
            ∙ every_each (place_at sides count) (λ q. is_near (get_or levels q (pos 0))) ok.near (place + p) (omega arith);
      })

  rises : (k : ℕ) → suc k < count → (block_at numbers sides levels k).number < (block_at numbers sides levels (suc k)).number
  unfolding block_at block_from
  rises k h =
      let t = ltb-true (get_or numbers k 0) (get_or numbers (k + 1) 0) (every_each (count - 1) (λ k. ltb (get_or numbers k 0) (get_or numbers (k + 1) 0)) ok.rising k (omega arith)) in
      omega (arith, t, ap (λ (i : ℕ). get_or numbers i 0) (add-one k))

  pub are_blocks_lem : are_blocks 0 (blocks_in count numbers sides levels) ≡ true
  unfolding blocks_in
  are_blocks_lem = rising_tab count (block_at numbers sides levels) 0 is_whole (λ h. omega arith) rises

-- the bytes that an accepted call writes are read back to its blocks
pub written_reads : (count : ℕ) (numbers sides : List ℕ) (levels : List ℤ) (room m : ℕ) → ((i : ℕ) → get_or numbers i 0 < 2 ^ 32)
    → answers m ≡ write_answer count numbers sides levels room
    → parse (bytes_of (blocks_in count numbers sides levels)) ≡ blocks (blocks_in count numbers sides levels)
unfolding write_answer
written_reads count numbers sides levels room m small e =
    read_back (blocks_in count numbers sides levels)
    (are_blocks_lem count numbers sides levels room small (admitted count numbers sides levels room m (length (bytes_of (blocks_in count numbers sides levels))) e))
