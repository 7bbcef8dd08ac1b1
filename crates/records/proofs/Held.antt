-- The list of blocks that buffers hold, both ways: the buffers' numbers from the list, and the list from the buffers. Assumes nothing.
use mathlib.Core.Bool.{true, ◌&&◌}
use mathlib.Core.List.{List, [], ◌∷◌, ◌++◌, append_assoc}
use mathlib.Core.Path.{◌≡◌, refl, sym, ap, ap₂, ◌∙◌}
use Prim.Native.Nat.{ℕ, zero, suc, ◌+◌, ◌*◌, ◌≤◌}
use native.Mathlib.Numerals.{add-one}
use native.Mathlib.Omega.{arith}
use lib.Dec.{leb}
use lib.IntN.{ℤ}
use lib.ListN.{length, get_or, take, drop, length-append}
use lib.Seq.{take-suc, take-add, take_at, drop_at, drop-drop}
use Rattle.laws.proofs.Bool.{both}
use Rattle.laws.proofs.Tab.{tab_cons}
use Rattle.laws.proofs.Laid.{tab_ext}
use Rattle.laws.specs.Store.{tab}
use Rattle.laws.proofs.Sum.{sum_of_more}
use Rattle.laws.specs.Sum.{sum_ℕ, sum_of}
use Rattle.format.proofs.Record.{whole}
use Rattle.format.specs.Format.{Block, is_block, are_blocks}
use Rattle.look.specs.Look.{area_of, places_of}
use Rattle.reader.specs.Read.{numbers_of, sides_of, levels_of}
use Rattle.writer.specs.Write.{block_from, places_at, place_at, block_at, blocks_in}
use Rattle.reader.proofs.Filling.{numbers_more, sides_more, levels_more}

-- ---- from buffers

module _ (numbers sides : List ℕ) (levels : List ℤ) where
  pub numbers_held : (n : ℕ) → n ≤ length numbers → numbers_of (blocks_in n numbers sides levels) ≡ take n numbers
  unfolding blocks_in tab numbers_of block_at block_from
  numbers_held zero h = refl
  numbers_held (suc n) h =
      numbers_more (blocks_in n numbers sides levels) (block_at numbers sides levels n)
      ∙ ap (λ (l : List ℕ). l ++ (get_or numbers n 0 ∷ [])) (numbers_held n (omega arith)) ∙ sym (take-suc numbers n 0 h)

  pub sides_held : (n : ℕ) → 2 * n ≤ length sides → sides_of (blocks_in n numbers sides levels) ≡ take (2 * n) sides
  unfolding blocks_in tab sides_of block_at block_from
  sides_held zero h = refl
  sides_held (suc n) h =
      let w = get_or sides (2 * n) 0 in
      let b = get_or sides (2 * n + 1) 0 in
      let next : suc (2 * n + 1) ≡ 2 * suc n = omega arith in
      sides_more (blocks_in n numbers sides levels) (block_at numbers sides levels n)
      ∙ sym (append_assoc (sides_of (blocks_in n numbers sides levels)) (w ∷ []) (b ∷ []))
      ∙ ap (λ (l : List ℕ). l ++ (w ∷ []) ++ (b ∷ [])) (sides_held n (omega arith))
      ∙ ap (λ (l : List ℕ). l ++ (b ∷ [])) (sym (take-suc sides (2 * n) 0 (omega arith)) ∙ ap (λ (k : ℕ). take k sides) (sym (add-one (2 * n))))
      ∙ sym (take-suc sides (2 * n + 1) 0 (omega arith)) ∙ ap (λ (k : ℕ). take k sides) next

  pub levels_held : (n : ℕ) → levels_of (blocks_in n numbers sides levels) ≡ take (place_at sides n) levels
  unfolding blocks_in tab levels_of block_at block_from place_at sum_ℕ
  levels_held zero = refl
  levels_held (suc n) =
      levels_more (blocks_in n numbers sides levels) (block_at numbers sides levels n)
      ∙ ap (λ (l : List ℤ). l ++ take (places_at sides n) (drop (place_at sides n) levels)) (levels_held n)
      ∙ sym (take-add (place_at sides n) (places_at sides n) levels)

  pub places_held : (n : ℕ) → places_of (blocks_in n numbers sides levels) ≡ place_at sides n
  unfolding blocks_in tab sum_of block_at block_from place_at sum_ℕ
  places_held zero = refl
  places_held (suc n) =
      sum_of_more area_of (blocks_in n numbers sides levels) (block_at numbers sides levels n) ∙ ap (λ (k : ℕ). k + places_at sides n) (places_held n)

-- ---- to buffers

-- the next pair of sides
pair : (w h : ℕ) (s : List ℕ) (k : ℕ) → (get_or (w ∷ h ∷ s) (2 * suc k) 0 ≡ get_or s (2 * k) 0) × (get_or (w ∷ h ∷ s) (2 * suc k + 1) 0 ≡ get_or s (2 * k + 1) 0)
pair w h s k =
    let a : 2 * suc k ≡ suc (suc (2 * k)) = omega arith in
    let b : 2 * suc k + 1 ≡ suc (suc (2 * k + 1)) = omega arith in
    (ap (λ (i : ℕ). get_or (w ∷ h ∷ s) i 0) a, ap (λ (i : ℕ). get_or (w ∷ h ∷ s) i 0) b)

place_next : (w h : ℕ) (s : List ℕ) (k : ℕ) → place_at (w ∷ h ∷ s) (suc k) ≡ w * h + place_at s k
unfolding place_at sum_ℕ
place_next w h s zero = omega arith
place_next w h s (suc k) = let e = pair w h s k in omega (arith, place_next w h s k, ap₂ ◌*◌ e.0 e.1)

block_next : (n w h : ℕ) (ns ss : List ℕ) (l ls : List ℤ) → length l ≡ w * h → (k : ℕ)
    → block_at (n ∷ ns) (w ∷ h ∷ ss) (l ++ ls) (suc k) ≡ block_at ns ss ls k
unfolding block_at block_from
block_next n w h ns ss l ls e k =
    let p = pair w h ss k in
    let d : drop (place_at (w ∷ h ∷ ss) (suc k)) (l ++ ls) ≡ drop (place_at ss k) ls =
    ap (λ (i : ℕ). drop i (l ++ ls)) (place_next w h ss k) ∙ sym (drop-drop (place_at ss k) (w * h) (l ++ ls)) ∙ ap (drop (place_at ss k)) (drop_at l ls (w * h) e) in
    λ i. record { number = get_or ns k 0; w = p.0 i; h = p.1 i; levels = take (p.0 i * p.1 i) (d i) }

block_first : (b : Block) (ns ss : List ℕ) (ls : List ℤ) → length b.levels ≡ b.w * b.h → block_at (b.number ∷ ns) (b.w ∷ b.h ∷ ss) (b.levels ++ ls) 0 ≡ b
unfolding block_at block_from place_at sum_ℕ
block_first b ns ss ls e = λ i. record { number = b.number; w = b.w; h = b.h; levels = take_at b.levels ls (b.w * b.h) e i }

-- blocks that have bytes are held by their numbers, sides and levels, whatever is behind these
pub held : (low : ℕ) (bs : List Block) → are_blocks low bs ≡ true → (ns ss : List ℕ) (ls : List ℤ)
    → blocks_in (length bs) (numbers_of bs ++ ns) (sides_of bs ++ ss) (levels_of bs ++ ls) ≡ bs
unfolding are_blocks blocks_in numbers_of sides_of levels_of tab
held low [] e ns ss ls = refl
held low (b ∷ bs) e ns ss ls =
    let u = both _ _ e in
    let long = (whole b (both _ _ u.0).0).long in
    let n = numbers_of bs ++ ns in
    let s = sides_of bs ++ ss in
    let l = levels_of bs ++ ls in
    ap (λ (x : List ℤ). tab (suc (length bs)) (block_at (b.number ∷ n) (b.w ∷ b.h ∷ s) x)) (append_assoc b.levels (levels_of bs) ls)
    ∙ tab_cons (length bs) (block_at (b.number ∷ n) (b.w ∷ b.h ∷ s) (b.levels ++ l))
    ∙ ap₂ (λ (x : Block) (y : List Block). x ∷ y) (block_first b n s l long)
    (tab_ext (length bs) (λ k. block_at (b.number ∷ n) (b.w ∷ b.h ∷ s) (b.levels ++ l) (suc k)) (block_at n s l) (λ k h. block_next b.number b.w b.h n s b.levels l long k)
    ∙ held (b.number + 1) bs u.1 ns ss ls)

-- as many levels as places
pub levels_many : (low : ℕ) (bs : List Block) → are_blocks low bs ≡ true → length (levels_of bs) ≡ places_of bs
unfolding are_blocks levels_of sum_of
levels_many low [] e = refl
levels_many low (b ∷ bs) e =
    let u = both (is_block b && leb low b.number) (are_blocks (b.number + 1) bs) e in
    omega (arith, length-append b.levels (levels_of bs), (whole b (both (is_block b) (leb low b.number) u.0).0).long, levels_many (b.number + 1) bs u.1)
