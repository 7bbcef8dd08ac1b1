-- The report of a file, held against what the reader gives. Assumes nothing.
use mathlib.Core.Bool.{true, cond}
use mathlib.Core.List.{List, [], ◌∷◌, ◌++◌}
use mathlib.Core.Path.{◌≡◌, refl, sym, ap, ap₂, ◌∙◌}
use Prim.Native.Nat.{ℕ, ◌+◌, ◌*◌, ◌^◌}
use native.Mathlib.Omega.{arith}
use borrow.Author.Tests.{lt-leb}
use lib.IntN.{ℤ, pos, nat_abs}
use lib.ListN.{length, get_or, drop, get_or-append}
use lib.Seq.{get_or-append-add}
use Rattle.laws.proofs.Bool.{both}
use Rattle.laws.proofs.Sum.{sum_ℕ_same, sum_ℕ_add}
use Rattle.laws.specs.Store.{pasted, over}
use Rattle.laws.specs.Sum.{sum_ℕ, sum_of}
use Rattle.format.proofs.Parse.{only_bytes}
use Rattle.format.proofs.Record.{whole}
use Rattle.format.specs.Pieces.{standing, stands}
use Rattle.format.specs.Format.{Block, level_of, are_blocks, parse}
use Rattle.look.specs.Look.{places_of}
use Rattle.reader.specs.Read.{levels_of}
use Rattle.totals.specs.Totals.{nonzero_in, magnitude_in, totals, report_of}
use Rattle.records.specs.Report.{AsRead}
use Rattle.records.proofs.Both.{reads, levels_left}
use Rattle.records.proofs.Held.{levels_many}

-- a total over blocks, by any weight of a level, is the sum over their levels, one after the other
module _ (weight : ℤ → ℕ) (one : Block → ℕ) (is : (b : Block) → one b ≡ sum_ℕ (b.w * b.h) (λ p. weight (level_of b p))) where
  by_hand : (low : ℕ) (bs : List Block) → are_blocks low bs ≡ true → sum_ℕ (places_of bs) (λ p. weight (get_or (levels_of bs) p (pos 0))) ≡ sum_of one bs
  unfolding are_blocks levels_of sum_ℕ sum_of
  by_hand low [] e = refl
  by_hand low (b ∷ bs) e =
      let u = both _ _ e in
      let n = b.w * b.h in
      let long : length b.levels ≡ n = (whole b (both _ _ u.0).0).long in
      let l : (ℕ → ℕ) = λ p. weight (get_or (b.levels ++ levels_of bs) p (pos 0)) in
      sum_ℕ_add l n (places_of bs)
      ∙ ap₂ ◌+◌ (sum_ℕ_same n l (λ p. weight (level_of b p)) (λ p h. ap weight (get_or-append b.levels (levels_of bs) (pos 0) p (omega arith))))
      (sum_ℕ_same (places_of bs) (λ i. l (n + i)) (λ i. weight (get_or (levels_of bs) i (pos 0)))
      (λ i h. ap (λ (k : ℕ). weight (get_or (b.levels ++ levels_of bs) (k + i) (pos 0))) (sym long) ∙ ap weight (get_or-append-add b.levels (levels_of bs) i (pos 0)))
      ∙ by_hand (b.number + 1) bs u.1)
      ∙ ap (λ (k : ℕ). k + sum_of one bs) (sym (is b))

  -- in a buffer that they are at the front of
  pub in_buffer : (bs : List Block) → are_blocks 0 bs ≡ true → (d : List ℤ) → sum_ℕ (places_of bs) (λ p. weight (get_or (over (levels_of bs) d) p (pos 0))) ≡ sum_of one bs
  unfolding pasted
  in_buffer bs e d =
      sum_ℕ_same (places_of bs) (λ p. weight (get_or (over (levels_of bs) d) p (pos 0))) (λ p. weight (get_or (levels_of bs) p (pos 0)))
      (λ p h. ap weight (get_or-append (levels_of bs) (drop (0 + length (levels_of bs)) d) (pos 0) p (omega (arith, levels_many 0 bs e))))
      ∙ by_hand 0 bs e

nonzeros : (b : Block) → nonzero_in b ≡ sum_ℕ (b.w * b.h) (λ p. cond (stands (level_of b p)) 1 0)
unfolding nonzero_in standing
nonzeros b = refl

magnitudes : (b : Block) → magnitude_in b ≡ sum_ℕ (b.w * b.h) (λ p. nat_abs (level_of b p))
unfolding magnitude_in
magnitudes b = refl

pub as_read : AsRead
unfolding report_of
as_read s n₀ s₀ l₀ n bytes short e =
    let r = reads (parse s) n (length n₀) (length s₀) (length l₀) e in
    let bs = r.list in
    let are = (only_bytes s bytes bs r.is).1 in
    let left = levels_left s bs r.is n₀ s₀ l₀ r.numbers_room r.sides_room r.levels_room in
    let levels = in_buffer (λ l. cond (stands l) 1 0) nonzero_in nonzeros bs are l₀ in
    let sum = in_buffer nat_abs magnitude_in magnitudes bs are l₀ in
    rw (lt-leb (2 ^ 36) (length s) short, r.is, left) (λ i. totals (r.many i) (sym levels i) (sym sum i))
