-- `writer::write::put_map` meets its contract. Assumes nothing.
use Rattle.std.proofs.Common.{◌≡◌, ℕ, ◌+◌, ◌-◌, ◌*◌, ◌/◌, ◌^◌, ◌≤◌, cond, List, ℤ, length, get_or, take, drop, pos, refl, ap, ◌∙◌, arith}
use Rattle.laws.proofs.Store.{stored_none, stored_turn}
use Rattle.laws.proofs.Sum.{sum_ℕ_same}
use Rattle.laws.specs.Store.{tab}
use Rattle.laws.proofs.Filled.{filled_tab}
use Rattle.format.specs.Pieces.{packed, stands, map_of}
use Rattle.writer.specs.Write.{level_at}
use Rattle.writer.proofs.Blocks.{part_at}
use Rattle.writer.proofs.write.put_map.Goals as goal

-- byte j of the map
byte_is : (levels : List ℤ) (j : ℕ) → 8 * j + 8 ≤ length levels
    → packed (λ i. stands (level_at (take (8 * j + 8 - 8 * j) (drop (8 * j) levels)) i)) ≡ packed (λ i. stands (level_at levels (j * 8 + i)))
unfolding packed
byte_is levels j room =
    sum_ℕ_same 8 (λ i. cond (stands (level_at (take (8 * j + 8 - 8 * j) (drop (8 * j) levels)) i)) (2 ^ i) 0)
    (λ i. cond (stands (level_at levels (j * 8 + i))) (2 ^ i) 0)
    (λ i h. ap (λ (l : ℤ). cond (stands l) (2 ^ i) 0)
    (part_at levels (8 * j) (8 * j + 8 - 8 * j) 8 (omega arith) room i h ∙ ap (λ (k : ℕ). get_or levels k (pos 0)) (omega arith)))

pub loop-j-init : goal.loop-j-init
loop-j-init c = stored_none

pub loop-j-preserved : goal.loop-j-preserved
loop-j-preserved c =
    stored_turn c.loop-j.invariant refl (c.map_byte.ensures ∙ byte_is c.args.levels.now c.loop-j.j (omega (arith, c.requires, c.loop-j-test.true)))

pub returns : goal.returns
unfolding map_of
returns c =
    let n = length c.args.out.now in
    let levels = c.args.levels.now in
    let bytes : n ≡ length levels / 8 = omega (arith, c.requires) in
    filled_tab n 0 c.loop-j.invariant (omega arith) refl ∙ ap (λ (k : ℕ). tab k (λ j. packed (λ i. stands (level_at levels (j * 8 + i))))) bytes
