-- `writer::write::put_listed` meets its contract. Assumes nothing.
use Rattle.std.proofs.Common.{◌≡◌, ℕ, ◌+◌, ◌-◌, ◌*◌, ◌≤◌, List, ◌++◌, ℤ, length, take, drop, sym, ap, ◌∙◌, arith, length-append}
use Rattle.format.specs.Pieces.{listed}
use Rattle.writer.specs.Write.{level_at}
use Rattle.writer.proofs.Backwards.{put_more, some_more, put_all}
use Rattle.writer.proofs.Blocks.{part_long, part_at}
use Rattle.writer.proofs.write.put_listed.Goals as goal

-- what is listed up to the end of eight levels
up_to : (levels : List ℤ) (j at : ℕ) → 8 * j ≡ at + 8 → at + 8 ≤ length levels
    → listed (8 * j) (level_at levels) ≡ listed at (level_at levels) ++ listed 8 (level_at (take (at + 8 - at) (drop at levels)))
up_to levels j at e room =
    ap (λ (k : ℕ). listed k (level_at levels)) e
    ∙ some_more at 8 (level_at levels) (level_at (take (at + 8 - at) (drop at levels))) (λ i h. sym (part_at levels at (at + 8 - at) 8 (omega arith) room i h))

pub put_eight-to-requires : goal.put_eight-to-requires
put_eight-to-requires c =
    let levels = c.args.levels.now in
    let j = c.loop-j.j in
    let at = 8 * (j - 1) in
    let p = c.loop-j.invariant in
    let room : at + 8 ≤ length levels = omega (arith, c.loop-j-test.true, c.loop-j.auto.j) in
    let more = up_to levels j at (omega (arith, c.loop-j-test.true)) room in
    let long = ap length more ∙ length-append (listed at (level_at levels)) (listed 8 (level_at (take (at + 8 - at) (drop at levels)))) in
    (part_long levels at (at + 8 - at) 8 (omega arith) room, omega (arith, p.at, c.requires.1, long), omega (arith, p.low, p.long, c.requires.2))

pub loop-j-preserved : goal.loop-j-preserved
loop-j-preserved c =
    let levels = c.args.levels.now in
    let j = c.loop-j.j in
    let at = 8 * (j - 1) in
    let p = c.loop-j.invariant in
    let put = c.put_eight-to.ensures in
    let room : at + 8 ≤ length levels = omega (arith, c.loop-j-test.true, c.loop-j.auto.j) in
    let more = up_to levels j at (omega (arith, c.loop-j-test.true)) room in
    let eight = listed 8 (level_at (take (at + 8 - at) (drop at levels))) in
    let long = ap length more ∙ length-append (listed at (level_at levels)) eight in
    put_more at (c.put_eight-to.result - 4) eight p c.requires.1 more put.starts
    (omega (arith, p.at, c.requires.1, put.starts, long)) put.out_unchanged put.out_after c.put_eight-to.auto.out

pub returns : goal.returns
returns c =
    let put = put_all c.loop-j.invariant (omega arith) in
    record { starts = put.0; out_unchanged = put.1.0; out_after = put.1.1 }
