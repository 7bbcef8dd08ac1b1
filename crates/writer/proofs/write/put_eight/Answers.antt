-- `writer::write::put_eight` meets its contract. Assumes nothing.
use Rattle.std.proofs.Common.{◌≡◌, ◌-◌, ◌++◌, ℤ, sym, ap, ◌∙◌, to_z, of_z, w32, to_z-of_z, arith}
use Rattle.format.proofs.Bits.{packed_none}
use Rattle.format.proofs.Listed.{listed_none}
use Rattle.format.specs.Pieces.{stands, bytes_for, listed}
use Rattle.writer.specs.Write.{level_at}
use Rattle.writer.proofs.Backwards.{put_more, one_more, put_all, put_empty}
use Rattle.writer.proofs.write.put_eight.Goals as goal

pub returns-then-map_byte-eq0 : goal.returns-then-map_byte-eq0
returns-then-map_byte-eq0 c =
    let a = c.args in
    let f = level_at a.levels.now in
    let put = put_empty f 8 a.out.now a.end (listed_none 8 f (packed_none (λ i. stands (f i)) (sym c.map_byte.ensures ∙ c.if-map_byte-eq0.true))) in
    record { starts = put.0; out_unchanged = put.1.0; out_after = put.1.1 }

pub loop-i-preserved : goal.loop-i-preserved
loop-i-preserved c =
    let l = c.loop-i in
    let f = level_at c.args.levels.now in
    let i = l.i - 1 in
    let p = l.invariant in
    let level : to_z w32 (of_z w32 (f i)) ≡ f i = to_z-of_z {w = w32} (record { sfits = omega arith }) in
    let put = c.put_level-to.ensures in
    put_more i (l.to - 4) (bytes_for (to_z w32 (of_z w32 (f i)))) p c.requires.1
    (one_more l.i f (omega (arith, c.loop-i-test.true)) ∙ ap (λ (x : ℤ). listed i f ++ bytes_for x) (sym level))
    put.starts (omega (arith, p.at, c.requires.1)) put.out_unchanged put.out_after c.put_level-to.auto.out

pub returns : goal.returns
returns c =
    let put = put_all c.loop-i.invariant (omega arith) in
    record { starts = put.0; out_unchanged = put.1.0; out_after = put.1.1 }
