-- A line of a DCT by stages. Assumes nothing.
use mathlib.Core.Path.{◌≡◌, ◌∙◌}
use Prim.Native.Nat.{◌*◌}
use native.Mathlib.Omega.{arith}
use lib.IntN.{pos}
use lib.ListN.{length, replicate, length-replicate}
use Rattle.laws.proofs.Pasted.{copied}
use Rattle.lines.proofs.PassLine.{dct_line}
use Rattle.lines.proofs.Chain.{whole_asked, whole_completed}
use Rattle.lanes.proofs.dct.DctTransform.line.Goals as goal

pub run-requires : goal.run-requires
run-requires g c =
    let n = g.row.N in
    let t = c.args.self.now in
    rw t.whole (whole_asked n c.requires.side t.squares c.line.ensures.3 (omega (arith, length-replicate n (pos 0))))

pub returns : goal.returns
returns g c =
    let a = c.args in
    let s = a.source.now in
    let bits = a.self.now.setup.rounding.shift.bits in
    let n = g.row.N in
    let zeros = replicate n (pos 0) in
    let full = length-replicate n (pos 0) in
    let long : length c.run.new.o ≡ n = c.run.auto.o ∙ full in
    let all = rw (a.self.now.whole, c.line.ensures.0, c.line.ensures.1, c.line.ensures.2) at c.run.ensures in
    dct_line n bits s.lines a.j a.to s.numbers.now a.dst.now (whole_completed n bits zeros (omega arith) all)
    (copied a.dst.now (a.to * n) n (pos 0) long c.copy_from_slice.ensures.after c.requires.dst)
