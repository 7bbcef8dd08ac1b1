-- A line by dense sums. Assumes nothing.
use mathlib.Core.Path.{◌≡◌, ap, ◌∙◌}
use Prim.Native.Nat.{◌*◌}
use native.Mathlib.Omega.{arith}
use lib.IntN.{pos}
use lib.ListN.{length, replicate, length-replicate}
use Rattle.laws.proofs.Pasted.{copied}
use Rattle.lines.proofs.PassLine.{dense_line, length_by_sample}
use Rattle.lines.proofs.dense.DenseTransform.line.Goals as goal

pub invariant_of-square : goal.invariant_of-square
invariant_of-square g c = record { inside = omega (arith, ap length c.args.self.now.kernel, length_by_sample g.row.KIND g.row.N) }

pub returns : goal.returns
returns g c =
    let a = c.args in
    let s = a.source.now in
    let n = g.row.N in
    let long : length c.sums.new.y ≡ n = c.sums.auto.y ∙ length-replicate n (pos 0) in
    let all = rw (c.line.ensures.0, c.line.ensures.1, c.line.ensures.2) at c.sums.ensures in
    dense_line g.row.KIND n s.lines a.j a.self.now.setup.rounding.shift.bits s.numbers.now a.self.now.kernel a.to (replicate n (pos 0)) a.dst.now (omega (arith, length-replicate n (pos 0))) all
    (copied a.dst.now (a.to * n) n (pos 0) long c.copy_from_slice.ensures.after c.requires.dst)
