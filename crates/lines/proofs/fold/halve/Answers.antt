-- `lines::halve` meets its contract. Assumes nothing.
use mathlib.Core.Path.{◌∙◌}
use Prim.Native.Nat.{◌*◌}
use lib.IntN.{pos}
use lib.ListN.{length, take, replicate}
use Rattle.std.proofs.lemmas.List.{get_or-take, length-take-le}
use native.Mathlib.Omega.{arith}
use Rattle.lines.specs.Line.{line_at, place, rounded}
use Rattle.lines.specs.Table.{square_at}
use Rattle.lines.proofs.Chain.{spread_out}
use Rattle.lines.proofs.fold.halve.Goals as goal

pub returns : goal.returns
returns c =
    let a = c.args in
    let h = length a.s.now in
    let t = a.setup.now in
    let d = take h c.fold.new.d in
    record {
      ds = d;
      butterfly = record {
        sums = c.fold.ensures.sums;
        diffs = λ k b. get_or-take h c.fold.new.d k (pos 0) b ∙ c.fold.ensures.diffs k b;
      };
      odd = spread_out h (place a.step (2 * a.step)) (rounded t.rounding.shift.bits h t.numbers.now (square_at h) (line_at d 0 1)) (replicate 16 (pos 0)) a.o.now c.requires.few
          (rw (c.whole.ensures.0, c.whole.ensures.1, c.whole.ensures.2, c.whole.ensures.3 ∙ length-take-le h c.fold.new.d (omega (arith, c.requires.few, c.fold.auto.d))) at c.square_sums.ensures) c.spread.ensures;
    }
