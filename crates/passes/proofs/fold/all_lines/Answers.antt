-- `passes::all_lines` meets its contract. Assumes nothing.
use mathlib.Core.Path.{◌∙◌}
use Prim.Native.Nat.{ℕ, ◌*◌, ◌≤◌}
use native.Mathlib.Nat.{mul_comm, zero-add}
use native.Mathlib.Omega.{arith}
use lib.IntN.{pos}
use lib.ListN.{drop, replicate, length-append, length-drop, length-replicate}
use Rattle.std.proofs.lemmas.List.{length-take-le}
use Rattle.sizes.proofs.Side.{side_bounds}
use Rattle.lines.specs.Room.{PassRoom}
use Rattle.passes.proofs.Stages.{whole_asked}
use Rattle.passes.proofs.Turned.{turned}
use Rattle.passes.proofs.fold.all_lines.Goals as goal

-- the numbers of the lines, and their places in dst
fits : {n lines ls ld : ℕ} → PassRoom n lines 0 lines ls ld → (n * lines ≤ ls) × (lines * n ≤ ld)
fits {lines = lines} r = let s = r.src in (omega arith, rw (zero-add lines) at r.dst)

pub dct_fold-requires : goal.dct_fold-requires
dct_fold-requires g c =
    let n = g.row.N in
    let lines = c.args.source.now.lines in
    let r = c.requires in
    let f = fits r.lines.1 in
    let long = length-take-le (n * lines) c.args.dst.now (omega (arith, f.1, mul_comm n lines)) in
    whole_asked n r.side.0 r.side.1 r.lines.0 f.0 (omega arith) (omega (arith, length-replicate g.row.S (pos 0), r.room.1))

pub to_lines-requires : goal.to_lines-requires
to_lines-requires g c =
    let n = g.row.N in
    let lines = c.args.source.now.lines in
    let d = c.args.dst.now in
    let r = c.requires in
    let f = fits r.lines.1 in
    let long = length-take-le (n * lines) d (omega (arith, f.1, mul_comm n lines)) in (
      (side_bounds n r.side.0).high,
      (side_bounds lines r.lines.0).high,
      omega (arith, c.dct_fold.auto.o, length-replicate g.row.S (pos 0), r.room.1),
      omega (arith, f.1, length-append c.dct_fold.new.work (drop (n * lines) d), length-drop (n * lines) d, c.dct_fold.auto.work, mul_comm n lines),
    )

pub returns : goal.returns
returns g c =
    let n = g.row.N in
    let a = c.args in
    let s = a.source.now in
    let r = c.requires in
    let f = fits r.lines.1 in
    let b = side_bounds n r.side.0 in
    let zeros = replicate g.row.S (pos 0) in
    let long = length-take-le (n * s.lines) a.dst.now (omega (arith, f.1, mul_comm n s.lines)) in
    turned n a.setup.now.rounding.shift.bits s.lines s.numbers.now c.dct_fold.new.work a.dst.now zeros (omega (arith, b.low)) (omega (arith, length-replicate g.row.S (pos 0), r.room.1))
    (c.dct_fold.auto.work ∙ long) f.1 c.dct_fold.ensures c.to_lines.ensures
