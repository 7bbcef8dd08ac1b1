-- `lines::widen_odd_squares` meets its contract. Assumes nothing.
use mathlib.Core.Path.{◌≡◌, sym, subst}
use mathlib.Core.List.{List}
use Prim.Native.Nat.{◌+◌, ◌^◌, ◌<◌}
use native.Mathlib.Nat.{div-le_self}
use native.Mathlib.Omega.{arith}
use lib.IntN.{ℤ}
use lib.Pow.{pow_pos}
use Rattle.laws.proofs.Machine.{one_shl}
use Rattle.lines.proofs.Squares.{Widened, few_rows, odd_row_ends, square_room, none_yet, one_more, all_squares}
use Rattle.lines.proofs.wide.widen_odd_squares.Goals as goal

pub loop-d-init : goal.loop-d-init
loop-d-init c = none_yet

pub square_at-requires : goal.square_at-requires
square_at-requires c =
    let d = c.loop-d.d in
    let t = c.loop-d-test.true in
    rw (one_shl 64 d (omega (arith, c.requires.0))) (few_rows d (omega (arith, c.requires.0)))

pub widen_square-requires : goal.widen_square-requires
widen_square-requires c =
    let d = c.loop-d.d in
    let t = c.loop-d-test.true in
    let b : d < 5 = omega (arith, c.requires.0) in
    rw (c.square_at.ensures, one_shl 64 d (omega arith), c.dct32.ensures)
    (record {
      size = (pow_pos d, few_rows d b);
      places = (div-le_self 512 (2 ^ d), div-le_self 1024 (2 ^ d), square_room d c.args.folds t (omega (arith, c.requires.1, c.loop-d.auto.wide)));
      rows = λ r h. odd_row_ends d r b h;
    })

pub loop-d-preserved : goal.loop-d-preserved
loop-d-preserved c =
    let d = c.loop-d.d in
    let t = c.loop-d-test.true in
    subst (λ (l : List ℤ). Widened (d + 1) l c.args.wide.now) (sym (rw (c.square_at.ensures, one_shl 64 d (omega arith), c.dct32.ensures) at c.widen_square.ensures))
    (one_more c.loop-d.invariant (omega (arith, c.requires.0)) (square_room d c.args.folds t c.requires.1))

pub returns : goal.returns
returns c = let e : c.loop-d.d ≡ c.args.folds = omega arith in rw e at (all_squares c.loop-d.invariant)
