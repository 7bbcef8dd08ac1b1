-- `sizes::ends_past` meets its contract. Assumes nothing.
use mathlib.Core.Path.{sym}
use Prim.Native.Nat.{◌+◌, ◌-◌}
use native.Mathlib.Omega.{arith}
use borrow.Author.Tests.{lt-ltb, ltb-true}
use lib.Dec.{ltb}
use Rattle.laws.proofs.Bool.{same_test}
use Rattle.sizes.proofs.ends_past.Goals as goal

pub returns-then-lines-count : goal.returns-then-lines-count
returns-then-lines-count c = let a = c.args in sym (lt-ltb a.lines (a.start + a.count) (omega arith))

pub returns : goal.returns
returns c =
    let a = c.args in
    same_test (ltb (a.lines - a.count) a.start) (ltb a.lines (a.start + a.count))
    (λ e. lt-ltb a.lines (a.start + a.count) (omega (arith, ltb-true (a.lines - a.count) a.start e)))
    (λ e. lt-ltb (a.lines - a.count) a.start (omega (arith, ltb-true a.lines (a.start + a.count) e)))
