-- `wht::run` meets its contract: two passes are the columns and the rows. Assumes nothing.
use mathlib.Core.Path.{sym, ap, ◌∙◌, subst}
use mathlib.Core.List.{List}
use Prim.Native.Nat.{◌^◌}
use native.Mathlib.Omega.{arith}
use lib.Dec.{lit≤}
use lib.IntN.{ℤ, pos}
use lib.ListN.{get_or}
use Rattle.laws.proofs.Laid.{laid_ext}
use Rattle.wht.specs.Turned.{Sized}
use Rattle.wht.specs.Wht.{wht_of}
use Rattle.wht.proofs.Turned.{turned_twice, first_at, first_sized, sized}
use Rattle.wht.proofs.run.Goals as goal

pub pass-requires : goal.pass-requires
pass-requires c = record { in_bounds = (c.requires.0, lit≤ tt); sized = sized _ c.requires.2 }

pub pass-requires-2 : goal.pass-requires-2
pass-requires-2 c =
    let at-pass = c.before.before.before in
    let start = at-pass.before.before in
    record {
      in_bounds = (omega arith, start.requires.1);
      sized = subst (Sized (2 ^ 20)) (sym at-pass.pass.ensures) (first_sized _ start.args.residuals.now (lit≤ tt) start.requires.2);
    }

pub returns : goal.returns
returns c =
    let at-pass = c.before.before.before.before.before in
    let a = at-pass.args in
    c.pass-2.ensures
    ∙ laid_ext a.output.now 0 16 _ (wht_of a.residuals.now)
    (turned_twice a.residuals.now _ (λ k h. ap (λ (l : List ℤ). get_or l k (pos 0)) at-pass.pass.ensures ∙ first_at _ a.residuals.now (lit≤ tt) k h))
