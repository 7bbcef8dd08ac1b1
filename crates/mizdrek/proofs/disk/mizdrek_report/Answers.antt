-- `mizdrek::disk::mizdrek_report` meets its contract: each arm by what the call it wraps said. Assumes nothing.
use mathlib.Core.Path.{◌≡◌, sym, ap, subst, ◌∙◌}
use Prim.Native.Nat.{◌^◌}
use borrow.Author.Rules.{rules}
use borrow.Author.Tests.{lt-ltb}
use lib.Dec.{T}
use Rattle.totals.proofs.Fits.{blocks_small}
use Rattle.totals.specs.Totals.{Reported, reported}
use Rattle.totals.specs.declared.Totals.{Totals}
use Rattle.answer.specs.declared.Refusal.{Refusal}
use Rattle.std.specs.Prelude.{Result}
use Rattle.mizdrek.specs.Reported.{signed_report, levels_given, sum_given}
use Rattle.mizdrek.proofs.disk.mizdrek_report.Goals as goal

-- what the call found, by the arm that its result is
arm : {q r : Result Totals Refusal} {s : Reported} → q ≡ r → reported q ≡ s → reported r ≡ s
arm is e = sym (ap reported is) ∙ e

pub signed-requires-in-Ok : goal.signed-requires-in-Ok
signed-requires-in-Ok c =
    let t = c.in-Ok.t in
    let e = arm c.in-Ok.is c.add_up.ensures in
    subst T (sym (lt-ltb t.blocks (2 ^ 63) (blocks_small c.args.bytes.now t.blocks t.levels t.magnitude e))) tt

pub returns-in-Err : goal.returns-in-Err
returns-in-Err c =
    let a = c.args in
    let e = arm c.in-Err.is c.add_up.ensures in
    record {
      value = search rules ∙ c.signed.ensures ∙ ap signed_report e;
      levels_after = ap (λ (x : Reported). levels_given x a.levels.now) e;
      magnitude_after = ap (λ (x : Reported). sum_given x a.magnitude.now) e;
    }

pub returns-in-Ok : goal.returns-in-Ok
returns-in-Ok c =
    let a = c.args in
    let e = arm c.in-Ok.is c.add_up.ensures in
    record {
      value = search rules ∙ c.signed-in-Ok.ensures ∙ ap signed_report e;
      levels_after = ap (λ (x : Reported). levels_given x a.levels.now) e;
      magnitude_after = ap (λ (x : Reported). sum_given x a.magnitude.now) e;
    }
