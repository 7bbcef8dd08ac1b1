-- The numbers of refused files. Assumes nothing.
use mathlib.Core.Bool.{Bool, true, false, cond}
use mathlib.Core.Logic.{◌⊎◌, inl, inr}
use mathlib.Core.Path.{◌≡◌, sym, ap, subst, ◌∙◌}
use Prim.Native.Nat.{ℕ}
use Rattle.format.specs.Format.{parse}
use Rattle.format.specs.Exact.{Blocks, Damaged}
use Rattle.format.proofs.Parse.{decides}
use Rattle.totals.proofs.Fits.{no_refusal}
use Rattle.totals.specs.Totals.{refused, totals_of, is_long, report_of, Refusals}

pub refused_same : {j k : ℕ} → refused j ≡ refused k → k ≡ j
refused_same e = cc

pub refusals : Refusals
unfolding report_of
refusals s bytes k e = by (is_long s) e
  where
    found : Blocks s ⊎ Damaged s → totals_of (parse s) ≡ refused k → (k ≡ 10) ⊎ (k ≡ 11) ⊎ (k ≡ 12)
    found (inl b) e = no_refusal (sym (ap totals_of b.found) ∙ e)
    found (inr d) e =
        subst (λ (n : ℕ). (n ≡ 10) ⊎ (n ≡ 11) ⊎ (n ≡ 12)) (sym (refused_same (sym (ap totals_of d.found) ∙ e))) d.one

    by : (t : Bool) → cond t (refused 16) (totals_of (parse s)) ≡ refused k → (k ≡ 16) ⊎ (k ≡ 10) ⊎ (k ≡ 11) ⊎ (k ≡ 12)
    by true e = inl (refused_same e)
    by false e = inr (found (decides s bytes) e)
