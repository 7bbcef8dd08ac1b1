-- Which report a file has, and what putting its text leaves. Assumes nothing.
use mathlib.Core.Bool.{Bool, true, false, ◌||◌}
use mathlib.Core.List.{List}
use mathlib.Core.Logic.{◌⊎◌, inl, inr, ⊎_elim}
use mathlib.Core.Path.{◌≡◌, refl, sym, ap, ◌∙◌}
use Prim.Native.Nat.{ℕ, ◌≤◌}
use native.Mathlib.Omega.{arith}
use lib.Dec.{ltb}
use lib.ListN.{length}
use Rattle.io.proofs.Counting.{prefix_len_of_le}
use Rattle.io.specs.Counts.{IsPrefixLen}
use Rattle.laws.proofs.Bool.{decided}
use Rattle.laws.proofs.Pasted.{length_pasted}
use Rattle.totals.proofs.Refusals.{refused_same, refusals}
use Rattle.totals.specs.Totals.{Reported, refused, report_of}
use Rattle.report.specs.Text.{text_of, file_report, PrintedAs, NeverThree}
use Rattle.report.proofs.Decimal.{text_length}

module _ (failed : Bool) (s : List ℕ) where
  pub not_read : (failed || ltb 65536 (length s)) ≡ true → file_report failed s ≡ refused 16
  unfolding file_report
  not_read e = rw e

  pub was_read : (failed || ltb 65536 (length s)) ≡ false → file_report failed s ≡ report_of s
  unfolding file_report
  was_read e = rw e

pub never_three : NeverThree
never_three failed s bytes e =
    ⊎_elim
    (λ t. other 3 refl (inl (refused_same (sym (not_read failed s t) ∙ e))))
    (λ t. other 3 refl (refusals s bytes 3 (sym (was_read failed s t) ∙ e)))
    (decided (failed || ltb 65536 (length s)))
  where
    other : (k : ℕ) → k ≡ 3 → (k ≡ 16) ⊎ (k ≡ 10) ⊎ (k ≡ 11) ⊎ (k ≡ 12) → ⊥
    other k is (inl e) = omega arith
    other k is (inr (inl e)) = omega arith
    other k is (inr (inr (inl e))) = omega arith
    other k is (inr (inr (inr e))) = omega arith

-- a text's length is a place of the buffer that it stands in
pub printed_front : {report : Reported} {old new : List ℕ} {n : ℕ} → PrintedAs report old n new → 87 ≤ length old → IsPrefixLen n new
printed_front {report} {old} {new} {n} p room =
    let fits = text_length report in
    prefix_len_of_le n new (omega (arith, p.value, ap length p.out_after, length_pasted old 0 (text_of report) (omega arith)))
