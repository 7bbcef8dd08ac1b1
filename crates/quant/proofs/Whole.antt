-- A call over a scan that numbers 1, 3 and 7 don't refuse gives and writes what its scan makes of it. Assumes nothing.
use mathlib.Core.Path.{◌≡◌, ap, ap₂, ◌∙◌}
use mathlib.Core.List.{List}
use Prim.Native.Nat.{ℕ}
use lib.Ieee.{Float}
use lib.ListN.{length}
use Rattle.answer.specs.Answer.{Answer, answers, after}
use Rattle.quant.specs.Level.{IsScale, level_by, level_at, magnitude_by, magnitude_at}
use Rattle.quant.specs.Scan.{named_answer, scanned}
use Rattle.quant.proofs.Scanned.{Call, first_answer, answer, by_its_scan}

module _ (k : Call) (width : ℕ) (inverse threshold bias : Float)
    (is : (width ≡ k.width) × IsScale k.settings k.step inverse threshold bias × (answers (length k.scan) ≡ first_answer k)) where
  its_scan : named_answer width k.coefficients k.scan ≡ answer k
  its_scan = ap (λ (w : ℕ). named_answer w k.coefficients k.scan) is.0 ∙ by_its_scan k (length k.scan) is.2

  pub the_answer : {a : Answer} → a ≡ named_answer width k.coefficients k.scan → a ≡ answer k
  the_answer e = e ∙ its_scan

  levels_scanned : (buffer : List Float) → scanned (level_by inverse threshold bias) width k.coefficients k.scan buffer ≡ scanned (level_at k.settings k.step) k.width k.coefficients k.scan buffer
  unfolding level_at
  levels_scanned buffer = rw (is.0, is.1.0, is.1.1, is.1.2)

  magnitudes_scanned : (buffer : List Float) → scanned (magnitude_by inverse) width k.coefficients k.scan buffer ≡ scanned (magnitude_at k.settings k.step) k.width k.coefficients k.scan buffer
  unfolding magnitude_at
  magnitudes_scanned buffer = rw (is.0, is.1.0)

  pub the_levels : (buffer new : List Float)
      → new ≡ after (named_answer width k.coefficients k.scan) (scanned (level_by inverse threshold bias) width k.coefficients k.scan buffer) buffer
      → new ≡ after (answer k) (scanned (level_at k.settings k.step) k.width k.coefficients k.scan buffer) buffer
  the_levels buffer new e = e ∙ ap₂ (λ (a : Answer) (l : List Float). after a l buffer) its_scan (levels_scanned buffer)

  pub the_magnitudes : (buffer new : List Float)
      → new ≡ after (named_answer width k.coefficients k.scan) (scanned (magnitude_by inverse) width k.coefficients k.scan buffer) buffer
      → new ≡ after (answer k) (scanned (magnitude_at k.settings k.step) k.width k.coefficients k.scan buffer) buffer
  the_magnitudes buffer new e = e ∙ ap₂ (λ (a : Answer) (l : List Float). after a l buffer) its_scan (magnitudes_scanned buffer)
