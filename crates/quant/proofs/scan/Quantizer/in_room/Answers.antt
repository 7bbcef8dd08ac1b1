-- `quant::scan::Quantizer::in_room` meets its contract. Assumes nothing.
use mathlib.Core.Path.{◌≡◌, sym, ap, ◌∙◌}
use mathlib.Core.Bool.{not}
use Prim.Native.Nat.{ℕ, ◌≤◌}
use native.Mathlib.Omega.{arith}
use lib.IntN.{pos}
use lib.ListN.{length, take, replicate}
use Rattle.std.proofs.lemmas.List.{length-take-le, length-replicate}
use Rattle.answer.proofs.Answer.{kept, written}
use Rattle.quant.specs.Level.{level_by, magnitude_by}
use Rattle.quant.proofs.Scanned.{found_bad_scan, found_bad_coefficient, found_all, named_length, bad_coefficient_is, written_is}
use Rattle.quant.proofs.scan.Quantizer.in_room.Goals as goal

-- the room for the named coefficients has as many places as the scan
cut : (n m : ℕ) → n ≤ m → length (take n (replicate m (pos 0))) ≡ n
cut n m h = length-take-le n (replicate m (pos 0)) (omega (arith, length-replicate m (pos 0)))

pub returns-in_err-name_coefficients-clause-levels_after : goal.returns-in_err-name_coefficients-clause-levels_after
returns-in_err-name_coefficients-clause-levels_after g c =
    let a = c.args in
    kept _ _ (found_bad_scan a.self.width a.coefficients.now a.scan.now c.in_err-name_coefficients.ensures.1)

pub returns-in_err-name_coefficients-clause-magnitudes_after : goal.returns-in_err-name_coefficients-clause-magnitudes_after
returns-in_err-name_coefficients-clause-magnitudes_after g c =
    let a = c.args in
    kept _ _ (found_bad_scan a.self.width a.coefficients.now a.scan.now c.in_err-name_coefficients.ensures.1)

pub returns-then-not-coefficients_ok : goal.returns-then-not-coefficients_ok
returns-then-not-coefficients_ok g c =
    let a = c.args in
    let n = c.in_ok-name_coefficients.ensures in
    let bad_coefficient = sym (bad_coefficient_is a.self.width a.coefficients.now a.scan.now _ _ (cut _ _ (omega arith)) n.1) ∙ ap not (sym c.coefficients_ok.ensures ∙ c.if-not-coefficients_ok.true) in
    let e = found_bad_coefficient a.self.width a.coefficients.now a.scan.now n.0 bad_coefficient in
    record { value = e; levels_after = kept _ _ e; magnitudes_after = kept _ _ e }

pub fill-requires : goal.fill-requires
fill-requires g c =
    let a = c.args in
    let n = c.in_ok-name_coefficients.ensures in
    let e = named_length a.self.width a.coefficients.now a.scan.now _ _ (cut _ _ (omega arith)) n.1 in
    record { room = (omega arith, omega arith); in_range = sym c.coefficients_ok.ensures ∙ c.if-not-coefficients_ok.false }

pub returns : goal.returns
returns g c =
    let a = c.args in
    let s = a.self.scale in
    let n = c.in_ok-name_coefficients.ensures in
    let bad_coefficient = sym (bad_coefficient_is a.self.width a.coefficients.now a.scan.now _ _ (cut _ _ (omega arith)) n.1) ∙ ap not (sym c.coefficients_ok.ensures ∙ c.if-not-coefficients_ok.false) in
    let e = found_all a.self.width a.coefficients.now a.scan.now n.0 bad_coefficient in
    let at = written_is a.self.width a.coefficients.now a.scan.now _ _ (cut _ _ (omega arith)) n.1 in
    record {
      value = e;
      levels_after = written a.levels.now e (at a.levels.now _ (level_by s.inverse s.threshold s.bias) c.fill.ensures.levels_after);
      magnitudes_after = written a.magnitudes.now e (at a.magnitudes.now _ (magnitude_by s.inverse) c.fill.ensures.magnitudes_after);
    }
