-- `quant::scan::quantize_to_levels` meets its contract. Assumes nothing.
use mathlib.Core.Path.{◌∙◌}
use native.Mathlib.Omega.{arith}
use contract.Lifetimes.{Lfts}
use borrow.Author.Tests.{not-false}
use lib.Dec.{lit≤}
use lib.ListN.{length}
use Rattle.answer.proofs.Answer.{kept}
use Rattle.quant.specs.Scan.{levels_after, magnitudes_after}
use Rattle.quant.proofs.Places.{too_long}
use Rattle.quant.proofs.Scanned.{Call, first_refuses, first_passed, by_its_scan, found_bad_scan}
use Rattle.quant.proofs.Whole.{the_answer, the_levels, the_magnitudes}
use Rattle.quant.proofs.scan.quantize_to_levels.Goals as goal
use Rattle.quant.proofs.scan.quantize_to_levels.Lts as lts
use Rattle.quant.proofs.scan.quantize_to_levels.Reads as reads
use Rattle.quant.proofs.scan.quantize_to_levels.Tie as tie

abbrev call : {l : Lfts 4} → lts.Args tie.the-claims reads.Pre reads.Post tie.handed_clauses l → Call
call a =
    record { width = a.width; step = a.step; settings = a.settings; coefficients = a.coefficients.now; scan = a.scan.now; levels = length a.levels.now; magnitudes = length a.magnitudes.now }

pub returns-in_err-quantizer-clause-levels_after : goal.returns-in_err-quantizer-clause-levels_after
unfolding levels_after
returns-in_err-quantizer-clause-levels_after c =
    let a = c.args in
    kept _ _ (first_refuses _ a.width a.step a.settings a.coefficients.now a.scan.now _ _ c.in_err-quantizer.ensures)

pub returns-in_err-quantizer-clause-magnitudes_after : goal.returns-in_err-quantizer-clause-magnitudes_after
unfolding magnitudes_after
returns-in_err-quantizer-clause-magnitudes_after c =
    let a = c.args in
    kept _ _ (first_refuses _ a.width a.step a.settings a.coefficients.now a.scan.now _ _ c.in_err-quantizer.ensures)

pub in_room-requires : goal.in_room-requires
in_room-requires c =
    let k = first_passed (call c.args) _ c.in_ok-quantizer.ensures.2 in
    (lit≤ tt, c.if-n-le64.true, k.levels_room, k.magnitudes_room)

pub returns-then-n-le64 : goal.returns-then-n-le64
unfolding levels_after magnitudes_after
returns-then-n-le64 c =
    let a = c.args in
    let s = c.in_ok-quantizer.quantizer.scale in
    let is = c.in_ok-quantizer.ensures in
    let e = c.in_room.ensures in
    record {
      result_value = the_answer (call a) _ s.inverse s.threshold s.bias is e.value;
      levels_after = the_levels (call a) _ s.inverse s.threshold s.bias is a.levels.now _ e.levels_after;
      magnitudes_after = the_magnitudes (call a) _ s.inverse s.threshold s.bias is a.magnitudes.now _ e.magnitudes_after;
    }

pub in_room-requires-then-n-le1024 : goal.in_room-requires-then-n-le1024
in_room-requires-then-n-le1024 c =
    let k = first_passed (call c.args) _ c.in_ok-quantizer.ensures.2 in
    (lit≤ tt, c.if-n-le1024.true, k.levels_room, k.magnitudes_room)

pub returns-then-n-le1024 : goal.returns-then-n-le1024
unfolding levels_after magnitudes_after
returns-then-n-le1024 c =
    let a = c.args in
    let s = c.in_ok-quantizer.quantizer.scale in
    let is = c.in_ok-quantizer.ensures in
    let e = c.in_room-then-n-le1024.ensures in
    record {
      result_value = the_answer (call a) _ s.inverse s.threshold s.bias is e.value;
      levels_after = the_levels (call a) _ s.inverse s.threshold s.bias is a.levels.now _ e.levels_after;
      magnitudes_after = the_magnitudes (call a) _ s.inverse s.threshold s.bias is a.magnitudes.now _ e.magnitudes_after;
    }

pub returns : goal.returns
unfolding levels_after magnitudes_after
returns c =
    let a = c.args in
    let bad_scan = not-false _ (too_long a.width a.coefficients.now a.scan.now (omega arith)) in
    let e = found_bad_scan a.width a.coefficients.now a.scan.now bad_scan ∙ by_its_scan (call a) _ c.in_ok-quantizer.ensures.2 in
    record { result_value = e; levels_after = kept _ _ e; magnitudes_after = kept _ _ e }
