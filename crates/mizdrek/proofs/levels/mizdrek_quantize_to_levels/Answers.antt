-- `mizdrek::levels::mizdrek_quantize_to_levels` meets its contract. Assumes nothing.
use Prim.Native.Nat.{◌<◌, ◌^◌}
use native.Mathlib.Omega.{arith}
use lib.ListN.{length}
use Rattle.answer.proofs.Answer.{lowest_small, signed_asked}
use Rattle.quant.specs.Scan.{scan_answer}
use Rattle.mizdrek.proofs.levels.mizdrek_quantize_to_levels.Goals as goal

pub signed-requires : goal.signed-requires
unfolding scan_answer
signed-requires c =
    let s = c.args.scan.now in
    let g = c.well_formed.1.1.1.1.1.1.0 in
    let b : length s < 2 ^ 63 = omega arith in
    signed_asked c.quantize_to_levels-outcome.ensures.result_value (lowest_small _ (length s) b)
