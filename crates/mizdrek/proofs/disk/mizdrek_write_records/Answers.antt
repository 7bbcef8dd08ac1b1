-- `mizdrek::disk::mizdrek_write_records` meets its contract. Assumes nothing.
use Prim.Native.Nat.{◌<◌, ◌^◌}
use native.Mathlib.Omega.{arith}
use lib.ListN.{length}
use Rattle.answer.proofs.Answer.{signed_asked}
use Rattle.writer.proofs.Admitted.{write_small}
use Rattle.mizdrek.proofs.disk.mizdrek_write_records.Goals as goal

pub signed-requires : goal.signed-requires
signed-requires c =
    let a = c.args in
    let g = c.well_formed.1.1.1.1.0 in
    let b : length a.bytes.now < 2 ^ 63 = omega arith in
    signed_asked c.write_records-written.ensures.result_value (write_small a.count a.numbers.now a.sides.now a.levels.now (length a.bytes.now) b)
