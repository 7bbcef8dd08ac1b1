-- `mizdrek::disk::mizdrek_read_records` meets its contract. Assumes nothing.
use Prim.Native.Nat.{◌<◌, ◌^◌}
use native.Mathlib.Omega.{arith}
use lib.ListN.{length}
use Rattle.answer.proofs.Answer.{signed_asked}
use Rattle.format.specs.Format.{parse}
use Rattle.reader.proofs.Lent.{read_small}
use Rattle.mizdrek.proofs.disk.mizdrek_read_records.Goals as goal

pub signed-requires : goal.signed-requires
signed-requires c =
    let a = c.args in
    let g = c.well_formed.1.0 in
    let b : length a.numbers.now < 2 ^ 63 = omega arith in
    signed_asked c.read_records-read.ensures.result_value (read_small (length a.numbers.now) (length a.sides.now) (length a.levels.now) b (parse a.bytes.now))
