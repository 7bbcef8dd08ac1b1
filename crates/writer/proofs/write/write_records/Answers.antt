-- `writer::write::write_records` meets its contract. Assumes nothing.
use Rattle.std.proofs.Common.{length, ap, ◌∙◌, rules}
use Rattle.answer.proofs.Answer.{kept, written, refused_alike, accepted_alike}
use Rattle.answer.specs.Answer.{answers}
use Rattle.format.specs.Format.{bytes_of}
use Rattle.writer.specs.Write.{blocks_in, by_buffers, write_answer, bytes_after}
use Rattle.writer.proofs.Admitted.{admitted}
use Rattle.writer.proofs.write.write_records.Goals as goal

pub returns-in_err-admit : goal.returns-in_err-admit
unfolding write_answer bytes_after
returns-in_err-admit c =
    let a = c.args in
    let e = refused_alike (by_buffers a.count a.numbers.now a.sides.now a.levels.now (length a.out.now)) 0
    (length (bytes_of (blocks_in a.count a.numbers.now a.sides.now a.levels.now))) _ c.in_err-admit.ensures in
    record { result_value = search (rules, e); out_after = kept _ _ e }

pub put_records-length-requires : goal.put_records-length-requires
put_records-length-requires c =
    let a = c.args in
    let w = admitted a.count a.numbers.now a.sides.now a.levels.now (length a.out.now) _ _ c.in_ok-admit.ensures in
    record { blocks_lent = (w.many, w.pairs, w.sided); room = (w.placed, w.fits) }

pub returns : goal.returns
unfolding write_answer bytes_after
returns c =
    let a = c.args in
    let n = length (bytes_of (blocks_in a.count a.numbers.now a.sides.now a.levels.now)) in
    let e = accepted_alike (by_buffers a.count a.numbers.now a.sides.now a.levels.now (length a.out.now)) 0 n _ c.in_ok-admit.ensures in
    let put = c.put_records-length.ensures in
    record { result_value = ap answers put.value ∙ e; out_after = written a.out.now e put.out_after }
