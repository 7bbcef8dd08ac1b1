-- `wht::fwht4x4` meets its contract. Assumes nothing.
use Rattle.answer.proofs.Answer.{kept, written}
use Rattle.wht.specs.Wht.{wht_after}
use Rattle.wht.proofs.Accepted.{accepted}
use Rattle.wht.proofs.fwht4x4.Goals as goal

pub returns-in_err-n-clause-output_after : goal.returns-in_err-n-clause-output_after
unfolding wht_after
returns-in_err-n-clause-output_after c = kept _ _ c.in_err-n.ensures

pub run-requires : goal.run-requires
run-requires c =
    let ok = accepted _ _ _ c.in_ok-n.ensures in
    (ok.read, ok.written, ok.limit)

pub returns-clause-output_after : goal.returns-clause-output_after
unfolding wht_after
returns-clause-output_after c = written _ c.in_ok-n.ensures c.run.ensures
