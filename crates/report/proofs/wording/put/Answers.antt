-- `report::wording::put` meets its contract. Assumes nothing.
use Rattle.std.proofs.Common.{◌+◌, ◌-◌, List, ℕ, length, ap, refl, ◌∙◌}
use borrow.Rule.Slice.PartMut.{put_mid}
use Rattle.laws.proofs.Pasted.{spliced}
use Rattle.report.proofs.wording.put.Goals as goal

pub returns-clause-out_after : goal.returns-clause-out_after
returns-clause-out_after c =
    let a = c.args in
    let s = a.piece.now in
    ap (λ (l : List ℕ). put_mid a.at (a.at + length s - a.at) a.out.now l) c.copy_from_slice.ensures.after ∙ spliced a.out.now s a.at (a.at + length s) refl
