-- `report::wording::put_line` meets its contract. Assumes nothing.
use mathlib.Core.List.{List, ◌∷◌, [], ◌++◌}
use mathlib.Core.Path.{◌≡◌, ap, ◌∙◌}
use Prim.Native.Nat.{ℕ, ◌≤◌}
use native.Mathlib.Omega.{arith}
use lib.ListN.{length, take, length-append}
use Rattle.laws.proofs.Pasted.{pasted_three}
use Rattle.laws.specs.Store.{tab, pasted}
use Rattle.report.specs.Text.{ascii, decimal, line}
use Rattle.report.proofs.Decimal.{few, spelt}
use Rattle.report.proofs.wording.put_line.Goals as goal

pub returns : goal.returns
unfolding line ascii tab
returns c =
    let a = c.args in
    let w = a.word.now in
    let e = c.decimal-count.ensures in
    let count = c.decimal-count.result in
    let d = take count c.decimal-count.new.out in
    let same : d ≡ decimal a.n = e.digits ∙ spelt a.n count c.ranges.n.fits e.len in
    let most : length d ≤ 20 = omega (arith, e.in_bounds.1, few a.n count c.ranges.n.fits e.len) in
    let is = ap (λ (l : List ℕ). w ++ (l ++ (10 ∷ []))) same in
    record {
      value = omega (
        arith,
        c.put.ensures.value,
        c.put-end.ensures.value,
        c.put-number.ensures.value,
        length-append w (d ++ (10 ∷ [])),
        length-append d (10 ∷ []),
        ap length is,
      );
      out_after = c.put.ensures.out_after
          ∙ ap (λ (l : List ℕ). pasted l c.put-end.result (10 ∷ [])) c.put-end.ensures.out_after
          ∙ ap (λ (l : List ℕ). pasted (pasted l c.put-number.result d) c.put-end.result (10 ∷ [])) c.put-number.ensures.out_after
          ∙ pasted_three a.out.now a.at c.put-number.result c.put-end.result w d (10 ∷ []) (omega (arith, most)) c.put-number.ensures.value
          c.put-end.ensures.value
          ∙ ap (pasted a.out.now a.at) is;
    }
