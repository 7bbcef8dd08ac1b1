-- `report::wording::put_text` meets its contract. Assumes nothing.
use mathlib.Core.List.{List, ◌++◌}
use mathlib.Core.Path.{◌≡◌, ap, ◌∙◌}
use Prim.Native.Nat.{ℕ, ◌+◌, ◌≤◌}
use native.Mathlib.Omega.{arith}
use lib.ListN.{length, length-append}
use Rattle.laws.proofs.Pasted.{length_pasted, pasted_three}
use Rattle.laws.specs.Store.{tab, pasted}
use Rattle.answer.specs.Answer.{number_of}
use Rattle.totals.specs.Totals.{totals, refused}
use Rattle.report.specs.Text.{ascii, line, text_of, PrintedAs}
use Rattle.report.proofs.Decimal.{line_length_lem}
use Rattle.report.proofs.wording.put_text.Goals as goal

-- a line leaves room for what comes behind it
room : (word : List ℕ) (n at result : ℕ) (old new : List ℕ) (left : ℕ) → at + (length word + 21) + left ≤ length old
    → result ≡ at + length (line word n) → new ≡ pasted old at (line word n) → result + left ≤ length new
room word n at result old new left fits e f =
    let most = line_length_lem word n in
    omega (arith, most, ap length f, length_pasted old at (line word n) (omega (arith, most)))

pub put_line-magnitude-requires : goal.put_line-magnitude-requires
put_line-magnitude-requires c =
    let e = c.put_line-levels.ensures in
    omega (arith, room _ _ 0 _ c.args.out.now _ 59 (omega arith) e.value e.out_after)

pub put_line-requires : goal.put_line-requires
put_line-requires c =
    let e = c.put_line-levels.ensures in
    let f = c.put_line-magnitude.ensures in
    let first = room _ _ 0 _ c.args.out.now _ 59 (omega arith) e.value e.out_after in
    omega (arith, room _ _ _ _ c.put_line-levels.new.out _ 31 (omega (arith, first)) f.value f.out_after)

pub returns-in-Ok : goal.returns-in-Ok
unfolding text_of ascii tab
returns-in-Ok c =
    let r = c.put_line in
    let q = c.put_line-magnitude in
    let p = c.put_line-levels in
    let a = c.args in
    let t = c.in-Ok.t in
    let x = line (ascii "blocks ") t.blocks in
    let y = line (ascii "levels ") t.levels in
    let z = line (ascii "magnitude ") t.magnitude in
    let put : PrintedAs (totals t.blocks t.levels t.magnitude) a.out.now r.result r.new.out =
    record {
      value = omega (arith, r.ensures.value, q.ensures.value, p.ensures.value, length-append x (y ++ z), length-append y z);
      out_after = r.ensures.out_after
          ∙ ap (λ (l : List ℕ). pasted l q.result z) q.ensures.out_after
          ∙ ap (λ (l : List ℕ). pasted (pasted l p.result y) q.result z) p.ensures.out_after
          ∙ pasted_three a.out.now 0 p.result q.result x y z
          (omega (arith, line_length_lem (ascii "blocks ") t.blocks, line_length_lem (ascii "levels ") t.levels)) p.ensures.value q.ensures.value;
    } in
    rw c.in-Ok.is put

pub returns-in-Err : goal.returns-in-Err
unfolding text_of ascii tab
returns-in-Err c =
    let p = c.put_line-in-Err in
    let out = c.args.out.now in
    let number = c.from-in-Err.ensures ∙ c.from.ensures in
    let put : PrintedAs (refused (number_of c.in-Err.why)) out p.result p.new.out =
    record {
      value = omega (arith, p.ensures.value, ap (λ (k : ℕ). length (line (ascii "refused ") k)) number);
      out_after = p.ensures.out_after ∙ ap (λ (k : ℕ). pasted out 0 (line (ascii "refused ") k)) number;
    } in
    rw c.in-Err.is put
