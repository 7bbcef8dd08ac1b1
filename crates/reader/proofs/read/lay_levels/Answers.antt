-- `reader::read::lay_levels` meets its contract. Assumes nothing.
use Rattle.std.proofs.Common.{◌≡◌, ℕ, ◌+◌, ◌-◌, ◌*◌, ◌≤◌, List, ℤ, length, sym, ap, ◌∙◌, arith}
use borrow.Rule.Slice.PartMut.{put_mid}
use Rattle.laws.proofs.Laid.{length_tab}
use Rattle.laws.proofs.Pasted.{spliced, pasted_laid, laid_none, laid_both}
use Rattle.laws.specs.Store.{tab, pasted, laid}
use Rattle.format.specs.Format.{places_in, count_in, list_in, level_in}
use Rattle.format.proofs.Sides.{sized_in}
use Rattle.look.proofs.Looked.{length_is}
use Rattle.look.proofs.Counted.{count_none}
use Rattle.laws.proofs.Pasted.{over_whole}
use Rattle.reader.proofs.read.lay_levels.Goals as goal

pub loop-j-init : goal.loop-j-init
loop-j-init c =
    let s = c.args.whole.now.bytes.now in
    record { laid = laid_none c.args.levels.now 0 (level_in s); next = omega (arith, count_none s, c.requires) }

-- eight places more
eight_more : (d : List ℤ) (level : ℕ → ℤ) (j : ℕ) {levels new : List ℤ} → levels ≡ laid d 0 (8 * j) level → new ≡ tab 8 (λ i. level (8 * j + i))
    → 8 * j + 8 ≤ length d → put_mid (8 * j) (8 * j + 8 - 8 * j) levels new ≡ laid d 0 (8 * (j + 1)) level
eight_more d level j {levels} {new} e f room =
    let eight = tab 8 (λ i. level (8 * j + i)) in
    ap (λ (l : List ℤ). put_mid (8 * j) (8 * j + 8 - 8 * j) levels l) f
    ∙ spliced levels eight (8 * j) (8 * j + 8) (omega (arith, length_tab 8 (λ i. level (8 * j + i))))
    ∙ ap (λ (l : List ℤ). pasted l (8 * j) eight) e
    ∙ sym (pasted_laid (laid d 0 (8 * j) level) (8 * j) 8 (λ i. level (8 * j + i)))
    ∙ ap (λ (k : ℕ). laid (laid d 0 (8 * j) level) k 8 (λ i. level (8 * j + i))) (omega arith)
    ∙ laid_both d 0 (8 * j) 8 level (omega arith)
    ∙ ap (λ (n : ℕ). laid d 0 n level) (omega arith)

pub loop-j-preserved : goal.loop-j-preserved
loop-j-preserved c =
    let s = c.args.whole.now.bytes.now in
    let j = c.loop-j.j in
    let e = c.lay_eight-at.ensures in
    record {
      laid = eight_more c.args.levels.now (level_in s) j c.loop-j.invariant.laid e.levels_after (omega (arith, c.loop-j-test.true));
      next = e.value ∙ ap (λ (n : ℕ). list_in s + 4 * count_in s n) (omega arith);
    }

pub returns-clause-value : goal.returns-clause-value
returns-clause-value c =
    let s = c.args.whole.now.bytes.now in
    let done : 8 * c.loop-j.j ≡ places_in s = omega (arith, (sized_in s).whole, c.requires) in
    c.loop-j.invariant.next ∙ ap (λ (n : ℕ). list_in s + 4 * count_in s n) done ∙ sym (length_is s)

pub returns-clause-levels_after : goal.returns-clause-levels_after
returns-clause-levels_after c =
    let s = c.args.whole.now.bytes.now in
    let d = c.args.levels.now in
    let done : 8 * c.loop-j.j ≡ places_in s = omega (arith, (sized_in s).whole, c.requires) in
    c.loop-j.invariant.laid
    ∙ ap (λ (n : ℕ). laid d 0 n (level_in s)) done
    ∙ pasted_laid d 0 (places_in s) (level_in s)
    ∙ over_whole (tab (places_in s) (level_in s)) d (length_tab (places_in s) (level_in s) ∙ sym c.requires)
