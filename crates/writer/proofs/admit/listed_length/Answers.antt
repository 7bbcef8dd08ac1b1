-- `writer::admit::listed_length` meets its contract. Assumes nothing.
use Rattle.std.proofs.Common.{◌≡◌, Bool, ℕ, ◌+◌, ◌*◌, length, get_or, pos, sym, ap, ◌∙◌, arith, add-one}
use Rattle.format.proofs.Listed.{listed_length, standing_more, standing_le}
use Rattle.format.specs.Pieces.{standing, stands}
use Rattle.writer.specs.Write.{level_at}
use Rattle.writer.proofs.Word.{bit_byte}
use Rattle.writer.proofs.admit.listed_length.Goals as goal

pub loop-level-init : goal.loop-level-init
loop-level-init c = omega (arith, standing_le (λ p. stands (level_at c.args.levels.now p)) 0)

pub overflow_add-count : goal.overflow_add-count
overflow_add-count c =
    let l = c.args.levels.now in
    let i = c.loop-level.level-index in
    omega (
      arith,
      c.loop-level.invariant,
      standing_le (λ p. stands (level_at l p)) (i + 1),
      standing_more (λ p. stands (level_at l p)) i,
      ap (standing (λ p. stands (level_at l p))) (add-one i),
      c.from-count.ensures,
      bit_byte (get_or l i (pos 0)) (omega arith),
    )

pub loop-level-preserved : goal.loop-level-preserved
loop-level-preserved c =
    let l = c.args.levels.now in
    let i = c.loop-level.level-index in
    let f : (ℕ → Bool) = λ p. stands (level_at l p) in
    omega (arith, c.from-count.ensures, bit_byte (get_or l i (pos 0)) (omega arith), c.loop-level.invariant, standing_more f i, ap (standing f) (add-one i))

pub returns : goal.returns
returns c =
    let l = c.args.levels.now in
    let f : (ℕ → Bool) = λ p. stands (level_at l p) in
    let done : c.loop-level.level-index ≡ length l = omega arith in
    ap (λ (k : ℕ). 4 * k) (c.loop-level.invariant ∙ ap (standing f) done) ∙ sym (listed_length (length l) (level_at l))
