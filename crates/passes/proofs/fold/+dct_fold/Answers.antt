-- `passes::dct_fold` meets its contract: each stage by the fold of half as many numbers. Assumes nothing.
use mathlib.Core.Path.{◌≡◌, sym, ◌∙◌, subst}
use Prim.Native.Nat.{ℕ}
use native.Mathlib.Omega.{arith}
use borrow.Author.Rules.{rules}
use Rattle.passes.specs.Fold.{Passed}
use Rattle.passes.proofs.Stages.{two_asked, square_asked, halves_asked, rest_asked, rest_done, fewer}
use Rattle.passes.proofs.fold.+dct_fold.Goals as goal

pub two_samples-requires : goal.two_samples-requires
two_samples-requires t c = two_asked c.requires (omega arith)

pub returns-then-m-eq2 : goal.returns-then-m-eq2
returns-then-m-eq2 t c =
    let a = c.args in
    let s = a.source.now in
    let two : a.m ≡ 2 = omega arith in
    subst (λ (m : ℕ). Passed m a.step a.setup.now.rounding.shift.bits s.lines s.numbers.now a.o.now c.two_samples.new.o) (sym two) c.two_samples.ensures

pub halve_lines-requires-clause-square : goal.halve_lines-requires-clause-square
halve_lines-requires-clause-square t c = square_asked c.requires (λ e. omega (arith, e))

pub halve_lines-requires-clause-rows : goal.halve_lines-requires-clause-rows
halve_lines-requires-clause-rows t c = let s = c.split_at_mut-sums.ensures in halves_asked c.requires (λ e. omega (arith, e)) s.front_len s.back_len

pub dct_fold-requires : goal.dct_fold-requires
dct_fold-requires t c =
    let s = c.split_at_mut-sums.ensures in
    let b = c.halve_lines.auto in
    let more : c.args.m ≡ 2 → ⊥ = λ e. omega (arith, e) in
    let less = fewer c.requires more in
    (search rules, rest_asked c.requires more (b.sums ∙ s.front_len) (omega (arith, b.diffs, s.back_len)) b.o)

pub returns : goal.returns
returns t c =
    let a = c.args in
    let b = c.halve_lines in
    rest_done c.requires (λ e. omega (arith, e)) a.setup.now.rounding.shift.bits a.source.now.numbers.now b.new.sums b.new.diffs a.o.now b.ensures.0 b.ensures.1 c.dct_fold.ensures
