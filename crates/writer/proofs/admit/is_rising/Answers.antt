-- `writer::admit::is_rising` meets its contract. Assumes nothing.
use Rattle.std.proofs.Common.{◌≡◌, ℕ, ◌+◌, ◌-◌, get_or, length, ap, ◌∙◌, arith}
use lib.Dec.{ltb}
use Rattle.laws.specs.Table.{every}
use Rattle.writer.proofs.admit.is_rising.Goals as goal

pub returns : goal.returns
returns c =
    let l = c.args.numbers.now in
    let i = c.loop-k.invariant in
    let done : c.loop-k.k - 1 ≡ length l - 1 = omega (arith, i.few) in
    i.rising ∙ ap (λ (n : ℕ). every n (λ k. ltb (get_or l k 0) (get_or l (k + 1) 0))) done
