-- `look::record::size_of` meets its contract. Assumes nothing.
use Rattle.std.proofs.Common.{◌≡◌, ℕ, ◌*◌, ◌/◌, ◌%◌, ◌^◌, ◌<◌, mod-lt, lit<, arith}
use Rattle.std.proofs.lemmas.Nat.{shl_whole}
use Rattle.format.proofs.Sides.{wide_side, high_side}
use Rattle.look.proofs.record.size_of.Goals as goal

shifted : (k : ℕ) → k < 4 → 4 * 2 ^ k % 18446744073709551616 ≡ 4 * 2 ^ k
shifted k h = shl_whole 4 3 k 64 (lit< tt) (omega arith)

pub invariant_of-result : goal.invariant_of-result
invariant_of-result c =
    let x = c.args.side in
    record { sides = rw (shifted (x % 4) (mod-lt x (lit< tt)), shifted (x / 4 % 4) (mod-lt (x / 4) (lit< tt))) (wide_side x, high_side x) }

pub returns : goal.returns
returns c =
    let x = c.args.side in
    (shifted (x % 4) (mod-lt x (lit< tt)), shifted (x / 4 % 4) (mod-lt (x / 4) (lit< tt)))
