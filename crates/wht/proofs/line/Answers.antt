-- `wht::line` meets its contract: each number is followed through the code with its size. Assumes nothing.
use Prim.Native.Nat.{ℕ, ◌*◌, ◌^◌}
use lib.IntN.{ℤ, ◌+ℤ◌, ◌-ℤ◌}
use mir.Syntax.{w32}
use mir.Val.{of_z}
use Rattle.laws.specs.Integer.{floor_div}
use Rattle.wht.specs.Wht.{wht_four}
use Rattle.wht.proofs.Number.{Holds, plus, minus, half, parameter, added, subtracted, halved, fitting}
use Rattle.wht.proofs.line.Goals as goal

-- the bits of t and of e
abbrev t_bits : ℤ → ℤ → ℤ → ℕ
t_bits p q r = plus (plus (of_z w32 p) (of_z w32 q)) (of_z w32 r)

abbrev e_bits : ℤ → ℤ → ℤ → ℤ → ℕ
e_bits p q r s = half (minus (t_bits p q r) (of_z w32 s))

-- the parameters, and what the code makes of them on the way
record Followed (p q r s : ℤ) : Type 0 where
  first : Holds (of_z w32 p) p (2 ^ 20)
  second : Holds (of_z w32 q) q (2 ^ 20)
  third : Holds (of_z w32 r) r (2 ^ 20)
  fourth : Holds (of_z w32 s) s (2 ^ 20)
  two : Holds (plus (of_z w32 p) (of_z w32 q)) (p +ℤ q) (2 * 2 ^ 20)
  t : Holds (t_bits p q r) (p +ℤ q +ℤ r) (3 * 2 ^ 20)
  e : Holds (e_bits p q r s) (floor_div (p +ℤ q +ℤ r -ℤ s) 2) (4 * 2 ^ 20)
  less : Holds (minus (of_z w32 s) (of_z w32 r)) (s -ℤ r) (2 * 2 ^ 20)
  more : Holds (plus (minus (of_z w32 s) (of_z w32 r)) (e_bits p q r s)) (s -ℤ r +ℤ floor_div (p +ℤ q +ℤ r -ℤ s) 2) (6 * 2 ^ 20)

followed : (c : goal.Start) → Followed c.args.p c.args.q c.args.r c.args.s
followed c =
    let p = parameter c.ranges.p c.requires.0 in
    let q = parameter c.ranges.q c.requires.1 in
    let r = parameter c.ranges.r c.requires.2 in
    let s = parameter c.ranges.s c.requires.3 in
    let two = added p q tt in
    let t = added two r tt in
    let e = halved (subtracted t s tt) tt in
    let less = subtracted s r tt in
    record { first = p; second = q; third = r; fourth = s; two = two; t = t; e = e; less = less; more = added less e tt }

pub overflow_add-t : goal.overflow_add-t
overflow_add-t c = search (fitting, followed c)

pub overflow_add-t-2 : goal.overflow_add-t-2
overflow_add-t-2 c = search (fitting, followed c)

pub overflow_sub-e : goal.overflow_sub-e
overflow_sub-e c = search (fitting, followed c)

pub overflow_sub-result : goal.overflow_sub-result
overflow_sub-result c = search (fitting, followed c)

pub overflow_sub-result-2 : goal.overflow_sub-result-2
overflow_sub-result-2 c = search (fitting, followed c)

pub overflow_sub-result-3 : goal.overflow_sub-result-3
overflow_sub-result-3 c = search (fitting, followed c)

pub overflow_add-result : goal.overflow_add-result
overflow_add-result c = search (fitting, followed c)

pub overflow_sub-result-4 : goal.overflow_sub-result-4
overflow_sub-result-4 c = search (fitting, followed c)

pub overflow_sub-result-5 : goal.overflow_sub-result-5
overflow_sub-result-5 c = search (fitting, followed c)

pub returns : goal.returns
unfolding wht_four
returns c =
    let f = followed c in
    rw (
      (subtracted f.t f.e tt).is,
      (subtracted f.e f.third tt).is,
      (subtracted f.more f.second tt).is,
      (subtracted f.e f.second tt).is,
    )
