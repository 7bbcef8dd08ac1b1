-- `wht::pass` meets its contract: after j turns dst has j rows. Assumes nothing.
use mathlib.Core.List.{List}
use Prim.Native.Nat.{ℕ, ◌+◌, ◌*◌}
use lib.IntN.{ℤ, pos}
use lib.ListN.{get_or}
use Rattle.laws.proofs.Store.{Stored, Lined}
use Rattle.wht.specs.Wht.{line_of}
use Rattle.wht.proofs.pass.Given as goal

-- where number f of row j goes, and what it is
abbrev pub to : ℕ → ℕ → ℕ
to j f = j * 4 + f

abbrev pub column : List ℤ → ℕ → ℕ → ℤ
column src j k = get_or src (j + k * 4) (pos 0)

abbrev pub invariant-loop-f : goal.invariant-loop-f
invariant-loop-f l = Stored l.dst l.initial.dst l.f (to l.j) (λ k. get_or l.y k (pos 0))

abbrev pub invariant-loop-j : goal.invariant-loop-j
invariant-loop-j l = Lined l.dst l.initial.dst l.j 4 to (λ i f. line_of (column l.src i) f)
