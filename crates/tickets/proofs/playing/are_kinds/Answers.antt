-- `tickets::playing::are_kinds` meets its contract. Assumes nothing.
use mathlib.Core.Path.{◌≡◌, sym}
use mathlib.Core.Bool.{Bool, true, false}
use mathlib.Core.List.{List}
use Prim.Native.Nat.{ℕ, ◌<◌}
use native.Mathlib.Omega.{arith}
use lib.Dec.{leb}
use lib.ListN.{length, get_or}
use Rattle.std.proofs.Common.{rules, tests}
use Rattle.std.specs.Bool.{MatchBool}
use Rattle.std.specs.List.{AllWithin, HoldsAt}
use Rattle.std.proofs.lemmas.Iterator.{cases_from_all, YieldsList-from_slice}
use Rattle.laws.specs.Table.{every}
use Rattle.laws.proofs.Every.{every_all, every_not}
use Rattle.tickets.specs.Play.{are_kinds}
use Rattle.tickets.proofs.playing.are_kinds.Goals as goal

abbrev so : Bool → ℕ → Type 0
so x kind = x ≡ leb kind 1

by_place : (r : Bool) (kinds : List ℕ) → MatchBool r (AllWithin (so true) kinds 0 (length kinds)) ((k : ℕ) × (k < length kinds) × HoldsAt (so false) kinds k)
    → r ≡ every (length kinds) (λ i. leb (get_or kinds i 0) 1)
by_place true kinds h = sym (every_all _ _ (λ i b. sym (h i 0 (omega arith) b)))
by_place false kinds h = sym (every_not _ _ h.0 h.1 (sym (h.2 0)))

pub returns : goal.returns
unfolding are_kinds
returns c =
    by_place _ _ (cases_from_all _ _ _ (so true) (so false) c.all.ensures.ran (YieldsList-from_slice c.args.kinds.now cc) (λ x q k. search (rules, tests)) (λ x q k. search (rules, tests)))
