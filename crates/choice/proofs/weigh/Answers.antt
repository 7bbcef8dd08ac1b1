-- `choice::weigh` meets its contract. Assumes nothing.
use mathlib.Core.Logic.{⊎_elim}
use mathlib.Core.Bool.{true}
use mathlib.Core.Path.{◌≡◌, refl, sym, ap, ◌∙◌}
use Prim.Native.Nat.{ℕ, ◌+◌, ◌^◌}
use native.Mathlib.Omega.{arith}
use borrow.Author.Rules.{rules}
use borrow.Author.Tests.{lt-ltb, le-ltb, le-leb, lt-leb}
use lib.Dec.{leb, ltb}
use lib.IntN.{pos, nat_abs}
use lib.ListN.{get_or, length}
use mir.Syntax.{w32}
use mir.Val.{SFits}
use mir.ValLaws.{to_z-of_z}
use Rattle.laws.proofs.Bits.{or_ltb}
use Rattle.laws.proofs.Every.{every_turn}
use Rattle.laws.proofs.Halves.{halves_none, halves_more}
use Rattle.laws.proofs.Place.{split}
use Rattle.format.specs.Pieces.{is_near, are_near}
use Rattle.choice.specs.Choice.{weight}
use Rattle.choice.proofs.weigh.Goals as goal

-- the test of a magnitude m by bit 31
near_bit : (m : ℕ) → ltb (m + 1073741823) (2 ^ 31) ≡ leb m (2 ^ 30)
near_bit m =
    ⊎_elim
    (λ l. rw (lt-ltb (m + 1073741823) (2 ^ 31) l, le-leb m (2 ^ 30) (omega arith)))
    (λ g. rw (le-ltb (m + 1073741823) (2 ^ 31) g, lt-leb m (2 ^ 30) (omega arith)))
    (split (m + 1073741823) (2 ^ 31))

pub loop-level-init : goal.loop-level-init
unfolding are_near
loop-level-init c = (halves_none (λ k. nat_abs (get_or c.args.levels.now k (pos 0))), refl)

pub loop-level-preserved : goal.loop-level-preserved
unfolding are_near
loop-level-preserved c =
    let levels = c.args.levels.now in
    let i = c.loop-level.level-index in
    let m = c.unsigned_abs-magnitude.result in
    let p : SFits w32 (get_or levels i (pos 0)) = search rules in
    let is : m ≡ nat_abs (get_or levels i (pos 0)) = c.unsigned_abs-magnitude.ensures.value ∙ ap nat_abs (to_z-of_z w32 _ p) in (
      halves_more c.loop-level.invariant.0 is (omega arith),
      or_ltb 31 (m + 1073741823) c.loop-level.reach
          ∙ every_turn (λ k. is_near (get_or levels k (pos 0))) i (near_bit m ∙ ap (λ (n : ℕ). leb n (2 ^ 30)) is) c.loop-level.invariant.1,
    )

pub returns : goal.returns
unfolding weight
returns c =
    let levels = c.args.levels.now in
    let h = c.loop-level.invariant in
    let done : c.loop-level.level-index ≡ length levels = omega arith in
    let near : are_near (length levels) levels ≡ true = sym (h.1 ∙ ap (λ (k : ℕ). are_near k levels) done) ∙ lt-ltb c.loop-level.reach (2 ^ 31) (omega arith) in
    (near, rw (c.from.ensures, c.from-2.ensures) (h.0.sum ∙ ap (λ (k : ℕ). weight k levels) done))
