-- `passes::butterfly` meets its contract. Assumes nothing.
use mathlib.Core.Path.{◌≡◌, refl, ap₂, ◌∙◌}
use Prim.Native.Nat.{ℕ, ◌+◌, ◌-◌, ◌*◌, ◌/◌, ◌≤◌, ◌<◌}
use native.Mathlib.Omega.{arith}
use borrow.Author.Rules.{rules}
use lib.IntN.{ℤ, ◌+ℤ◌, ◌-ℤ◌}
use mir.Syntax.{w32}
use mir.Val.{SFits, to_z, of_z}
use mir.Facts.{to_z-of_z}
use Rattle.laws.specs.Integer.{wrap32}
use Rattle.laws.proofs.Machine.{read_at}
use Rattle.laws.proofs.Place.{line_ends}
use Rattle.laws.proofs.Store.{stored_all, stored_before, stored_within, stored_after}
use Rattle.lines.specs.Line.{number}
use Rattle.passes.specs.Fold.{Abreast}
use Rattle.passes.proofs.Abreast.{some_end, all_done}
use Rattle.passes.proofs.rows.butterfly.Goals as goal

pub loop-b-init : goal.loop-b-init
loop-b-init g c = (stored_before g.row.B, stored_before g.row.B)

pub samples-p-requires : goal.samples-p-requires
samples-p-requires g c =
    let b = g.row.B in
    let e = line_ends c.args.k (b * c.loop-b.b + b) c.requires.2.rows.inside (omega (arith, c.requires.1)) (some_end c.requires.0 c.loop-b.b (omega arith)) in omega arith

pub samples-q-requires : goal.samples-q-requires
samples-q-requires g c =
    let a = c.args in
    let b = g.row.B in
    let e = line_ends (2 * a.h - 1 - a.k) (b * c.loop-b.b + b) c.requires.2.rows.inside (omega (arith, c.requires.1)) (some_end c.requires.0 c.loop-b.b (omega arith)) in omega arith

-- a number of a row lies within a buffer for all of them
fits : {b h lines l : ℕ} (k i n : ℕ) → Abreast b lines → i < lines / b → k < h → n < b → h * lines ≤ l → k * lines + (b * i + n) < l
fits {b} k i n a u v w room = let e = line_ends k (b * i + b) room v (some_end a i u) in omega arith

-- a sum or a difference, as op, of the bits of two samples is that of the numbers of the line
of_samples : (op : ℤ → ℤ → ℤ) {p q x y r : ℤ} → SFits w32 p → SFits w32 q → p ≡ x → q ≡ y → r ≡ wrap32 (op (to_z w32 (of_z w32 p)) (to_z w32 (of_z w32 q)))
    → r ≡ wrap32 (op x y)
of_samples op f g u v e = e ∙ ap₂ (λ (a b : ℤ). wrap32 (op a b)) (to_z-of_z f ∙ u) (to_z-of_z g ∙ v)

pub bounds-sums-k : goal.bounds-sums-k
bounds-sums-k g c =
    let e = fits c.args.k c.loop-b.b c.loop-i.i c.requires.0 (omega arith) c.requires.1 (omega arith) c.requires.2.sums in omega (arith, c.loop-i.auto.sums, c.loop-b.auto.sums)

pub loop-i-preserved : goal.loop-i-preserved
loop-i-preserved g c =
    let i = c.loop-i.i in
    let p : SFits w32 (number c.samples-p.result i) = search rules in
    let q : SFits w32 (number c.samples-q.result i) = search rules in
    stored_within (g.row.B * c.loop-b.b) i c.loop-i.invariant refl
    (read_at w32 _ c.wrapping_add.type_inv ∙ of_samples ◌+ℤ◌ p q (c.samples-p.ensures i (omega arith)) (c.samples-q.ensures i (omega arith)) c.wrapping_add.ensures)

pub bounds-diffs-k : goal.bounds-diffs-k
bounds-diffs-k g c =
    let e = fits c.args.k c.loop-b.b c.loop-i-2.i c.requires.0 (omega arith) c.requires.1 (omega arith) c.requires.2.diffs in omega (arith, c.loop-i-2.auto.diffs, c.loop-b.auto.diffs)

pub loop-i-2-preserved : goal.loop-i-2-preserved
loop-i-2-preserved g c =
    let i = c.loop-i-2.i in
    let p : SFits w32 (number c.samples-p.result i) = search rules in
    let q : SFits w32 (number c.samples-q.result i) = search rules in
    stored_within (g.row.B * c.loop-b.b) i c.loop-i-2.invariant refl
    (read_at w32 _ c.wrapping_sub.type_inv ∙ of_samples ◌-ℤ◌ p q (c.samples-p.ensures i (omega arith)) (c.samples-q.ensures i (omega arith)) c.wrapping_sub.ensures)

pub loop-b-preserved : goal.loop-b-preserved
loop-b-preserved g c = (stored_after g.row.B c.loop-b.b (omega arith) c.loop-i.invariant, stored_after g.row.B c.loop-b.b (omega arith) c.loop-i-2.invariant)

pub returns-clause-sums_after : goal.returns-clause-sums_after
returns-clause-sums_after g c = stored_all c.loop-b.invariant.0 (all_done c.requires.0 c.loop-b.b (omega arith))

pub returns-clause-diffs_after : goal.returns-clause-diffs_after
returns-clause-diffs_after g c = stored_all c.loop-b.invariant.1 (all_done c.requires.0 c.loop-b.b (omega arith))
