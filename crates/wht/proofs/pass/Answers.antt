-- `wht::pass` meets its contract: after j turns dst has j rows. Assumes nothing.
use mathlib.Core.Path.{◌≡◌, refl, sym, ap, ◌∙◌}
use mathlib.Core.List.{List}
use Prim.Native.Nat.{ℕ, ◌+◌, ◌^◌, ◌≤◌, ◌<◌}
use native.Mathlib.Nat.{add-zero, zero-add}
use native.Mathlib.Omega.{arith}
use lib.Dec.{lit<}
use lib.IntN.{ℤ, pos, nat_abs}
use lib.ListN.{get_or}
use lib.Signed.{mag}
use mir.Syntax.{w32}
use mir.Val.{to_z, of_z}
use Rattle.laws.specs.Store.{stores}
use Rattle.laws.proofs.Store.{stored_none, stored_turn, stored_all, stored_length, lined_none, lined_turn, lined_all, lined_length}
use Rattle.laws.proofs.Laid.{grid_laid}
use Rattle.laws.proofs.Machine.{read_at}
use Rattle.wht.specs.Wht.{wht_four, line_of}
use Rattle.wht.specs.Turned.{Sized, turned}
use Rattle.wht.proofs.pass.Invariants.{to, column}
use Rattle.wht.proofs.pass.Goals as goal

back_size : {b : ℕ} {l : List ℤ} (k : ℕ) → Sized b l → k < 16 → mag (get_or l k (pos 0)) < 2 ^ 31 → nat_abs (to_z w32 (of_z w32 (get_or l k (pos 0)))) ≤ b
back_size {l = l} k s h g = rw (read_at w32 (get_or l k (pos 0)) g) (s.size k h)

back_four : (p q r s : ℤ) → mag p < 2 ^ 31 → mag q < 2 ^ 31 → mag r < 2 ^ 31 → mag s < 2 ^ 31
    → wht_four (to_z w32 (of_z w32 p)) (to_z w32 (of_z w32 q)) (to_z w32 (of_z w32 r)) (to_z w32 (of_z w32 s)) ≡ wht_four p q r s
back_four p q r s hp hq hr hs = rw (read_at w32 p hp, read_at w32 q hq, read_at w32 r hr, read_at w32 s hs)

-- what a turn has of column j
row : (c : goal.After-line-y) →
    let at-loop = c.before.before.before.before.before.before in
    let x = column at-loop.args.src.now at-loop.loop-j.j in
    c.line-y.result ≡ wht_four (x 0) (x 1) (x 2) (x 3)
row c =
    let at-loop = c.before.before.before.before.before.before in
    let x = column at-loop.args.src.now at-loop.loop-j.j in
    let first = get_or at-loop.args.src.now at-loop.loop-j.j (pos 0) in
    c.line-y.ensures
    ∙ back_four first (x 1) (x 2) (x 3) c.line-arg-1.given c.line-arg-in-loop-j-1.given
    c.line-arg-in-loop-j-2-1.given c.line-arg-in-loop-j-3-1.given
    ∙ ap (λ (k : ℕ). wht_four (get_or at-loop.args.src.now k (pos 0)) (x 1) (x 2) (x 3)) (sym (add-zero at-loop.loop-j.j))

pub loop-j-init : goal.loop-j-init
loop-j-init c = lined_none

pub line-y-requires : goal.line-y-requires
line-y-requires c =
    let at-loop = c.before.before.before.before.before in
    let j = at-loop.loop-j.j in
    let sized = at-loop.requires.sized in (
      back_size j sized (omega arith) c.line-arg-1.given,
      back_size (j + 4) sized (omega arith) c.line-arg-in-loop-j-1.given,
      back_size (j + 8) sized (omega arith) c.line-arg-in-loop-j-2-1.given,
      back_size (j + 12) sized (omega arith) c.line-arg-in-loop-j-3-1.given,
    )

pub loop-f-init : goal.loop-f-init
loop-f-init c = stored_none

pub bounds-dst-at : goal.bounds-dst-at
bounds-dst-at c =
    omega (
      arith,
      stored_length c.loop-f.invariant,
      lined_length c.loop-j.invariant,
      c.requires.in_bounds,
    )

pub loop-f-preserved : goal.loop-f-preserved
loop-f-preserved c = stored_turn c.loop-f.invariant refl (read_at w32 _ c.dst-1.given)

pub loop-j-preserved : goal.loop-j-preserved
unfolding line_of
loop-j-preserved c =
    let at-line = c.before.before in
    let at-loop = at-line.before.before.before.before.before.before in
    lined_turn at-loop.loop-j.invariant
    (stored_all {n = 4} c.loop-f.invariant (omega arith)
    ∙ ap (λ (y : List ℤ). stores at-loop.loop-j.dst 4 (to at-loop.loop-j.j) (λ k. get_or y k (pos 0))) (row at-line))

pub shape_of-dst : goal.shape_of-dst
shape_of-dst c = lined_length c.loop-j.invariant

pub returns : goal.returns
unfolding turned
returns c =
    let at-start = c.before.before in
    let a = at-start.args in
    lined_all c.loop-j.invariant (omega arith)
    ∙ grid_laid a.dst.now 0 4 4 to (λ i f. line_of (column a.src.now i) f) (lit< tt) (omega arith) (λ j f. sym (zero-add _)) (pos 0)
