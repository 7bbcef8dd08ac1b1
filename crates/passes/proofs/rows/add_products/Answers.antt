-- `passes::add_products` meets its contract. Assumes nothing.
use mathlib.Core.Path.{◌≡◌, refl, sym, ap, ap₂, ◌∙◌, subst}
use Prim.Native.Nat.{ℕ, ◌+◌, ◌*◌}
use native.Mathlib.Omega.{arith}
use borrow.Author.Rules.{rules}
use lib.IntN.{ℤ, pos, ◌+ℤ◌}
use lib.ListN.{get_or, replicate}
use mir.Syntax.{w32}
use mir.Val.{SFits, to_z, of_z}
use mir.Facts.{to_z-of_z}
use Rattle.laws.specs.Integer.{wrap32}
use Rattle.laws.proofs.Machine.{read_at}
use Rattle.laws.proofs.Place.{line_ends}
use Rattle.laws.proofs.Store.{stored_none, stored_turn, stored_all, stored_length, stores_front, stores_out}
use Rattle.lines.specs.Line.{dot, itself, line_at, number}
use Rattle.lines.proofs.Sum.{Summed, sum_turn}
use Rattle.passes.proofs.Abreast.{Added, added_none}
use Rattle.passes.proofs.rows.add_products.Goals as goal

pub loop-k-init : goal.loop-k-init
loop-k-init g c =
    let f = c.args.factors.now in
    let s = c.args.source.now in
    subst (λ (h : ℤ). Added g.row.B 0 h (line_at f.numbers.now f.at f.stride) (λ i. line_at s.numbers.now (c.args.j + i) s.lines) (replicate g.row.B h)) (sym (to_z-of_z c.ranges.half))
    (added_none g.row.B c.ranges.half)

pub loop-i-init : goal.loop-i-init
loop-i-init g c = stored_none

pub bounds-source-k : goal.bounds-source-k
bounds-source-k g c =
    let r = c.requires.0 in
    let e = line_ends (2 * c.loop-k.k) (c.args.j + c.loop-i.i + 1) r.inside (omega (arith, c.requires.1)) (omega (arith, c.requires.2)) in omega arith

pub bounds-source-k-in-loop-i : goal.bounds-source-k-in-loop-i
bounds-source-k-in-loop-i g c =
    let r = c.requires.0 in
    let e = line_ends (2 * c.loop-k.k + 1) (c.args.j + c.loop-i.i + 1) r.inside (omega (arith, c.requires.1)) (omega (arith, c.requires.2)) in omega arith

pub loop-i-preserved : goal.loop-i-preserved
loop-i-preserved g c =
    let f = c.args.factors.now in
    let s = c.args.source.now in
    let j = c.args.j in
    let k = c.loop-k.k in
    let i = c.loop-i.i in
    let half = to_z w32 (of_z w32 c.args.half) in
    let a = line_at f.numbers.now f.at f.stride in
    let z = line_at s.numbers.now (j + i) s.lines in
    let at : (m : ℕ) → get_or s.numbers.now (m * s.lines + j + i) (pos 0) ≡ z m = λ m. ap (λ n. get_or s.numbers.now n (pos 0)) (omega arith) in
    let p : SFits w32 (a (2 * k)) = search rules in
    let q : SFits w32 (a (2 * k + 1)) = search rules in
    let x : SFits w32 (get_or s.numbers.now (2 * k * s.lines + j + i) (pos 0)) = search rules in
    let y : SFits w32 (get_or s.numbers.now ((2 * k + 1) * s.lines + j + i) (pos 0)) = search rules in
    let now : SFits w32 (number c.loop-i.sums i) = search rules in
    let same : number c.loop-i.sums i ≡ number c.loop-k.sums i =
    ap (λ l. number l i) (stored_all c.loop-i.invariant refl) ∙ stores_out c.loop-k.sums i itself _ i (pos 0) (λ n b e. omega arith) in
    let before : Summed (to_z w32 (of_z w32 (number c.loop-i.sums i))) half (2 * k) a z =
    subst (λ (v : ℤ). Summed v half (2 * k) a z) (sym (to_z-of_z now ∙ same)) (c.loop-k.invariant.at i (omega arith)) in
    let one : Summed c.wrapping_add.result half (2 * k + 1) a z =
    sum_turn before (to_z-of_z p) (to_z-of_z x ∙ at (2 * k)) c.wrapping_mul-u.ensures
    (c.wrapping_add.ensures ∙ ap (λ (v : ℤ). wrap32 (to_z w32 (of_z w32 (number c.loop-i.sums i)) +ℤ v)) (read_at w32 _ c.wrapping_mul-u.type_inv)) in
    let two =
    sum_turn one (to_z-of_z q) (to_z-of_z y ∙ at (2 * k + 1)) c.wrapping_mul-v.ensures
    (c.wrapping_add-in-loop-i.ensures ∙ ap₂ (λ (u v : ℤ). wrap32 (u +ℤ v)) (read_at w32 c.wrapping_add.result c.wrapping_add.type_inv) (read_at w32 c.wrapping_mul-v.result c.wrapping_mul-v.type_inv)) in
    stored_turn c.loop-i.invariant refl (read_at w32 _ c.wrapping_add-in-loop-i.type_inv ∙ two.is)

pub loop-k-preserved : goal.loop-k-preserved
loop-k-preserved g c =
    let f = c.args.factors.now in
    let s = c.args.source.now in
    let half = to_z w32 (of_z w32 c.args.half) in
    let a = line_at f.numbers.now f.at f.stride in
    let z : ℕ → ℕ → ℤ = λ i. line_at s.numbers.now (c.args.j + i) s.lines in
    let sum : ℕ → ℕ → ℤ = λ n i. wrap32 (half +ℤ dot n a (z i)) in
    let twice : 2 * c.loop-k.k + 1 + 1 ≡ 2 * (c.loop-k.k + 1) = omega arith in
    let all = stored_all {n = g.row.B} {g = sum (2 * c.loop-k.k + 1 + 1)} c.loop-i.invariant (omega arith) in
    record {
      at = λ i b.
          record {
            is = ap (λ l. number l i) all ∙ stores_front c.loop-k.sums g.row.B (sum (2 * c.loop-k.k + 1 + 1)) i (pos 0) b (omega (arith, c.loop-k.invariant.long))
                ∙ ap (λ (n : ℕ). sum n i) twice;
          };
      long = stored_length c.loop-i.invariant ∙ c.loop-k.invariant.long;
    }

pub returns : goal.returns
returns g c i b =
    let f = c.args.factors.now in
    let s = c.args.source.now in
    let a = line_at f.numbers.now f.at f.stride in
    let z = line_at s.numbers.now (c.args.j + i) s.lines in
    let whole : 2 * c.loop-k.k ≡ f.count = omega (arith, c.requires.1) in
    let here : number c.loop-k.sums i ≡ wrap32 (to_z w32 (of_z w32 c.args.half) +ℤ dot (2 * c.loop-k.k) a z) = (c.loop-k.invariant.at i b).is in
    here ∙ ap (λ (h : ℤ). wrap32 (h +ℤ dot (2 * c.loop-k.k) a z)) (to_z-of_z c.ranges.half)
    ∙ ap (λ (n : ℕ). wrap32 (c.args.half +ℤ dot n a z)) whole
