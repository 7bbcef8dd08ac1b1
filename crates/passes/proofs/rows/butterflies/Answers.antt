-- `passes::butterflies` meets its contract. Assumes nothing.
use mathlib.Core.Path.{◌≡◌, ap, ◌∙◌}
use mathlib.Core.List.{List}
use Prim.Native.Nat.{ℕ, ◌*◌, ◌≤◌, ◌<◌}
use native.Mathlib.Omega.{arith}
use lib.IntN.{ℤ, pos}
use lib.ListN.{length}
use Rattle.laws.proofs.Store.{line_get, Lined, lined_none, lined_turn, lined_all}
use Rattle.lines.specs.Line.{line_at, sum_of, diff_of}
use Rattle.passes.specs.Fold.{row}
use Rattle.passes.proofs.rows.butterflies.Goals as goal

pub loop-k-init : goal.loop-k-init
loop-k-init g c = (lined_none, lined_none)

pub butterfly-requires : goal.butterfly-requires
butterfly-requires g c =
    let r = c.requires.1 in
    let b = c.loop-k.auto in
    (c.requires.0, omega arith, record { rows = r.rows; sums = omega (arith, r.sums, b.sums); diffs = omega (arith, r.diffs, b.diffs) })

pub loop-k-preserved : goal.loop-k-preserved
loop-k-preserved g c = let e = c.butterfly.ensures in (lined_turn c.loop-k.invariant.0 e.sums_after, lined_turn c.loop-k.invariant.1 e.diffs_after)

-- what stands in the rows that are stored
in_rows : {d d₀ : List ℤ} {m h lines : ℕ} (g : ℕ → ℕ → ℤ) → Lined d d₀ m lines (row lines) g → m ≡ h → h * lines ≤ length d₀
    → (j k : ℕ) → j < lines → k < h → line_at d j lines k ≡ g k j
in_rows {d₀ = d₀} {h = h} {lines} g r e room j k b l = ap (λ (x : List ℤ). line_at x j lines k) (lined_all r e) ∙ line_get d₀ h lines g k j (pos 0) room l b

pub returns : goal.returns
returns g c j b =
    let s = c.args.source.now in
    let h = c.args.h in
    record {
      sums = λ k l. in_rows (λ k j. sum_of (line_at s.numbers.now j s.lines) h k) c.loop-k.invariant.0 (omega arith) c.requires.1.sums j k b l;
      diffs = λ k l. in_rows (λ k j. diff_of (line_at s.numbers.now j s.lines) h k) c.loop-k.invariant.1 (omega arith) c.requires.1.diffs j k b l;
    }
