-- Row lines after the rows' pass: scaled where a block is, and as they are elsewhere. Assumes nothing.
use mathlib.Core.Path.{◌≡◌, sym, ap, ◌∙◌}
use mathlib.Core.Bool.{Bool, true, false, cond}
use mathlib.Core.List.{List}
use Prim.Native.Nat.{ℕ, ◌+◌, ◌*◌, ◌/◌, ◌%◌, ◌^◌, ◌≤◌, ◌<◌}
use native.Mathlib.Nat.{lt_of_lt_of_le, mul-le-mul_left}
use lib.IntN.{ℤ, pos, ◌+ℤ◌}
use lib.ListN.{length}
use lib.Pow.{pow_pos, pow_mono}
use lib.Signed.{mag}
use Rattle.laws.specs.Integer.{wrap32}
use Rattle.laws.specs.Store.{laid}
use Rattle.laws.proofs.Divide.{mag_floor_div}
use Rattle.laws.proofs.Laid.{laid_at, laid_ext, laid_over}
use Rattle.laws.proofs.Wrap.{wrap32_fits}
use Rattle.fixed.specs.Fixed.{half, floor_shift, round_shift, scaled}
use Rattle.fixed.proofs.Scale.{scaled_exact}
use Rattle.sizes.specs.Shift.{second_shift}
use Rattle.lines.specs.Pass.{pass_sum, pass_at, pass_lines}
use Rattle.block.specs.Block.{is_odd, rescaled}
use Rattle.block.specs.Lines.{row_lines, scaled_at}

-- a rounded number of a pass with a shift of at least 2 has room to be scaled
rounded_small : (s : ℕ) (z : ℤ) → 2 ≤ s → mag (round_shift s z) < 2 ^ 29
unfolding round_shift floor_shift
rounded_small s z b =
    mag_floor_div (wrap32 (z +ℤ half s)) (2 ^ s) (2 ^ 29) (pow_pos s)
    (lt_of_lt_of_le (wrap32_fits (z +ℤ half s)).sfits (mul-le-mul_left (2 ^ 29) (pow_mono {i = 2} {j = s} b)))

module _ (w h rk start count : ℕ) (scratch output : List ℤ) where
  -- the number at place p of the lines
  abbrev row : ℕ → ℤ
  row p = pass_at rk w (second_shift w h) h scratch (start + p / w) (p % w)

  module _ (room : start * w + count * w ≤ length output) (low : 2 ≤ second_shift w h) (odd : is_odd w h ≡ true) where
    row_scaled : (p : ℕ) → p < count * w
        → scaled_at (pass_lines rk w (second_shift w h) h scratch start count output) (start * w) p ≡ rescaled w h (row p)
    unfolding pass_lines rescaled pass_at
    row_scaled p b =
        ap (λ (z : ℤ). wrap32 (scaled z)) (laid_at output (start * w) (count * w) row room p (pos 0) b)
        ∙ scaled_exact (row p) (rounded_small (second_shift w h) (pass_sum rk w h scratch (start + p / w) (p % w)) low)
        ∙ ap (λ (t : Bool). cond t (scaled (row p)) (row p)) (sym odd)

    pub rows_scaled : (passed : List ℤ) {d : List ℤ} → passed ≡ pass_lines rk w (second_shift w h) h scratch start count output
        → d ≡ laid passed (start * w) (count * w) (scaled_at passed (start * w))
        → d ≡ row_lines w h rk scratch start count output
    unfolding row_lines pass_lines
    rows_scaled passed e u =
        u ∙ ap (λ (l : List ℤ). laid l (start * w) (count * w) (scaled_at l (start * w))) e
        ∙ laid_over output (start * w) (count * w) room (pos 0) row _
        ∙ laid_ext output (start * w) (count * w) _ _ row_scaled

  pub rows_plain : {d : List ℤ} → is_odd w h ≡ false → d ≡ pass_lines rk w (second_shift w h) h scratch start count output
      → d ≡ row_lines w h rk scratch start count output
  unfolding row_lines pass_lines rescaled
  rows_plain even u = u ∙ laid_ext output (start * w) (count * w) _ _ (λ p b. ap (λ (t : Bool). cond t (scaled (row p)) (row p)) (sym even))
