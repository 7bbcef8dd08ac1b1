-- Nothing wraps in a block within the residual limit: the wrapped passes are the exact ones, at every size and kind.
-- "In a block within the residual limit no wrap occurs: the largest sum before rounding is 2,146,959,360." Assumes nothing.
use mathlib.Core.Path.{◌≡◌, refl, sym, ap, ap₂, ◌∙◌}
use mathlib.Core.Bool.{true}
use mathlib.Core.List.{List}
use Prim.Native.Nat.{ℕ, zero, suc, ◌+◌, ◌-◌, ◌*◌, ◌/◌, ◌%◌, ◌^◌, ◌≤◌, ◌<◌}
use native.Mathlib.Nat.{le_refl, le_trans, lt_of_le_of_lt, mul-le-mul_right, suc-mul, add-zero, div-one, pow-suc, mod-lt, div-eq_of_lt, div-mul-le_self, le-div_iff_mul-le, div-lt_iff_lt-mul}
use native.Mathlib.Omega.{arith}
use lib.Arith.{digits_lt, digits_div, digits_mod}
use borrow.Author.Tests.{leb-true}
use lib.Dec.{leb}
use lib.IntN.{ℤ, pos, negsuc, nat_abs, ◌+ℤ◌, ◌*ℤ◌, +ℤ_idr}
use lib.ListN.{get_or}
use lib.Pow.{pow_pos, pow_mono}
use Rattle.laws.specs.Integer.{floor_div}
use Rattle.laws.specs.Store.{laid}
use Rattle.laws.proofs.Divide.{floor_div_one}
use Rattle.laws.proofs.Laid.{get_or_tab, laid_ext}
use Rattle.laws.proofs.Place.{place_of}
use Rattle.laws.proofs.Size.{sub_ℕ_cases, nat_abs-+ℤ, mag_nat_abs}
use Rattle.laws.proofs.Sum.{sum_same, sum_nat_abs, sum_bound}
use Rattle.fixed.specs.Fixed.{half, floor_shift, round_exact, round_shift}
use Rattle.fixed.proofs.Round.{round_shift_exact}
use Rattle.sizes.specs.Size.{is_side}
use Rattle.sizes.specs.Shift.{shifts, lookup, first_shift, second_shift}
use Rattle.sizes.proofs.Side.{each_size, side_bounds}
use Rattle.sizes.proofs.Shift.{shift_bounds}
use Rattle.kernels.specs.Kernel.{kernel, has_kernel, row_size}
use Rattle.kernels.proofs.RowSize.{Within, row_size_lem}
use Rattle.lines.specs.Pass.{pass_sum, pass_at, pass_lines}
use Rattle.block.specs.Block.{column_at, columns, rescaled, row_at}
use Rattle.block.specs.Lines.{column_lines, row_lines}
use Rattle.block.specs.NoWrap.{largest_sum}

-- ---- how large a rounded number can be

div_mono : {a b : ℕ} (m : ℕ) → 0 < m → a ≤ b → a / m ≤ b / m
div_mono {a} m some l = (le-div_iff_mul-le some).1 (le_trans (div-mul-le_self a m) l)

-- z / 2g, rounded to the nearest
near_size : (z : ℤ) (g : ℕ) → 0 < g → nat_abs (floor_div (z +ℤ pos g) (g + g)) ≤ (nat_abs z + g) / (g + g)
near_size (pos n) g some = le_refl _
near_size (negsuc n) g some =
    sub_ℕ_cases g (suc n) (λ y. nat_abs (floor_div y (g + g)) ≤ (suc n + g) / (g + g))
    (λ t.
    (le-div_iff_mul-le (omega arith)).1
    (omega (arith, suc-mul ((suc n - suc g) / (g + g)) (g + g), div-mul-le_self (suc n - suc g) (g + g))))
    (λ t. omega (arith, div-eq_of_lt (less t)))
  where
    less : suc n ≤ g → g - suc n < g + g
    less t = omega arith

-- the largest that a number of size b can be once it is rounded
unfoldable pub round_size : ℕ → ℕ → ℕ
round_size s b = (b + nat_abs (half s)) / 2 ^ s

pub round_size_lem : (s : ℕ) (z : ℤ) {b : ℕ} → nat_abs z ≤ b → nat_abs (round_exact s z) ≤ round_size s b
unfolding round_exact floor_shift half round_size
round_size_lem zero z {b} small = simp (+ℤ_idr, floor_div_one, add-zero, div-one) small
round_size_lem (suc s) z small =
    let two : 2 ^ suc s ≡ 2 ^ s + 2 ^ s = omega (arith, pow-suc 2 s) in
    rw two (le_trans (near_size z (2 ^ s) (pow_pos s)) (div_mono (2 ^ s + 2 ^ s) (omega (arith, pow_pos s)) (omega arith)))

-- ---- how large a pass's sum can be, of samples of size at most b

pub sum_size : (kind n lines : ℕ) (src : List ℤ) (b j f : ℕ) → is_side n ≡ true → has_kernel kind n ≡ true → f < n
    → ((k : ℕ) → k < n → nat_abs (get_or src (k * lines + j) (pos 0)) ≤ b) → nat_abs (pass_sum kind n lines src j f) ≤ 64 * n * b
unfolding pass_sum Within row_size
sum_size kind n lines src b j f side has bf small =
    le_trans (sum_nat_abs n _)
    (le_trans (sum_bound n (kernel kind n f) (λ k. get_or src (k * lines + j) (pos 0)) b small)
    (mul-le-mul_right b (row_size_lem kind n side has f bf)))

-- ---- the bounds of a block, computed at the sixteen sizes

-- a column line's sums; its numbers; a row line's sums
unfoldable pub column_sum_size : ℕ → ℕ
column_sum_size h = 64 * h * 4095

unfoldable pub column_size : ℕ → ℕ → ℕ
column_size w h = round_size (first_shift w h) (column_sum_size h)

unfoldable pub row_sum_size : ℕ → ℕ → ℕ
row_sum_size w h = 64 * w * column_size w h

pub column_largest : (w h : ℕ) → is_side w ≡ true → is_side h ≡ true → column_sum_size h ≤ largest_sum
unfolding column_sum_size largest_sum
column_largest w h sw sh = leb-true _ _ (each_size (λ w h. leb (column_sum_size h) largest_sum) refl w h sw sh)

pub row_largest : (w h : ℕ) → is_side w ≡ true → is_side h ≡ true → row_sum_size w h ≤ largest_sum
unfolding row_sum_size column_size column_sum_size round_size half first_shift lookup shifts largest_sum
row_largest w h sw sh = leb-true _ _ (each_size (λ w h. leb (row_sum_size w h) largest_sum) refl w h sw sh)

-- the bound is that of 32 × 32
pub largest_is : row_sum_size 32 32 ≡ largest_sum
unfolding row_sum_size column_size column_sum_size round_size half first_shift lookup shifts largest_sum
largest_is = refl

-- ---- a sum within the bound is rounded as if nothing could wrap

half_size : (s : ℕ) → s ≤ 13 → nat_abs (half s) ≤ 4096
unfolding half
half_size zero b = omega arith
half_size (suc s) b = pow_mono {j = 12} (omega arith)

pub no_wrap : (s : ℕ) (z : ℤ) → s ≤ 13 → nat_abs z ≤ largest_sum → round_shift s z ≡ round_exact s z
unfolding largest_sum
no_wrap s z few small =
    round_shift_exact s z
    (record { sfits = lt_of_le_of_lt (le_trans (mag_nat_abs (z +ℤ half s)) (nat_abs-+ℤ z (half s))) (omega (arith, half_size s few)) })

-- ---- the first pass's numbers, by their places

pub columns_at : (w h ck : ℕ) (residuals : List ℤ) (j f : ℕ) → j < w → f < h
    → get_or (columns w h ck residuals) (j * h + f) (pos 0) ≡ column_at w h ck residuals j f
unfolding columns
columns_at w h ck residuals j f bj bf =
    get_or_tab (w * h) (λ p. column_at w h ck residuals (p / h) (p % h)) (j * h + f) (pos 0) (digits_lt bj bf)
    ∙ ap₂ (column_at w h ck residuals) (digits_div j bf) (digits_mod j bf)

-- ---- a block whose residuals lie within the limit

module _ (w h ck : ℕ) (residuals : List ℤ) (sw : is_side w ≡ true) (sh : is_side h ≡ true) (has : has_kernel ck h ≡ true)
    (small : (p : ℕ) → p < w * h → nat_abs (get_or residuals p (pos 0)) ≤ 4095) where
  column_sum : (j f : ℕ) → j < w → f < h → nat_abs (pass_sum ck h w residuals j f) ≤ column_sum_size h
  unfolding column_sum_size
  column_sum j f bj bf = sum_size ck h w residuals 4095 j f sh has bf (λ k bk. small (k * w + j) (place_of bk bj))

  -- no sum of the first pass is larger than the largest
  pub column_sum_small : (j f : ℕ) → j < w → f < h → nat_abs (pass_sum ck h w residuals j f) ≤ largest_sum
  column_sum_small j f bj bf = le_trans (column_sum j f bj bf) (column_largest w h sw sh)

  -- the wrapped first pass is the exact one
  pub column_exact : (j f : ℕ) → j < w → f < h → pass_at ck h (first_shift w h) w residuals j f ≡ column_at w h ck residuals j f
  unfolding pass_at column_at
  column_exact j f bj bf =
      no_wrap (first_shift w h) (pass_sum ck h w residuals j f) (omega (arith, shift_bounds w h sw sh)) (column_sum_small j f bj bf)

  -- and so are the lines that a batch or a block writes of it
  pub column_lines_exact : (start count : ℕ) (scratch : List ℤ) → start + count ≤ w
      → column_lines w h ck residuals start count scratch
      ≡ laid scratch (start * h) (count * h) (λ p. column_at w h ck residuals (start + p / h) (p % h))
  unfolding column_lines pass_lines
  column_lines_exact start count scratch room =
      let some : 0 < h = omega (arith, side_bounds h sh) in
      laid_ext scratch (start * h) (count * h) _ _
      (λ p b. column_exact (start + p / h) (p % h) (omega (arith, (div-lt_iff_lt-mul {x = p} {y = count} some).1 b)) (mod-lt p some))

  column_size_lem : (j f : ℕ) → j < w → f < h → nat_abs (column_at w h ck residuals j f) ≤ column_size w h
  unfolding column_at column_size
  column_size_lem j f bj bf = round_size_lem (first_shift w h) (pass_sum ck h w residuals j f) (column_sum j f bj bf)

  columns_size : (p : ℕ) → p < w * h → nat_abs (get_or (columns w h ck residuals) p (pos 0)) ≤ column_size w h
  unfolding columns
  columns_size p b =
      let some : 0 < h = omega (arith, side_bounds h sh) in
      rw (get_or_tab (w * h) (λ p. column_at w h ck residuals (p / h) (p % h)) p (pos 0) b)
      (column_size_lem (p / h) (p % h) ((div-lt_iff_lt-mul some).1 b) (mod-lt p some))

  module _ (rk : ℕ) (has-row : has_kernel rk w ≡ true) where
    -- no sum of the second pass is larger than the largest
    pub row_sum_small : (j f : ℕ) → j < h → f < w → nat_abs (pass_sum rk w h (columns w h ck residuals) j f) ≤ largest_sum
    unfolding row_sum_size
    row_sum_small j f bj bf =
        le_trans
        (sum_size rk w h (columns w h ck residuals) (column_size w h) j f sw has-row bf (λ k bk. columns_size (k * h + j) (digits_lt bk bj)))
        (row_largest w h sw sh)

    -- over a scratch buffer that holds the first pass's numbers, the wrapped second pass is the exact one
    module _ (scratch : List ℤ)
        (holds : (j f : ℕ) → j < w → f < h → get_or scratch (j * h + f) (pos 0) ≡ column_at w h ck residuals j f) where
      same_sum : (j f : ℕ) → j < h → pass_sum rk w h scratch j f ≡ pass_sum rk w h (columns w h ck residuals) j f
      unfolding pass_sum
      same_sum j f bj =
          sum_same w _ _ (λ k bk. ap (λ (x : ℤ). kernel rk w f k *ℤ x) (holds k j bk bj ∙ sym (columns_at w h ck residuals k j bk bj)))

      pub row_pass_exact : (j f : ℕ) → j < h → f < w
          → pass_at rk w (second_shift w h) h scratch j f ≡ round_exact (second_shift w h) (pass_sum rk w h (columns w h ck residuals) j f)
      unfolding pass_at
      row_pass_exact j f bj bf =
          ap (round_shift (second_shift w h)) (same_sum j f bj)
          ∙ no_wrap (second_shift w h) (pass_sum rk w h (columns w h ck residuals) j f) (shift_bounds w h sw sh).second_high (row_sum_small j f bj bf)

      -- and scaled it is the block's output
      pub row_exact : (j f : ℕ) → j < h → f < w → rescaled w h (pass_at rk w (second_shift w h) h scratch j f) ≡ row_at w h ck rk residuals j f
      unfolding row_at
      row_exact j f bj bf = ap (rescaled w h) (row_pass_exact j f bj bf)

      pub row_lines_exact : (start count : ℕ) (output : List ℤ) → start + count ≤ h
          → row_lines w h rk scratch start count output
          ≡ laid output (start * w) (count * w) (λ p. row_at w h ck rk residuals (start + p / w) (p % w))
      unfolding row_lines
      row_lines_exact start count output room =
          let some : 0 < w = omega (arith, side_bounds w sw) in
          laid_ext output (start * w) (count * w) _ _
          (λ p b. row_exact (start + p / w) (p % w) (omega (arith, (div-lt_iff_lt-mul {x = p} {y = count} some).1 b)) (mod-lt p some))
