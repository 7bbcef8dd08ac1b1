-- What an accepted block knows of its arguments. Assumes nothing.
use mathlib.Core.Path.{◌≡◌, ap, subst}
use mathlib.Core.Logic.{⊎_elim}
use mathlib.Core.Bool.{Bool, true, not, ◌&&◌, ◌||◌}
use mathlib.Core.List.{List}
use Prim.Native.Nat.{ℕ, ◌*◌, ◌≤◌}
use native.Mathlib.Nat.{lt_of_le_of_lt}
use lib.Dec.{T, ltb, eqb, lit<}
use lib.IntN.{ℤ}
use lib.ListN.{length}
use borrow.Author.Tests.{not-false, ltb-false, eqb-true}
use Rattle.laws.proofs.Bool.{both, either, neither}
use Rattle.answer.specs.Answer.{answers, lowest, is_small}
use Rattle.answer.proofs.Answer.{passed, guarded_small}
use Rattle.sizes.specs.Size.{is_side}
use Rattle.sizes.proofs.Side.{size_small}
use Rattle.kernels.specs.Kernel.{has_kernel}
use Rattle.residual.specs.Residual.{residuals_ok}
use Rattle.block.specs.Call.{is_kind, has_kinds, refusals, block_answer}

-- kinds that a block may have are kinds with kernels at its sides
kernels_of : (w h kind : ℕ) → is_kind w h kind ≡ true → (has_kernel kind h ≡ true) × (has_kernel kind w ≡ true)
unfolding is_kind has_kernel
kernels_of w h kind e =
    ⊎_elim
    (λ u. (ap (λ (x : Bool). x || (eqb kind 1 && not (eqb h 32))) u, ap (λ (x : Bool). x || (eqb kind 1 && not (eqb w 32))) u))
    (λ r. let k = both (eqb w h) (has_kernel kind w) r in (subst (λ (n : ℕ). has_kernel kind n ≡ true) (eqb-true w h k.0) k.1, k.1))
    (either (eqb kind 0) (eqb w h && has_kernel kind w) e)

pub kernels : (w h ck rk : ℕ) → has_kinds w h ck rk ≡ true → (has_kernel ck h ≡ true) × (has_kernel rk w ≡ true)
unfolding has_kinds
kernels w h ck rk e =
    let k = both (is_kind w h ck) (is_kind w h rk) e in ((kernels_of w h ck k.0).0, (kernels_of w h rk k.1).1)

pub record Accepted (w h ck rk : ℕ) (residuals : List ℤ) (ls lo : ℕ) : Type 0 where
  pub wide : is_side w ≡ true
  pub high : is_side h ≡ true
  pub column_kernel : has_kernel ck h ≡ true
  pub row_kernel : has_kernel rk w ≡ true
  pub residuals_long : w * h ≤ length residuals
  pub scratch_long : w * h ≤ ls
  pub output_long : w * h ≤ lo
  pub small : residuals_ok (w * h) residuals ≡ true

-- of any answer n, so that openings, whose answer is another, use it too
pub accepted : {w h ck rk : ℕ} {residuals : List ℤ} {ls lo m : ℕ} (n : ℕ)
    → answers m ≡ lowest (refusals w h ck rk residuals ls lo) n → Accepted w h ck rk residuals ls lo
unfolding refusals
accepted {w} {h} {ck} {rk} {residuals} {ls} {lo} n e =
    let a = passed _ _ _ _ _ e in
    let b = passed _ _ _ _ _ a.1 in
    let c = passed _ _ _ _ _ b.1 in
    let d = passed _ _ _ _ _ c.1 in
    let s = both (is_side w) (is_side h) (not-false _ a.0) in
    let k = kernels w h ck rk (not-false _ b.0) in
    let l = neither (ltb (length residuals) (w * h)) (ltb ls (w * h) || ltb lo (w * h)) c.0 in
    let m = neither (ltb ls (w * h)) (ltb lo (w * h)) l.1 in
    record {
      wide = s.0;
      high = s.1;
      column_kernel = k.0;
      row_kernel = k.1;
      residuals_long = ltb-false _ _ l.0;
      scratch_long = ltb-false _ _ m.0;
      output_long = ltb-false _ _ m.1;
      small = not-false _ d.0;
    }

-- what a block gives back is small
pub block_small : (w h ck rk : ℕ) (residuals : List ℤ) (ls lo : ℕ) → T (is_small (block_answer w h ck rk residuals ls lo))
unfolding block_answer refusals
block_small w h ck rk residuals ls lo =
    guarded_small _ _ _ _
    (λ e.
    let s = both (is_side w) (is_side h) (not-false _ e) in
    lt_of_le_of_lt (size_small w h s.0 s.1) (lit< tt))
