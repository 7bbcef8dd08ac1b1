-- Two passes, each of which turns the block, are the columns and then the rows. Assumes nothing.
use mathlib.Core.Path.{◌≡◌, ap, ◌∙◌}
use mathlib.Core.Bool.{true}
use mathlib.Core.List.{List}
use Prim.Native.Nat.{ℕ, ◌+◌, ◌*◌, ◌/◌, ◌%◌, ◌^◌, ◌≤◌, ◌<◌}
use native.Mathlib.Nat.{add_comm, le_trans}
use native.Mathlib.Omega.{arith}
use lib.Dec.{lit≤}
use lib.IntN.{ℤ, pos}
use lib.ListN.{length, get_or}
use Rattle.laws.specs.Store.{laid}
use Rattle.laws.proofs.Filled.{front_at}
use Rattle.residual.specs.Residual.{residuals_ok}
use Rattle.residual.proofs.Residual.{residual_size}
use Rattle.wht.specs.Wht.{line_of, columns, rows, wht_of}
use Rattle.wht.specs.Turned.{turned, Sized}
use Rattle.wht.proofs.Size.{line_size}

-- a line by its four numbers
line_ext : (x y : ℕ → ℤ) → ((k : ℕ) → k ≤ 3 → x k ≡ y k) → (f : ℕ) → line_of x f ≡ line_of y f
unfolding line_of
line_ext x y e f = rw (e 0 (lit≤ tt), e 1 (lit≤ tt), e 2 (lit≤ tt), e 3 (lit≤ tt))

-- place k of row q of the turned block is place q of column k
across : (l : List ℤ) (q k : ℕ) → q ≤ 3 → k ≤ 3 → turned l (q + k * 4) ≡ columns (λ i. get_or l i (pos 0)) (q * 4 + k)
unfolding turned columns
across l q k hq hk =
    let a : (q + k * 4) / 4 ≡ k = omega arith in
    let b : (q + k * 4) % 4 ≡ q = omega arith in
    let c : (q * 4 + k) % 4 ≡ k = omega arith in
    let d : (q * 4 + k) / 4 ≡ q = omega arith in
    rw (a, b, c, d) (line_ext _ _ (λ i h. ap (λ (n : ℕ). get_or l n (pos 0)) (add_comm k (i * 4))) q)

module _ (l m : List ℤ) (is : (k : ℕ) → k < 16 → get_or m k (pos 0) ≡ turned l k) where
  pub turned_twice : (p : ℕ) → p < 16 → turned m p ≡ wht_of l p
  unfolding turned wht_of rows
  turned_twice p h =
      line_ext (λ k. get_or m (p / 4 + k * 4) (pos 0)) (λ k. columns (λ i. get_or l i (pos 0)) (p / 4 * 4 + k))
      (λ k b. is (p / 4 + k * 4) (omega arith) ∙ across l (p / 4) k (omega arith) b) (p % 4)

-- ---- d after the first pass over residuals l

module _ (d l : List ℤ) (room : 16 ≤ length d) where
  pub first_at : (k : ℕ) → k < 16 → get_or (laid d 0 16 (turned l)) k (pos 0) ≡ turned l k
  first_at k h = front_at d 16 (turned l) (pos 0) room k h

  pub first_sized : residuals_ok 16 l ≡ true → Sized (2 ^ 20) (laid d 0 16 (turned l))
  unfolding turned
  first_sized ok =
      record {
        size = λ k h.
            rw (first_at k h)
            (le_trans (line_size 4095 (λ i. get_or l (k / 4 + i * 4) (pos 0)) (λ i b. residual_size 16 l ok (k / 4 + i * 4) (omega arith)) (k % 4)) (lit≤ tt));
      }

-- residuals are small
pub sized : (l : List ℤ) → residuals_ok 16 l ≡ true → Sized (2 ^ 20) l
sized l ok = record { size = λ k h. le_trans (residual_size 16 l ok k h) (lit≤ tt) }
