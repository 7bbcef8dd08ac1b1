-- What a chain of stages asks at each length, and what it leaves. Assumes nothing.
use mathlib.Core.Path.{◌≡◌, sym, ap, ◌∙◌, subst}
use mathlib.Core.List.{List}
use Prim.Native.Nat.{ℕ, suc, ◌*◌, ◌^◌, ◌≤◌, ◌<◌}
use native.Mathlib.Nat.{mul-one, pow-suc}
use native.Mathlib.Omega.{arith}
use lib.Dec.{lit<, lit≤}
use lib.IntN.{ℤ, pos}
use lib.ListN.{length, get_or, take}
use Rattle.std.proofs.lemmas.List.{get_or-take, length-take-le}
use Rattle.laws.specs.Store.{stores}
use Rattle.laws.proofs.Place.{twice}
use Rattle.laws.proofs.Store.{length_stores, stores_ext, stores_front}
use Rattle.kernels.specs.Mirror.{Symmetric}
use Rattle.kernels.proofs.Mirror.{Mirrors, mirror, symmetry}
use Rattle.lines.specs.Line.{line_at, itself, number, rounded, Halved}
use Rattle.lines.specs.Stage.{Partly, Finished, Staging, Completes}
use Rattle.lines.specs.Table.{OddSquare, OddSquares}
use Rattle.lines.proofs.Squares.{one_square}
use Rattle.lines.proofs.Stage.{begin, stage, finish}

-- a stage of twice h numbers, where h is 2 ^ d
module _ (d h : ℕ) (power : h ≡ 2 ^ d) (few : d < 5) where
  pub mirrors : Mirrors (2 * h)
  mirrors = let e : 2 ^ suc d ≡ 2 * h = omega (arith, pow-suc 2 d, power) in subst Mirrors e (mirror d few)

  symmetric : Symmetric h
  symmetric = subst Symmetric (sym power) (symmetry d few)

  module _ (step : ℕ) {count lo : ℕ} {ts : List ℤ} (r : Staging (2 * h) step count lo ts) where
    square : OddSquare h ts
    square = one_square d power r.squares (omega arith)

    pub rest_asked : {count' lo' : ℕ} → count' ≡ h → lo' ≡ lo → Staging h (2 * step) count' lo' ts
    rest_asked whole long =
        record {
          some = let s = r.some in omega arith;
          small = subst (λ (n : ℕ). n ≤ 32) (sym (twice step h)) r.small;
          squares = λ e b. r.squares e (omega arith);
          whole = whole;
          room = let e = twice step h in let b = r.room in omega arith;
        }

    pub completed : {shift : ℕ} {z : ℕ → ℤ} {o ss o₁ o' : List ℤ} → Halved h step shift ts z o ss o₁
        → Completes h (2 * step) shift (line_at ss 0 1) o₁ o' → Completes (2 * h) step shift z o o'
    completed {shift} {ss = ss} {o₁ = o₁} {o'} f c x p =
        subst (λ (n : ℕ). Finished n shift x o') (twice step h)
        (c x
        (subst (λ (n : ℕ). Partly n (2 * step) h shift x (line_at ss 0 1) o₁) (sym (twice step h)) (stage h step r.some mirrors symmetric square p f)))

-- the last stage, and the number that remains
pub last_completed : (step : ℕ) {count lo : ℕ} {ts : List ℤ} → Staging 2 step count lo ts
    → {shift : ℕ} {z : ℕ → ℤ} {o ss o₁ o' : List ℤ} → Halved 1 step shift ts z o ss o₁
    → o' ≡ stores o₁ 1 itself (rounded shift 1 ts 0 (line_at ss 0 1)) → Completes 2 step shift z o o'
last_completed step r f e x p =
    let s = r.some in
    let square = r.squares 0 (lit≤ tt) in
    finish (2 * step) (omega arith) square (stage 1 step r.some (mirror 0 (lit< tt)) (symmetry 0 (lit< tt)) square p f) e

-- all stages of a side
pub whole_asked : (n : ℕ) {count lo : ℕ} {ts : List ℤ} → n ≤ 32 → OddSquares n ts → count ≡ n → n ≤ lo → Staging n 1 count lo ts
whole_asked n {count} {lo} small squares whole room =
    record {
      some = omega arith;
      small = omega (arith, mul-one n);
      squares = squares;
      whole = whole;
      room = omega (arith, mul-one n);
    }

pub whole_completed : (n shift : ℕ) {z : ℕ → ℤ} (o : List ℤ) {o' : List ℤ} → n ≤ length o → Completes n 1 shift z o o'
    → Finished n shift z o'
whole_completed n shift {z} o {o'} long c =
    subst (λ (m : ℕ). Finished m shift z o') (mul-one n)
    (c z (subst (λ (m : ℕ). Partly m 1 n shift z z o) (sym (mul-one n)) (begin n shift z o long)))

-- the frequencies of a stage, from where they were summed side by side to where they belong
pub spread_out : (h : ℕ) (q : ℕ → ℕ) (g : ℕ → ℤ) (zeros o : List ℤ) {y o' : List ℤ} → h ≤ length zeros → y ≡ stores zeros h itself g
    → o' ≡ stores o (length (take h y)) q (number (take h y)) → o' ≡ stores o h q g
spread_out h q g zeros o {y} room ey e =
    let long : h ≤ length y = omega (arith, ap length ey, length_stores zeros h itself g) in
    e ∙ ap (λ (n : ℕ). stores o n q (number (take h y))) (length-take-le h y long)
    ∙ stores_ext o h q (number (take h y)) g
    (λ r b. get_or-take h y r (pos 0) b ∙ ap (λ (l : List ℤ). get_or l r (pos 0)) ey ∙ stores_front zeros h g r (pos 0) b room)
