-- The DCT by one fold for every side: a stage of all lines, and the two samples that are left at last. Assumes nothing.
use mathlib.Core.Path.{◌≡◌, refl, sym, ap, ◌∙◌, subst}
use mathlib.Core.Bool.{true}
use mathlib.Core.List.{List, [], ◌∷◌}
use Prim.Native.Nat.{ℕ, zero, suc, ◌+◌, ◌*◌, ◌/◌, ◌^◌, ◌≤◌, ◌<◌}
use native.Mathlib.Nat.{pow-suc, mul-one, one-mul, zero-mul, mul_assoc}
use native.Mathlib.Omega.{arith}
use lib.Dec.{lit<}
use lib.IntN.{ℤ, pos, negsuc, ◌*ℤ◌}
use lib.Pow.{pow_pos}
use Rattle.laws.specs.Store.{stores, grid}
use Rattle.laws.proofs.Congruence.{cong_refl, cong_trans, cong_eq, cong_mul}
use Rattle.laws.proofs.Order.{odd_even}
use Rattle.laws.proofs.Place.{place_same, twice}
use Rattle.laws.proofs.Store.{stores_same, grid_same}
use Rattle.laws.proofs.Sum.{sum_same, sum_cong}
use Rattle.fixed.specs.Fixed.{round_shift}
use Rattle.fixed.proofs.Round.{round_shift_cong}
use Rattle.sizes.specs.Size.{is_side}
use Rattle.sizes.proofs.Side.{each_side, side_bounds}
use Rattle.kernels.specs.Dct.{dct, dct32}
use Rattle.kernels.specs.Kernel.{kernel}
use Rattle.kernels.proofs.Mirror.{Mirrors}
use Rattle.lines.specs.Line.{line_at, dot, from, place, Butterfly}
use Rattle.lines.specs.Pass.{pass_at, pass_sum}
use Rattle.lines.specs.Stage.{dct_sum}
use Rattle.lines.specs.Table.{OddSquare, OddSquares, square_at}
use Rattle.lines.proofs.Chain.{mirrors}
use Rattle.lines.proofs.Squares.{one_square}
use Rattle.lines.proofs.Stage.{begun, folded_next, odd_is, by_row}
use Rattle.passes.specs.Fold.{Even, Power, row, odd_row, odd_number, Rows, RowRoom, Halvable, HalvedLines, Folding, Passed}

-- ---- half of the numbers, of more than two

record Half (m : ℕ) : Type 0 where
  twice : 2 * (m / 2) ≡ m
  even : Even (m / 2)
  power : Power (m / 2)
  few : suc power.e < 5

halved : (m : ℕ) → Power m → (m ≡ 2 → ⊥) → Half m
halved m p more = go p.e p.is p.small
  where
    go : (e : ℕ) → m ≡ 2 ^ suc e → e ≤ 4 → Half m
    go zero i s = absurd (more i)
    go (suc e) i s =
        let a : 2 * 2 ^ suc e ≡ m = omega (arith, pow-suc 2 (suc e)) in
        let h : m / 2 ≡ 2 ^ suc e = omega arith in
        record { twice = omega arith; even = omega (arith, pow-suc 2 e); power = record { e = e; is = h; small = omega arith }; few = omega arith }

whole_power : (n : ℕ) → is_side n ≡ true → Power n
whole_power =
    each_side Power (record { e = 1; is = refl; small = omega arith }) (record { e = 2; is = refl; small = omega arith })
    (record { e = 3; is = refl; small = omega arith }) (record { e = 4; is = refl; small = omega arith })

-- ---- a stage of line j

pass_is : (m shift lines : ℕ) (ys : List ℤ) (j f : ℕ) → round_shift shift (dct_sum m f (line_at ys j lines)) ≡ pass_at 0 m shift lines ys j f
unfolding pass_at pass_sum kernel dct_sum
pass_is m shift lines ys j f = refl

module _ (h shift lines j : ℕ) (src sums diffs ts : List ℤ) (mirrors : Mirrors (2 * h)) (square : OddSquare h ts)
    (b : Butterfly h (line_at src j lines) (line_at sums j lines) (line_at diffs j lines)) where
  abbrev x : ℕ → ℤ
  x = line_at src j lines

  odd : (r : ℕ) → r < h → odd_number h shift lines ts diffs r j ≡ pass_at 0 (2 * h) shift lines src j (2 * r + 1)
  odd r l =
      let here : place 1 (2 * 1) r ≡ 2 * r + 1 = omega arith in
      odd_is (2 * h) h 1 x mirrors x (line_at sums j lines) (line_at diffs j lines) (begun (2 * h) x) b shift (line_at ts (square_at h + r * h) 1) r l
      (λ k i. by_row square r k l i)
      ∙ ap (λ (f : ℕ). round_shift shift (dct_sum (2 * h) f x)) here
      ∙ pass_is (2 * h) shift lines src j (2 * r + 1)

  even : (q : ℕ) → q < h → pass_at 0 h shift lines sums j q ≡ pass_at 0 (2 * h) shift lines src j (2 * q)
  unfolding dct_sum
  even q l =
      let f = folded_next (2 * h) h 1 x mirrors x (line_at sums j lines) (line_at diffs j lines) (begun (2 * h) x) b in
      let here : q * (2 * 1) ≡ 2 * q = omega arith in
      sym (pass_is h shift lines sums j q)
      ∙ round_shift_cong shift
      (cong_trans (sum_cong h _ (λ k. dct h q k *ℤ f.y k) (λ k i. cong_mul (cong_refl (2 ^ 32) (dct h q k)) (f.held k i)))
      (cong_eq (sym (f.rows q l) ∙ ap (λ (i : ℕ). dct_sum (2 * h) i x) here)))
      ∙ pass_is (2 * h) shift lines src j (2 * q)

-- ---- a stage of all lines: the odd frequencies, and those of the sums, are all of them

module _ (h step shift lines : ℕ) (some : 0 < step) (src sums diffs ts : List ℤ) (mirrors : Mirrors (2 * h)) (square : OddSquare h ts)
    (b : HalvedLines h lines src sums diffs) where
  places : ℕ → ℕ → ℕ
  places f = row lines (f * step)

  numbers : ℕ → ℕ → ℤ
  numbers f j = pass_at 0 (2 * h) shift lines src j f

  apart : (i k j f : ℕ) → j < lines → f < lines → places i j ≡ places k f → i ≡ k
  unfolding places
  apart i k j f u v e =
      let s : i * step ≡ k * step = (place_same {a = i * step} {b = j} {i = k * step} {h = f} {n = lines} u v e).0 in
      (place_same {a = i} {b = 0} {i = k} {h = 0} {n = step} some some (omega arith)).0

  stage_done : (o : List ℤ) {o₁ o' : List ℤ} → o₁ ≡ grid o h lines (odd_row lines step) (odd_number h shift lines ts diffs)
      → Passed h (2 * step) shift lines sums o₁ o' → Passed (2 * h) step shift lines src o o'
  unfolding places numbers
  stage_done o {o₁} u v =
      v
      ∙ grid_same o₁ h lines (λ f. row lines (f * (2 * step))) (λ r. places (2 * r)) (λ f j. pass_at 0 h shift lines sums j f) (λ r. numbers (2 * r))
      (λ r j a c. ap (λ (k : ℕ). row lines k j) (twice step r)) (λ r j a c. even h shift lines j src sums diffs ts mirrors square (b j c) r a)
      ∙ ap (λ (l : List ℤ). grid l h lines (λ r. places (2 * r)) (λ r. numbers (2 * r)))
      (u
      ∙ grid_same o h lines (odd_row lines step) (λ r. places (2 * r + 1)) (odd_number h shift lines ts diffs) (λ r. numbers (2 * r + 1)) (λ r j a c. refl)
      (λ r j a c. odd h shift lines j src sums diffs ts mirrors square (b j c) r a))
      ∙ odd_even lines places numbers apart o h

-- ---- two samples are left

-- by a row of the kernel of side 2
of_two : (f shift lines j : ℕ) (src : List ℤ) {a b : ℤ} → a ≡ dct 2 f 0 → b ≡ dct 2 f 1
    → round_shift shift (dot 2 (line_at (a ∷ b ∷ []) 0 1) (line_at src j lines)) ≡ pass_at 0 2 shift lines src j f
unfolding pass_at pass_sum dot kernel
of_two f shift lines j src {a} {b} u v = ap (round_shift shift) (sum_same 2 _ _ (λ k l. ap (λ (z : ℤ). z *ℤ line_at src j lines k) (factor k l)))
  where
    factor : (k : ℕ) → k < 2 → line_at (a ∷ b ∷ []) 0 1 k ≡ dct 2 f k
    factor zero l = u
    factor (suc zero) l = v
    factor (suc (suc k)) l = absurd (omega arith)

pub two_done : (step shift lines : ℕ) (src o : List ℤ) {o₁ o' : List ℤ}
    → o₁ ≡ stores o lines (from 0) (λ j. round_shift shift (dot 2 (line_at (pos 64 ∷ pos 64 ∷ []) 0 1) (line_at src j lines)))
    → o' ≡ stores o₁ lines (from (step * lines)) (λ j. round_shift shift (dot 2 (line_at (pos 64 ∷ negsuc 63 ∷ []) 0 1) (line_at src j lines)))
    → Passed 2 step shift lines src o o'
unfolding grid dct dct32
two_done step shift lines src o {o₁} u v =
    v
    ∙ stores_same o₁ lines (from (step * lines)) (row lines (1 * step)) _ (number 1) (λ j b. ap (λ (k : ℕ). k * lines + j) (sym (one-mul step)))
    (λ j b. of_two 1 shift lines j src refl refl)
    ∙ ap (λ (l : List ℤ). stores l lines (row lines (1 * step)) (number 1))
    (u
    ∙ stores_same o lines (from 0) (row lines (0 * step)) _ (number 0) (λ j b. ap (λ (k : ℕ). k + j) (sym (ap (λ (k : ℕ). k * lines) (zero-mul step) ∙ zero-mul lines)))
    (λ j b. of_two 0 shift lines j src refl refl))
  where
    number : ℕ → ℕ → ℤ
    number f j = pass_at 0 2 shift lines src j f

-- ---- what the fold of lines of m numbers asks of its pieces, and what these leave

module _ {m step lines ls lw lo : ℕ} {ts : List ℤ} (f : Folding m step lines ls lw lo ts) where
  pub two_asked : m ≡ 2 → Rows 2 lines ls × RowRoom 2 step lines lo
  two_asked two = (subst (λ (k : ℕ). Rows k lines ls) two f.rows, subst (λ (k : ℕ). RowRoom k step lines lo) two f.room)

  -- of more than two
  module _ (more : m ≡ 2 → ⊥) where
    abbrev half : ℕ
    half = m / 2

    parted : Half m
    parted = halved m f.power more

    -- half of the numbers
    product : (n : ℕ) → 2 * (half * n) ≡ m * n
    product n = sym (mul_assoc 2 half n) ∙ ap (λ (k : ℕ). k * n) parted.twice

    pub fewer : half < m
    fewer = let p = parted in omega (arith, p.power.is, pow_pos (suc p.power.e), p.twice)

    square : OddSquare half ts
    square = let p = parted in one_square (suc p.power.e) p.power.is f.squares (omega (arith, p.twice))

    pub square_asked : OddSquare half ts × Even half
    square_asked = (square, parted.even)

    pub halves_asked : {s d : ℕ} → s ≡ half * lines → d + half * lines ≡ lw → Halvable half lines ls s d × RowRoom (2 * half) step lines lo
    halves_asked u v =
        let w = f.work in
        rw parted.twice (record { rows = subst (λ (k : ℕ). Rows k lines ls) (sym parted.twice) f.rows; sums = omega arith; diffs = omega (arith, product lines) }, f.room)

    pub rest_asked : {s d o : ℕ} → s ≡ half * lines → d + half * lines ≡ lw → o ≡ lo → Folding half (2 * step) lines s d o ts
    rest_asked u v w =
        let p = parted in
        let k = f.work in
        let r = f.room in
        let i = r.some in
        let b = r.inside in
        let whole : half * (2 * step) ≡ m * step = twice step half ∙ ap (λ (k : ℕ). k * step) p.twice in
        record {
          power = p.power;
          squares = λ d e. f.squares d (omega (arith, p.twice));
          rows = record { sided = f.rows.sided; few = omega (arith, f.rows.few, p.twice); inside = omega arith };
          work = omega (arith, product lines);
          room = record { some = omega arith; small = subst (λ (k : ℕ). k ≤ 32) (sym whole) r.small; inside = omega (arith, ap (λ (k : ℕ). k * lines) whole) };
        }

    pub rest_done : (shift : ℕ) (src sums diffs o : List ℤ) {o₁ o' : List ℤ}
        → HalvedLines half lines src sums diffs → o₁ ≡ grid o half lines (odd_row lines step) (odd_number half shift lines ts diffs)
        → Passed half (2 * step) shift lines sums o₁ o' → Passed m step shift lines src o o'
    rest_done shift src sums diffs o {o₁} {o'} b u v =
        let p = parted in
        subst (λ (k : ℕ). Passed k step shift lines src o o') p.twice
        (stage_done half step shift lines f.room.some src sums diffs ts (mirrors (suc p.power.e) half p.power.is p.few) square b o u v)

-- the whole fold of a side
pub whole_asked : (n : ℕ) {lines ls lw lo : ℕ} {ts : List ℤ} → is_side n ≡ true → OddSquares n ts → is_side lines ≡ true → n * lines ≤ ls → n * lines ≤ lw
    → n * lines ≤ lo → Folding n 1 lines ls lw lo ts
whole_asked n {lines} side squares sided inside work room =
    let small = (side_bounds n side).high in
    record {
      power = whole_power n side;
      squares = squares;
      rows = record { sided = sided; few = small; inside = inside };
      work = work;
      room = record { some = lit< tt; small = omega (arith, mul-one n); inside = omega (arith, ap (λ (k : ℕ). k * lines) (mul-one n)) };
    }
