-- The DCT by folds, generally over the side: each stage folds what is left of the line to half its length and settles the odd
-- frequencies among those that are left, until one number remains. A side's proof is a chain of `stage`, closed by `finish`. Assumes nothing.
use mathlib.Core.Path.{◌≡◌, refl, sym, ap, ap₂, ◌∙◌, subst}
use mathlib.Core.Logic.{⊎_elim}
use mathlib.Core.List.{List}
use Prim.Native.Nat.{ℕ, zero, suc, ◌+◌, ◌-◌, ◌*◌, ◌^◌, ◌≤◌, ◌<◌}
use native.Mathlib.Nat.{mul_comm, mul-one, one-mul, zero-mul, add-mul, mul-le-mul_right, eq-or-lt_of_le}
use native.Mathlib.Omega.{arith}
use lib.IntN.{ℤ, pos, ◌+ℤ◌, ◌-ℤ◌, ◌*ℤ◌}
use lib.ListN.{length, get_or}
use Rattle.laws.specs.Sum.{sum_to}
use Rattle.laws.specs.Store.{stores}
use Rattle.laws.proofs.Sum.{sum_same, sum_cong, even_fold, odd_fold}
use Rattle.laws.proofs.Store.{stores_front, stores_in, stores_out, length_stores}
use Rattle.laws.proofs.Place.{place_same, split, twice}
use Rattle.laws.proofs.Congruence.{Cong, cong_refl, cong_trans, cong_eq, cong_add, cong_sub, cong_mul}
use Rattle.laws.proofs.Wrap.{wrap32_is}
use Rattle.fixed.specs.Fixed.{round_shift}
use Rattle.fixed.proofs.Round.{round_shift_cong}
use Rattle.kernels.specs.Dct.{dct, dct32}
use Rattle.kernels.specs.Mirror.{Symmetric, odd_half}
use Rattle.kernels.proofs.Dct.{dct_scale}
use Rattle.kernels.proofs.Mirror.{Mirrors, even_kept, odd_negated}
use Rattle.lines.specs.Stage.{dct_sum, Folded, Settled, Partly, Finished}
use Rattle.lines.specs.Table.{OddSquare, square_at}
use Rattle.lines.specs.Line.{line_at, dot, itself, place, rounded, Butterfly, Halved}

-- ---- one fold

first : (k : ℕ) → k * 1 + 0 ≡ k
first k = omega arith

odd_place : (s q : ℕ) → place s (2 * s) q ≡ (2 * q + 1) * s
odd_place s q = omega (arith, twice s q, add-mul (2 * q) 1 s, one-mul s)

module _ (n h s : ℕ) (x : ℕ → ℤ) (mirrors : Mirrors (2 * h)) where
  even_row : (y : ℕ → ℤ) (g : ℕ) → g < h → dct_sum (2 * h) (2 * g) y ≡ dct_sum h g (λ k. y k +ℤ y (2 * h - 1 - k))
  unfolding dct_sum Mirrors
  even_row y g b =
      even_fold h (dct (2 * h) (2 * g)) y
      (λ k l. mirrors (2 * g) k (omega arith) (omega arith) ∙ even_kept g (dct (2 * h) (2 * g) k))
      ∙ sum_same h _ _
      (λ k l. ap (λ (z : ℤ). z *ℤ (y k +ℤ y (2 * h - 1 - k)))
      (ap₂ (λ (a c : ℕ). dct a c k) (mul_comm 2 h) (mul_comm 2 g) ∙ dct_scale h 2 g k (omega arith)))

  odd_row : (y : ℕ → ℤ) (g : ℕ) → g < h
      → dct_sum (2 * h) (2 * g + 1) y ≡ sum_to h (λ k. dct (2 * h) (2 * g + 1) k *ℤ (y k -ℤ y (2 * h - 1 - k)))
  unfolding dct_sum Mirrors
  odd_row y g b =
      odd_fold h (dct (2 * h) (2 * g + 1)) y
      (λ k l. mirrors (2 * g + 1) k (omega arith) (omega arith) ∙ odd_negated g (dct (2 * h) (2 * g + 1) k))

  module _ (z a d : ℕ → ℤ) (f : Folded n s (2 * h) x z) (b : Butterfly h z a d) where
    pub folded_next : Folded n (2 * s) h x a
    folded_next =
        record {
          y = λ k. f.y k +ℤ f.y (2 * h - 1 - k);
          held = λ k l.
              cong_trans (cong_eq (b.sums k l)) (cong_trans (wrap32_is _) (cong_add (f.held k (omega arith)) (f.held (2 * h - 1 - k) (omega arith))));
          rows = λ g l.
              ap (λ (i : ℕ). dct_sum n i x) (twice s g) ∙ f.rows (2 * g) (omega arith) ∙ even_row f.y g l;
        }

    -- an odd frequency, from the differences and its row of the odd square
    pub odd_is : (shift : ℕ) (w : ℕ → ℤ) (q : ℕ) → q < h → ((k : ℕ) → k < h → w k ≡ odd_half h q k)
        → round_shift shift (dot h w d) ≡ round_shift shift (dct_sum n (place s (2 * s) q) x)
    unfolding dot
    odd_is shift w q l factor =
        round_shift_cong shift
        (cong_trans
        (sum_cong h _ (λ k. dct (2 * h) (2 * q + 1) k *ℤ (f.y k -ℤ f.y (2 * h - 1 - k)))
        (λ k i. cong_mul (cong_eq (factor k i)) (difference k i)))
        (cong_eq (sym (odd_row f.y q l) ∙ sym (f.rows (2 * q + 1) (omega arith)) ∙ ap (λ (i : ℕ). dct_sum n i x) (sym here))))
      where
        here : place s (2 * s) q ≡ (2 * q + 1) * s
        here = odd_place s q

        difference : (k : ℕ) → k < h → Cong (2 ^ 32) (d k) (f.y k -ℤ f.y (2 * h - 1 - k))
        difference k i =
            cong_trans (cong_eq (b.diffs k i))
            (cong_trans (wrap32_is _) (cong_sub (f.held k (omega arith)) (f.held (2 * h - 1 - k) (omega arith))))

-- ---- the numbers of an odd square, as they are read

module _ {h : ℕ} {ts : List ℤ} (t : OddSquare h ts) where
  pub by_row : (q k : ℕ) → q < h → k < h → line_at ts (square_at h + q * h) 1 k ≡ odd_half h q k
  by_row q k l i = let p : k * 1 + (square_at h + q * h) ≡ square_at h + (q * h + k) = omega arith in ap (λ (j : ℕ). get_or ts j (pos 0)) p ∙ t.entry q k l i

  by_column : Symmetric h → (q k : ℕ) → q < h → k < h → line_at ts (square_at h + q) h k ≡ odd_half h q k
  unfolding Symmetric
  by_column symmetric q k l i =
      let p : k * h + (square_at h + q) ≡ square_at h + (k * h + q) = omega arith in
      ap (λ (j : ℕ). get_or ts j (pos 0)) p ∙ t.entry k q i l ∙ symmetric k q i l

-- ---- what is settled

module _ (n h s shift : ℕ) (x : ℕ → ℤ) (e : n ≡ 2 * h * s) (some : 0 < s) where
  settled_next : (o : List ℤ) (g : ℕ → ℤ) → n ≤ length o → Settled n s shift x o
      → ((q : ℕ) → q < h → g q ≡ round_shift shift (dct_sum n (place s (2 * s) q) x))
      → Settled n (2 * s) shift x (stores o h (place s (2 * s)) g)
  settled_next o g long before now = record { at = by_rest }
    where
      -- the stored places, one to a q
      apart : (q i : ℕ) → place s (2 * s) q ≡ place s (2 * s) i → q ≡ i
      apart q i u = (place_same {a = q} {b = 0} {i = i} {h = 0} {n = 2 * s} (omega arith) (omega arith) (omega arith)).0

      -- r below s: nothing is stored there
      kept : (q r : ℕ) → 0 < r → r < s → (i : ℕ) → q * s + r ≡ place s (2 * s) i → ⊥
      kept q r b c i u =
          let z = (place_same {a = q} {b = r} {i = 2 * i + 1} {h = 0} {n = s} c some (omega (arith, odd_place s i))).1 in omega arith

      -- what was settled before stays
      old : (p q r : ℕ) → p ≡ q * s + r → 0 < r → r < s → p < n
          → get_or (stores o h (place s (2 * s)) g) p (pos 0) ≡ round_shift shift (dct_sum n p x)
      old p q r u b c d =
          stores_out o h (place s (2 * s)) g p (pos 0) (λ i l v. kept q r b c i (sym u ∙ v))
          ∙ subst (λ (i : ℕ). get_or o i (pos 0) ≡ round_shift shift (dct_sum n i x)) (sym u) (before.at q r b c (omega arith))

      -- what is stored now
      new : (p q : ℕ) → p ≡ place s (2 * s) q → p < n → get_or (stores o h (place s (2 * s)) g) p (pos 0) ≡ round_shift shift (dct_sum n p x)
      new p q u d =
          let l : q < h = ⊎_elim (λ a. a) (λ a. absurd (let m : 2 * h * s ≤ 2 * q * s = mul-le-mul_right s (omega arith) in omega (arith, twice s q))) (split q h) in
          subst (λ (i : ℕ). get_or (stores o h (place s (2 * s)) g) i (pos 0) ≡ round_shift shift (dct_sum n i x)) (sym u)
          (stores_in o h (place s (2 * s)) g q (pos 0) l (omega arith) (λ i b v. apart q i v) ∙ now q l)

      by_rest : (q r : ℕ) → 0 < r → r < 2 * s → q * (2 * s) + r < n
          → get_or (stores o h (place s (2 * s)) g) (q * (2 * s) + r) (pos 0) ≡ round_shift shift (dct_sum n (q * (2 * s) + r) x)
      by_rest q r b c d =
          ⊎_elim (λ l. old (q * (2 * s) + r) (2 * q) r (omega (arith, twice s q)) b l d)
          (λ m.
          ⊎_elim (λ u. new (q * (2 * s) + r) q (omega arith) d)
          (λ l. old (q * (2 * s) + r) (2 * q + 1) (r - s) (omega (arith, odd_place s q)) (omega arith) (omega arith) d)
          (eq-or-lt_of_le m))
          (split r s)

pub begun : (n : ℕ) (z : ℕ → ℤ) → Folded n 1 n z z
begun n z = record { y = z; held = λ k l. cong_refl (2 ^ 32) (z k); rows = λ g l. ap (λ (i : ℕ). dct_sum n i z) (mul-one g) }

pub begin : (n shift : ℕ) (z : ℕ → ℤ) (o : List ℤ) → n ≤ length o → Partly n 1 n shift z z o
begin n shift z o long = record { left = begun n z; settled = record { at = λ q r b c d. absurd (omega arith) }; long = long }

pub stage : (h s : ℕ) {shift : ℕ} {x z : ℕ → ℤ} {o ss o' ts : List ℤ} → 0 < s
    → Mirrors (2 * h) → Symmetric h → OddSquare h ts → Partly (2 * h * s) s (2 * h) shift x z o
    → Halved h s shift ts z o ss o'
    → Partly (2 * h * s) (2 * s) h shift x (line_at ss 0 1) o'
stage h s {shift} {x} {z} {o} {ss} {o'} {ts} some mirrors symmetric t p f =
    let n = 2 * h * s in
    let ds = f.ds in
    let u = f.odd in
    let sums = line_at ss 0 1 in
    let diffs = line_at ds 0 1 in
    let b : Butterfly h z sums diffs =
    record {
      sums = λ k l. ap (λ (i : ℕ). get_or ss i (pos 0)) (first k) ∙ f.butterfly.sums k l;
      diffs = λ k l. ap (λ (i : ℕ). get_or ds i (pos 0)) (first k) ∙ f.butterfly.diffs k l;
    } in
    record {
      left = folded_next n h s x mirrors z sums diffs p.left b;
      settled = subst (Settled n (2 * s) shift x) (sym u)
          (settled_next n h s shift x refl some o (rounded shift h ts (square_at h) diffs) p.long p.settled
          (λ q l. odd_is n h s x mirrors z sums diffs p.left b shift (line_at ts (square_at h + q) h) q l (λ k i. by_column t symmetric q k l i)));
      long = omega (arith, p.long, ap length u, length_stores o h (place s (2 * s)) (rounded shift h ts (square_at h) (line_at ds 0 1)));
    }

-- 64, which the square of 1 has of frequency 1, is frequency 0's number too
only : dct 2 1 0 ≡ dct 1 0 0
unfolding dct dct32
only = refl

zeroth : (n shift : ℕ) {x z : ℕ → ℤ} {ts : List ℤ} → OddSquare 1 ts
    → Folded n n 1 x z → rounded shift 1 ts 0 z 0 ≡ round_shift shift (dct_sum n 0 x)
unfolding dot dct_sum
zeroth n shift {x} {z} {ts} t f =
    round_shift_cong shift
    (cong_trans (sum_cong 1 _ (λ k. dct 1 0 k *ℤ f.y k) (λ k l. cong_mul (cong_eq (factor k l)) (f.held k l)))
    (cong_eq (sym (whole (f.rows 0 (omega arith))))))
  where
    factor : (k : ℕ) → k < 1 → line_at ts (0 + 0) 1 k ≡ dct 1 0 k
    factor zero l = t.entry 0 0 l l ∙ only
    factor (suc k) l = absurd (omega arith)

    whole : dct_sum n (0 * n) x ≡ dct_sum 1 0 f.y → dct_sum n 0 x ≡ sum_to 1 (λ k. dct 1 0 k *ℤ f.y k)
    whole e = ap (λ (i : ℕ). dct_sum n i x) (sym (zero-mul n)) ∙ e

-- the number that remains is frequency 0's
pub finish : (n : ℕ) {shift : ℕ} {x z : ℕ → ℤ} {o o' ts : List ℤ} → 0 < n → OddSquare 1 ts
    → Partly n n 1 shift x z o → o' ≡ stores o 1 itself (rounded shift 1 ts 0 z)
    → Finished n shift x o'
finish n {shift} {x} {z} {o} {o'} {ts} some t p u = record { at = settle }
  where
    here : (f : ℕ) → 0 * n + suc f ≡ suc f
    here f = omega (arith, zero-mul n)

    settle : (f : ℕ) → f < n → get_or o' f (pos 0) ≡ round_shift shift (dct_sum n f x)
    settle zero l =
        ap (λ (a : List ℤ). get_or a 0 (pos 0)) u
        ∙ stores_front o 1 (rounded shift 1 ts 0 z) 0 (pos 0) (omega arith) (omega (arith, p.long))
        ∙ zeroth n shift t p.left
    settle (suc f) l =
        ap (λ (a : List ℤ). get_or a (suc f) (pos 0)) u
        ∙ stores_out o 1 itself (rounded shift 1 ts 0 z) (suc f) (pos 0) (λ k b e. omega arith)
        ∙ subst (λ (i : ℕ). get_or o i (pos 0) ≡ round_shift shift (dct_sum n i x)) (here f) (p.settled.at 0 (suc f) (omega arith) l (omega (arith, zero-mul n)))
