-- A loop over the lines of a pass, at any side and of any kind. Assumes nothing.
use mathlib.Core.Path.{◌≡◌, sym, ap, ◌∙◌, subst}
use mathlib.Core.List.{List}
use Prim.Native.Nat.{ℕ, ◌+◌, ◌*◌, ◌/◌, ◌%◌, ◌≤◌, ◌<◌}
use native.Mathlib.Nat.{mul-le-mul_right, add-mul, zero-mul, zero-add, add_assoc}
use native.Mathlib.Omega.{arith}
use lib.IntN.{ℤ, pos}
use Rattle.laws.specs.Store.{stores, laid}
use Rattle.laws.proofs.Place.{line_ends}
use Rattle.laws.proofs.Store.{Lined, lined_none, lined_turn, lined_more, lined_length}
use Rattle.laws.proofs.Laid.{grid_laid, stores_laid, laid_ext, laid_at}
use lib.ListN.{length, get_or}
use Rattle.lines.specs.Line.{from, number}
use Rattle.lines.specs.Pass.{pass_at, pass_lines}
use Rattle.lines.specs.Room.{PassRoom, LineRoom, on_line}

-- the i-th line from start on: its places, where it is stored as the i-th from first on, and its numbers
abbrev pub places : ℕ → ℕ → ℕ → ℕ → ℕ
places n first i = on_line n (first + i)

abbrev pub numbers : ℕ → ℕ → ℕ → ℕ → List ℤ → ℕ → ℕ → ℕ → ℤ
numbers kind n shift lines src start i = pass_at kind n shift lines src (start + i)

-- i lines from start on are written, as lines from first on
pub record Written (kind n shift lines : ℕ) (src : List ℤ) (start first i : ℕ) (dst dst₀ : List ℤ) : Type 0 where
  pub lined : Lined dst dst₀ i n (places n first) (numbers kind n shift lines src start)

module _ {kind n shift lines : ℕ} {src : List ℤ} {start first : ℕ} where
  pub none_yet : {dst : List ℤ} → Written kind n shift lines src start first 0 dst dst
  none_yet = record { lined = lined_none }

  -- one line more
  pub one_more : {i : ℕ} {dst dst₀ dst' : List ℤ} → Written kind n shift lines src start first i dst dst₀
      → dst' ≡ stores dst n (on_line n (first + i)) (pass_at kind n shift lines src (start + i))
      → Written kind n shift lines src start first (i + 1) dst' dst₀
  one_more w e = record { lined = lined_turn w.lined e }

  pub same_long : {i : ℕ} {dst dst₀ : List ℤ} → Written kind n shift lines src start first i dst dst₀ → length dst ≡ length dst₀
  same_long w = lined_length w.lined

  -- all of them
  all_laid : {i : ℕ} {dst dst₀ : List ℤ} → 0 < n → first * n + i * n ≤ length dst₀ → Written kind n shift lines src start first i dst dst₀
      → dst ≡ laid dst₀ (first * n) (i * n) (λ p. pass_at kind n shift lines src (start + p / n) (p % n))
  all_laid {i} {dst} {dst₀} some room w =
      w.lined.is ∙ grid_laid dst₀ (first * n) i n (places n first) (numbers kind n shift lines src start) some room
      (λ j f. omega (arith, add-mul first j n)) (pos 0)

-- ---- lines stored where they belong: line j as line j

-- count lines from start on end within dst
pub lines_end : {n lines start count ls ld : ℕ} → PassRoom n lines start count ls ld → start * n + count * n ≤ ld
lines_end {n} {lines} {start} {count} r = let d = r.dst in omega (arith, add-mul start count n)

-- m of them, from the i-th on
pub some_lines : {n lines start count ls ld : ℕ} (i m : ℕ) → PassRoom n lines start count ls ld → i + m ≤ count
    → PassRoom n lines (start + i) m ls ld
some_lines {n} {lines} {start} {count} i m r b =
    let e = r.ends in let s = r.src in let d = r.dst in
    let u : (start + i + m) * n ≤ (start + count) * n = mul-le-mul_right n (omega arith) in
    record { small = r.small; ends = omega arith; src = omega arith; dst = omega arith }

-- one of them, the i-th, stored as line to of a buffer of length lo
line_within : {n lines start count ls ld i to lo : ℕ} → 0 < n → n ≤ 32 → PassRoom n lines start count ls ld → i < count → to ≤ 32
    → to * n + n ≤ lo → LineRoom n lines (start + i) ls to lo
line_within some side r b few room =
    let s = r.src in
    record { some = some; side = side; src = record { last = omega arith }; few = few; dst = room }

module _ {kind n shift lines : ℕ} {src : List ℤ} {start : ℕ} where
  -- the next line lies within the buffers
  pub next_line : {i count ls : ℕ} {dst dst₀ : List ℤ} → 0 < n → n ≤ 32 → PassRoom n lines start count ls (length dst₀) → i < count
      → Written kind n shift lines src start start i dst dst₀ → LineRoom n lines (start + i) ls (start + i) (length dst)
  next_line {i} {count} some side r b w =
      let s = r.small in let e = r.ends in let l = same_long w in
      let all : count * n ≤ count * n = omega arith in
      let own : n ≤ n = omega arith in
      line_within some side r b (omega arith) (omega (arith, line_ends i n all b own, lines_end r, add-mul start i n))

  pub all_lines : {i count ls : ℕ} {dst dst₀ : List ℤ} → 0 < n → PassRoom n lines start count ls (length dst₀) → i ≡ count
      → Written kind n shift lines src start start i dst dst₀ → dst ≡ pass_lines kind n shift lines src start count dst₀
  unfolding pass_lines
  all_lines {i} {count} {ls} {dst} {dst₀} some r e w =
      all_laid some (lines_end r) (subst (λ (k : ℕ). Written kind n shift lines src start start k dst dst₀) e w)

  -- m lines more, of those that are asked
  more_lines : {i count ls : ℕ} (m : ℕ) {dst dst₀ dst' : List ℤ} → 0 < n → PassRoom n lines start count ls (length dst₀) → i + m ≤ count
      → Written kind n shift lines src start start i dst dst₀ → dst' ≡ pass_lines kind n shift lines src (start + i) m dst
      → Written kind n shift lines src start start (i + m) dst' dst₀
  unfolding pass_lines
  more_lines {i} {count} {ls} m {dst} {dst₀} {dst'} some r b w e =
      record {
        lined = lined_more m w.lined
            (e
            ∙ laid_ext dst ((start + i) * n) (m * n) _ _ (λ p l. ap (λ (k : ℕ). pass_at kind n shift lines src k (p % n)) (add_assoc start i (p / n)))
            ∙ sym (grid_laid dst ((start + i) * n) m n (λ j. places n start (i + j)) (λ j. numbers kind n shift lines src start (i + j)) some room lies (pos 0)));
      }
    where
      room : (start + i) * n + m * n ≤ length dst
      room =
          let u : (i + m) * n ≤ count * n = mul-le-mul_right n b in
          omega (arith, lines_end r, same_long w, add-mul start i n, add-mul i m n)

      lies : (j f : ℕ) → (start + (i + j)) * n + f ≡ (start + i) * n + (j * n + f)
      lies j f = omega (arith, add-mul start (i + j) n, add-mul i j n, add-mul start i n)

-- ---- lines from j on that are staged as lines 0, 1, .. of o, and then stored

pub one_staged : (kind n shift lines : ℕ) (src : List ℤ) (j q : ℕ) {o zeros o' : List ℤ} → Written kind n shift lines src j 0 q o zeros
    → o' ≡ stores o n (on_line n q) (pass_at kind n shift lines src (j + q)) → Written kind n shift lines src j 0 (q + 1) o' zeros
one_staged kind n shift lines src j q {o} w e =
    one_more w (e ∙ ap (λ (i : ℕ). stores o n (on_line n i) (pass_at kind n shift lines src (j + q))) (sym (zero-add q)))

staged : {kind n shift lines : ℕ} {src : List ℤ} {j m ls : ℕ} {o zeros dst' : List ℤ} (dst : List ℤ) → 0 < n → m * n ≤ length zeros
    → PassRoom n lines j m ls (length dst) → Written kind n shift lines src j 0 m o zeros
    → dst' ≡ stores dst (m * n) (from (j * n)) (number o) → dst' ≡ pass_lines kind n shift lines src j m dst
unfolding pass_lines
staged {kind} {n} {shift} {lines} {src} {j} {m} {ls} {o} {zeros} dst some short r w e =
    e ∙ stores_laid dst (j * n) (m * n) (lines_end r) (pos 0) (number o) ∙ laid_ext dst (j * n) (m * n) (number o) at at_is
  where
    at : ℕ → ℤ
    at p = pass_at kind n shift lines src (j + p / n) (p % n)

    at_is : (p : ℕ) → p < m * n → number o p ≡ at p
    at_is p b =
        ap (λ (l : List ℤ). get_or l p (pos 0)) (all_laid some (omega (arith, zero-mul n)) w)
        ∙ ap (λ (k : ℕ). get_or (laid zeros (0 * n) (m * n) at) k (pos 0)) (omega (arith, zero-mul n))
        ∙ laid_at zeros (0 * n) (m * n) at (omega (arith, zero-mul n)) p (pos 0) b

-- m lines more by way of o
pub staged_more : {kind n shift lines : ℕ} {src : List ℤ} {start i count ls q : ℕ} (m : ℕ) {o zeros dst dst₀ dst' : List ℤ}
    → 0 < n → m * n ≤ length zeros → PassRoom n lines start count ls (length dst₀) → i + m ≤ count
    → Written kind n shift lines src start start i dst dst₀ → q ≡ m → Written kind n shift lines src (start + i) 0 q o zeros
    → dst' ≡ stores dst (m * n) (from ((start + i) * n)) (number o)
    → Written kind n shift lines src start start (i + m) dst' dst₀
staged_more {kind} {n} {shift} {lines} {src} {start} {i} {count} {ls} m {o} {zeros} {dst} some short r b w all s e =
    more_lines m some r b w
    (staged dst some short
    (some_lines i m (subst (λ (l : ℕ). PassRoom n lines start count ls l) (sym (same_long w)) r) b)
    (subst (λ (k : ℕ). Written kind n shift lines src (start + i) 0 k o zeros) all s) e)
