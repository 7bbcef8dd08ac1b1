-- A work buffer of which some lines hold their numbers: what stands at a place, and what writing further lines makes of it.
-- Assumes nothing.
use mathlib.Core.Path.{◌≡◌, sym, ap, ap₂, ◌∙◌}
use mathlib.Core.Logic.{⊎_elim}
use mathlib.Core.Bool.{Bool, true, false, cond, ◌||◌, or-true, or-false}
use mathlib.Core.List.{List}
use Prim.Native.Nat.{ℕ, ◌+◌, ◌-◌, ◌*◌, ◌/◌, ◌%◌, ◌<◌, ◌≤◌}
use native.Mathlib.Nat.{add-mul, div-add-mod', div-lt_iff_lt-mul, le-div_iff_mul-le, mod-lt}
use native.Mathlib.Omega.{arith}
use lib.Arith.{digits_div, digits_mod}
use lib.IntN.{ℤ, pos}
use lib.ListN.{length, get_or}
use lib.Seq.{ext_get_or}
use Rattle.laws.specs.Store.{laid}
use Rattle.laws.proofs.Laid.{length_tab, get_or_tab, length_laid, laid_before, laid_at, laid_after}
use Rattle.laws.proofs.Place.{split}
use Rattle.tickets.specs.Mark.{is_among}
use Rattle.tickets.specs.Condition3.{held}
use Rattle.tickets.proofs.Mark.{among_in, among_out}

module _ (n : ℕ) (p : ℕ → Bool) (g : ℕ → ℕ → ℤ) (d : List ℤ) where
  pub held_length : length (held n p g d) ≡ length d
  unfolding held
  held_length = length_tab (length d) _

  held_at : (q : ℕ) → q < length d → get_or (held n p g d) q (pos 0) ≡ cond (p (q / n)) (g (q / n) (q % n)) (get_or d q (pos 0))
  unfolding held
  held_at q b = get_or_tab (length d) (λ q. cond (p (q / n)) (g (q / n) (q % n)) (get_or d q (pos 0))) q (pos 0) b

  -- number f of a line that p names
  pub held_line : (j f : ℕ) → f < n → j * n + f < length d → p j ≡ true → get_or (held n p g d) (j * n + f) (pos 0) ≡ g j f
  held_line j f bf b e =
      held_at (j * n + f) b
      ∙ ap₂ (λ (i k : ℕ). cond (p i) (g i k) (get_or d (j * n + f) (pos 0))) (digits_div j bf) (digits_mod j bf)
      ∙ rw e

  -- a place whose line p doesn't name
  pub held_kept : (q : ℕ) → q < length d → p (q / n) ≡ false → get_or (held n p g d) q (pos 0) ≡ get_or d q (pos 0)
  held_kept q b e = held_at q b ∙ rw e

-- no line at all
pub held_none : (n : ℕ) (g : ℕ → ℕ → ℤ) (d : List ℤ) → held n (λ j. false) g d ≡ d
held_none n g d =
    ext_get_or (pos 0) (held n (λ j. false) g d) d (held_length n (λ j. false) g d)
    (λ q b. held_at n (λ j. false) g d q (omega (arith, held_length n (λ j. false) g d)))

-- the same lines
pub held_same : (n : ℕ) (p q : ℕ → Bool) (g : ℕ → ℕ → ℤ) (d : List ℤ) → ((j : ℕ) → p j ≡ q j) → held n p g d ≡ held n q g d
held_same n p q g d e =
    ext_get_or (pos 0) (held n p g d) (held n q g d) (held_length n p g d ∙ sym (held_length n q g d))
    (λ k b.
    let l : k < length d = omega (arith, held_length n p g d) in
    held_at n p g d k l
    ∙ ap (λ (x : Bool). cond x (g (k / n) (k % n)) (get_or d k (pos 0))) (e (k / n))
    ∙ sym (held_at n q g d k l))

-- c lines from s on, written
module _ (n : ℕ) (p : ℕ → Bool) (g : ℕ → ℕ → ℤ) (d : List ℤ) (s c : ℕ) (some : 0 < n) (room : (s + c) * n ≤ length d) where
  abbrev old : List ℤ
  old = held n p g d

  abbrev new : ℕ → Bool
  new j = p j || is_among s c j

  abbrev line : ℕ → ℤ
  line k = g (s + k / n) (k % n)

  fits : s * n + c * n ≤ length old
  fits = omega (arith, add-mul s c n, held_length n p g d)

  -- a place whose line is not among them
  off : (q : ℕ) → q < length d → is_among s c (q / n) ≡ false → get_or old q (pos 0) ≡ get_or (held n new g d) q (pos 0)
  off q b e =
      held_at n p g d q b
      ∙ ap (λ (x : Bool). cond x (g (q / n) (q % n)) (get_or d q (pos 0))) (sym (ap (λ (y : Bool). p (q / n) || y) e ∙ or-false (p (q / n))))
      ∙ sym (held_at n new g d q b)

  -- place k of them
  on : (k : ℕ) → k < c * n → get_or (laid old (s * n) (c * n) line) (s * n + k) (pos 0) ≡ get_or (held n new g d) (s * n + k) (pos 0)
  on k b =
      let few : k / n < c = (div-lt_iff_lt-mul some).1 b in
      let e : s * n + k ≡ (s + k / n) * n + k % n = omega (arith, add-mul s (k / n) n, div-add-mod' k n) in
      laid_at old (s * n) (c * n) line fits k (pos 0) b
      ∙ sym (ap (λ (x : ℕ). get_or (held n new g d) x (pos 0)) e
      ∙ held_line n new g d (s + k / n) (k % n) (mod-lt k some)
      (omega (arith, e, add-mul s c n))
      (ap (λ (y : Bool). p (s + k / n) || y) (among_in s c (s + k / n) (omega arith) (omega arith)) ∙ or-true (p (s + k / n))))

  pub held_more : laid old (s * n) (c * n) line ≡ held n new g d
  held_more =
      ext_get_or (pos 0) (laid old (s * n) (c * n) line) (held n new g d)
      (length_laid old (s * n) (c * n) line fits ∙ held_length n p g d ∙ sym (held_length n new g d))
      (λ q b.
      let l : q < length d = omega (arith, length_laid old (s * n) (c * n) line fits, held_length n p g d) in
      ⊎_elim
      (λ u.
      laid_before old (s * n) (c * n) line fits q (pos 0) u
      ∙ off q l (among_out s c (q / n) (λ a v. omega (arith, (div-lt_iff_lt-mul {x = q} {y = s} some).1 u))))
      (λ u.
      ⊎_elim
      (λ v.
      let e : s * n + (q - s * n) ≡ q = omega arith in
      rw e at (on (q - s * n) (omega arith)))
      (λ v.
      let e : s * n + c * n + (q - (s * n + c * n)) ≡ q = omega arith in
      rw e at (laid_after old (s * n) (c * n) line fits (q - (s * n + c * n)) (pos 0))
      ∙ off q l (among_out s c (q / n) (λ a v. omega (arith, (le-div_iff_mul-le {x = s + c} {y = q} some).1 (omega (arith, add-mul s c n))))))
      (split q (s * n + c * n)))
      (split q (s * n)))
