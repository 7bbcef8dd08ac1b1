-- What the reader answers by its tests. Assumes nothing.
use mathlib.Core.Bool.{Bool, true, false, ◌||◌}
use mathlib.Core.List.{[], ◌∷◌}
use mathlib.Core.Path.{◌≡◌, sym, ap, ap₂, ◌∙◌}
use Prim.Native.Nat.{ℕ, ◌*◌, ◌/◌, ◌^◌, ◌≤◌, ◌<◌}
use native.Mathlib.Omega.{arith}
use borrow.Author.Tests.{ltb-false}
use lib.Dec.{T, ltb}
use lib.ListN.{length}
use Rattle.laws.proofs.Bool.{neither}
use Rattle.laws.proofs.Divide.{ltb_div}
use Rattle.answer.proofs.Answer.{no_answer, guarded_small}
use Rattle.answer.specs.Answer.{answers, refuses, lowest, is_small}
use Rattle.format.specs.Format.{Found, blocks, damage}
use Rattle.look.specs.Look.{places_of, counted, list_found}
use Rattle.reader.specs.Read.{read_answer}

-- the code's test of the three buffers
abbrev pub short : ℕ → ℕ → ℕ → ℕ → ℕ → Bool
short n places numbers sides levels = ltb numbers n || (ltb (sides / 2) n || ltb levels places)

pub short_room : (n places numbers sides levels : ℕ) → short n places numbers sides levels ≡ false → (n ≤ numbers) × (2 * n ≤ sides) × (places ≤ levels)
short_room n places numbers sides levels e =
    let a = neither (ltb numbers n) (ltb (sides / 2) n || ltb levels places) e in
    let b = neither (ltb (sides / 2) n) (ltb levels places) a.1 in
    (ltb-false _ _ a.0, omega (arith, ltb-false (sides / 2) n b.0), ltb-false _ _ b.1)

module _ (numbers sides levels : ℕ) where
  pub read_damaged : (f : Found) (k : ℕ) → refuses k ≡ counted f → refuses k ≡ read_answer f numbers sides levels
  read_damaged (blocks bs) k e = no_answer e
  read_damaged (damage j) k e = e

  tested : (f : Found) (n places : ℕ) → answers n ≡ counted f → places ≡ places_of (list_found f) → (t : Bool) → short n places numbers sides levels ≡ t
      → lowest ((t, 3) ∷ []) n ≡ read_answer f numbers sides levels
  tested (blocks bs) n places e p t u =
      let m : n ≡ length bs = cc in
      let v : t ≡ (ltb numbers (length bs) || (ltb sides (2 * length bs) || ltb levels (places_of bs))) =
      sym u ∙ ap (λ (b : Bool). ltb numbers n || (b || ltb levels places)) (ltb_div sides 2 n (omega arith))
      ∙ ap (λ (k : ℕ). ltb numbers k || (ltb sides (2 * k) || ltb levels places)) m
      ∙ ap (λ (q : ℕ). ltb numbers (length bs) || (ltb sides (2 * length bs) || ltb levels q)) p in
      ap₂ (λ (b : Bool) (k : ℕ). lowest ((b, 3) ∷ []) k) v m
  tested (damage k) n places e p t u = no_answer (sym e)

  pub read_short : (f : Found) (n places : ℕ) → answers n ≡ counted f → places ≡ places_of (list_found f) → short n places numbers sides levels ≡ true
      → refuses 3 ≡ read_answer f numbers sides levels
  unfolding lowest
  read_short f n places e p u = tested f n places e p true u

  pub read_done : (f : Found) (n places : ℕ) → answers n ≡ counted f → places ≡ places_of (list_found f) → short n places numbers sides levels ≡ false
      → answers n ≡ read_answer f numbers sides levels
  unfolding lowest
  read_done f n places e p u = tested f n places e p false u

  -- an answer is no larger than the numbers' buffer
  pub read_small : numbers < 2 ^ 63 → (f : Found) → T (is_small (read_answer f numbers sides levels))
  read_small h (blocks bs) =
      let rest = ltb sides (2 * length bs) || ltb levels (places_of bs) in
      guarded_small (ltb numbers (length bs) || rest) 3 [] (length bs)
      (λ e. omega (arith, ltb-false numbers (length bs) (neither (ltb numbers (length bs)) rest e).0))
  read_small h (damage k) = tt
