-- A lane pass by its tests, one after the other. Assumes nothing.
use mathlib.Core.Path.{◌≡◌, refl, sym, ap, ap₂, ◌∙◌}
use mathlib.Core.Bool.{Bool, true, false, cond}
use mathlib.Core.List.{List}
use Prim.Native.Nat.{ℕ, ◌+◌, ◌^◌}
use native.Mathlib.Nat.{zero-add}
use native.Mathlib.Omega.{arith}
use borrow.Author.Tests.{ltb-false}
use lib.Dec.{T, ltb, lt→ltb}
use lib.IntN.{ℤ, pos, nat_abs}
use lib.ListN.{length}
use Rattle.answer.specs.Answer.{Answer, answers, refuses, is_small}
use Rattle.answer.proofs.Answer.{kept, written, small_if}
use Rattle.sizes.specs.Size.{is_side}
use Rattle.kernels.specs.Kernel.{has_kernel}
use Rattle.lines.specs.Pass.{pass_lines}
use Rattle.lines.specs.Room.{PassRoom}
use Rattle.lines.proofs.Loop.{some_lines}
use Rattle.passes.specs.Call.{pass_answer}
use Rattle.passes.proofs.Accepted.{accepted, as_handed}
use Rattle.probe.specs.Lanes.{and_then, lanes_answer, lanes_after}

-- z is the shift as it was handed on
module _ (side kind : ℕ) (shift z : ℤ) (lines start count : ℕ) (src dst : List ℤ) (same : z ≡ shift) where
  pub refused : {k : ℕ} → refuses k ≡ pass_answer side kind z lines (length src) (length dst)
      → refuses k ≡ lanes_answer side kind shift lines start count (length src) (length dst)
  unfolding lanes_answer
  refused e =
      ap (λ (x : Answer). and_then x (cond (ltb lines (start + count)) (refuses 5) (answers count)))
      (as_handed side kind shift z lines src dst same e)

  pub refused_kept : {k : ℕ} → refuses k ≡ pass_answer side kind z lines (length src) (length dst)
      → dst ≡ lanes_after side kind shift lines start count src dst
  unfolding lanes_after
  refused_kept e = kept _ _ (refused e)

  module _ {n bits k : ℕ} (e : answers n ≡ pass_answer side kind z lines (length src) (length dst)) (i : k ≡ kind) (b : pos bits ≡ z) where
    -- past the tests of a pass, by the last one
    pub tested : {t : Bool} → ltb lines (start + count) ≡ t
        → cond t (refuses 5) (answers count) ≡ lanes_answer side kind shift lines start count (length src) (length dst)
    unfolding lanes_answer
    tested u =
        ap (λ (x : Bool). cond x (refuses 5) (answers count)) (sym u)
        ∙ ap (λ (x : Answer). and_then x (cond (ltb lines (start + count)) (refuses 5) (answers count)))
        (as_handed side kind shift z lines src dst same e)

    pub past_kept : ltb lines (start + count) ≡ true → dst ≡ lanes_after side kind shift lines start count src dst
    unfolding lanes_after
    past_kept u = kept _ _ (tested u)

    module _ (u : ltb lines (start + count) ≡ false) where
      pub lanes_asked : (is_side side ≡ true) × (has_kernel k side ≡ true) × PassRoom side lines start count (length src) (length dst)
      lanes_asked =
          let a = accepted e in
          (a.side_ok, rw i a.kernel, rw (sym (zero-add start)) (some_lines start count a.room (ltb-false lines (start + count) u)))

      pub lanes_ran : {d : List ℤ} → d ≡ pass_lines k side bits lines src start count dst → d ≡ lanes_after side kind shift lines start count src dst
      unfolding lanes_after
      lanes_ran r =
          written _ (tested u)
          (r ∙ ap₂ (λ (m : ℕ) (s : ℤ). pass_lines m side (nat_abs s) lines src start count dst) i (b ∙ same))

small_then : (a next : Answer) → ((n : ℕ) → answers n ≡ a → T (is_small next)) → T (is_small (and_then a next))
small_then (answers n) next h = h n refl
small_then (refuses k) next h = tt

-- what a lane pass gives back is small
pub lanes_small : (side kind : ℕ) (shift : ℤ) (lines start count ls ld : ℕ) → T (is_small (lanes_answer side kind shift lines start count ls ld))
unfolding lanes_answer
lanes_small side kind shift lines start count ls ld =
    small_then (pass_answer side kind shift lines ls ld) _
    (λ n e.
    small_if (ltb lines (start + count)) 5 (answers count)
    (λ u.
    let few = (accepted e).room.small in
    let b = ltb-false lines (start + count) u in
    lt→ltb count (2 ^ 63) (omega arith)))
