-- An accepted batch leaves a ticket in order: number 6's rule holds of it for any column batch. Assumes nothing.
use mathlib.Core.Path.{◌≡◌, refl, sym, ap, ap₂, ◌∙◌}
use mathlib.Core.Bool.{Bool, true, false, not, ◌&&◌, ◌||◌}
use Prim.Native.Nat.{ℕ, ◌+◌, ◌-◌, ◌<◌, ◌≤◌}
use native.Mathlib.Omega.{arith}
use borrow.Author.Tests.{not-false, not-true}
use Rattle.laws.proofs.Bool.{neither}
use Rattle.laws.proofs.Every.{every_all, every_each}
use Rattle.answer.specs.Answer.{answers}
use Rattle.answer.proofs.Answer.{passed}
use Rattle.sizes.proofs.Side.{side_bounds}
use Rattle.tickets.specs.Mark.{marked, any_from, all_marked, is_among, with_lines}
use Rattle.tickets.specs.Batch.{out_of_order, answer_unless, with_batch}
use Rattle.tickets.specs.declared.Batch.{Batch}
use Rattle.tickets.specs.declared.Ticket.{Ticket}
use Rattle.tickets.proofs.Mark.{marked_with, among_out}
use Rattle.tickets.proofs.Taken.{Taken, taken}

-- ---- marks

none_from : (n mask : ℕ) → any_from n mask ≡ false → (j : ℕ) → n ≤ j → j < 32 → marked mask j ≡ false
unfolding any_from
none_from n mask e j l b =
    let i : n + (j - n) ≡ j = omega arith in
    let h = every_each (32 - n) (λ j. not (marked mask (n + j))) (not-false _ e) (j - n) (omega arith) in
    rw i at (not-true (marked mask (n + (j - n))) h)

-- lines within the count leave no mark past it
any_with : (n mask s c : ℕ) → any_from n mask ≡ false → s + c ≤ n → any_from n (with_lines mask s c) ≡ false
unfolding any_from
any_with n mask s c e l =
    ap not (every_all (32 - n) (λ j. not (marked (with_lines mask s c) (n + j)))
    (λ j b.
    ap not
    (marked_with mask s c (n + j) (omega arith)
    ∙ ap₂ ◌||◌ (none_from n mask e (n + j) (omega arith) (omega arith)) (among_out s c (n + j) (λ u v. omega arith)))))

all_with : (n mask s c : ℕ) → n ≤ 32 → all_marked n mask ≡ true → all_marked n (with_lines mask s c) ≡ true
unfolding all_marked
all_with n mask s c few e =
    every_all n (marked (with_lines mask s c))
    (λ j b. marked_with mask s c j (omega arith) ∙ ap (λ (x : Bool). x || is_among s c j) (every_each n (marked mask) e j b))

-- ---- order: x, every column is marked; r, a row is

waits : (x r : Bool) → (not x && (r || true)) ≡ false → x ≡ true
waits true r e = refl
waits false true e = sym e
waits false false e = sym e

goes_on : (x y r : Bool) → (x ≡ true → y ≡ true) → (not x && (r || false)) ≡ false → (not y && (r || false)) ≡ false
goes_on true y r f e = ap (λ (z : Bool). not z && (r || false)) (f refl)
goes_on false true r f e = refl
goes_on false false r f e = e

module _ (t : Ticket) (start count : ℕ) where
  after_row : t.w ≤ 32 → start + count ≤ t.h → out_of_order t true ≡ false
      → out_of_order (with_batch t (record { row = true; start = start; count = count })) false ≡ false
  unfolding out_of_order with_batch
  after_row few end e =
      let a = neither (any_from t.w t.columns) _ e in
      let b = neither (any_from t.h t.rows) _ a.1 in
      rw (a.0, any_with t.h t.rows start count b.0 end, waits (all_marked t.w t.columns) (any_from 0 t.rows) b.1)

  after_column : t.w ≤ 32 → start + count ≤ t.w → out_of_order t false ≡ false
      → out_of_order (with_batch t (record { row = false; start = start; count = count })) false ≡ false
  unfolding out_of_order with_batch
  after_column few end e =
      let a = neither (any_from t.w t.columns) _ e in
      let b = neither (any_from t.h t.rows) _ a.1 in
      rw (any_with t.w t.columns start count a.0 end, b.0)
      (goes_on (all_marked t.w t.columns) _ (any_from 0 t.rows) (all_with t.w t.columns start count few) b.1)

pub order_after : (short : Bool) (t : Ticket) (b : Batch) (source target n : ℕ) → answers n ≡ answer_unless short t b source target
    → out_of_order (with_batch t b) false ≡ false
unfolding answer_unless
order_after short t b source target n e =
    let k = (taken short t b source target n e).0 in
    let s6 = passed _ 6 _ _ n (passed _ 5 _ _ n (passed _ 3 _ _ n (passed _ 2 _ _ n (passed _ 1 _ _ n e).1).1).1).1 in
    either_kind b.row b.start b.count k s6.0
  where
    either_kind : (row : Bool) (start count : ℕ) → Taken t (record { row = row; start = start; count = count }) source target → out_of_order t row ≡ false
        → out_of_order (with_batch t (record { row = row; start = start; count = count })) false ≡ false
    either_kind true start count k o = after_row t start count (side_bounds t.w k.wide).high k.ends o
    either_kind false start count k o = after_column t start count (side_bounds t.w k.wide).high k.ends o
