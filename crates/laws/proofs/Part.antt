-- A list that stands in another from a place on. Assumes nothing.
use mathlib.Core.List.{List, ◌++◌, append-nil, append_assoc}
use mathlib.Core.Path.{◌≡◌, sym, ap, ◌∙◌}
use Prim.Native.Nat.{ℕ, ◌+◌, ◌-◌, ◌≤◌, ◌<◌}
use native.Mathlib.Nat.{zero-add}
use native.Mathlib.Omega.{arith}
use lib.ListN.{length, get_or, take, drop, length-append, length-drop, take-append-drop, get_or-append}
use lib.Seq.{ext_get_or, take_all, length-take-le, drop-length, drop-append_seam, drop-drop, get_or-take, get_or-drop}

-- l stands in s from place at on
pub record Part {A : Type 0} (s : List A) (at : ℕ) (l : List A) : Type 0 where
  pub is : drop at s ≡ l ++ drop (at + length l) s

module _ {A : Type 0} where
  -- the first of two lists stands at the front
  pub part_front : (l r : List A) → Part (l ++ r) 0 l
  part_front l r =
      record { is = ap (λ (x : List A). l ++ x) (sym (drop-append_seam l r) ∙ ap (λ (n : ℕ). drop n (l ++ r)) (sym (zero-add (length l)))) }

  -- a list stands in itself
  pub part_self : (l : List A) → Part l 0 l
  part_self l = record { is = sym (append-nil l) ∙ ap (λ (x : List A). l ++ x) (sym (drop-length l) ∙ ap (λ (n : ℕ). drop n l) (sym (zero-add (length l)))) }

  -- what follows l
  behind : (s l e : List A) (at : ℕ) → drop at s ≡ l ++ e → drop (at + length l) s ≡ e
  behind s l e at h = sym (drop-drop (length l) at s) ∙ ap (λ (x : List A). drop (length l) x) h ∙ drop-append_seam l e

  whole : {s l : List A} {at : ℕ} (e : List A) → drop at s ≡ l ++ e → Part s at l
  whole {s} {l} {at} e h = record { is = h ∙ ap (λ (x : List A). l ++ x) (sym (behind s l e at h)) }

  -- two lists, one after the other
  pub part_left : {s : List A} {at : ℕ} (l r : List A) → Part s at (l ++ r) → Part s at l
  part_left {s} {at} l r p = whole (r ++ drop (at + length (l ++ r)) s) (p.is ∙ append_assoc l r (drop (at + length (l ++ r)) s))

  pub part_right : {s : List A} {at : ℕ} (l r : List A) → Part s at (l ++ r) → Part s (at + length l) r
  part_right {s} {at} l r p =
      let e = drop (at + length (l ++ r)) s in
      whole e (behind s l (r ++ e) at (p.is ∙ append_assoc l r e))

  pub part_both : {s l r : List A} {at : ℕ} → Part s at l → Part s (at + length l) r → Part s at (l ++ r)
  part_both {s} {l} {r} {at} p q =
      let e = drop (at + length l + length r) s in
      whole e (p.is ∙ ap (λ (x : List A). l ++ x) q.is ∙ sym (append_assoc l r e))

  -- what is left of a list from a place on, by how much that is
  pub rest_is : (s : List A) (at : ℕ) → take (length s - at) (drop at s) ≡ drop at s
  rest_is s at = take_all (length s - at) (drop at s) (omega (arith, length-drop at s))

  -- it fits
  pub part_room : {s l : List A} {at : ℕ} → Part s at l → at ≤ length s → at + length l ≤ length s
  part_room {s} {l} {at} p h =
      omega (arith, length-drop at s, length-drop (at + length l) s, length-append l (drop (at + length l) s), ap length p.is)

  pub part_at : {s l : List A} {at to : ℕ} → at ≡ to → Part s at l → Part s to l
  part_at e p = rw e at p

  -- element by element
  pub part_get : {s l : List A} {at : ℕ} → Part s at l → (i : ℕ) (z : A) → i < length l → get_or s (at + i) z ≡ get_or l i z
  part_get {s} {l} {at} p i z h =
      sym (get_or-drop at s i z) ∙ ap (λ (x : List A). get_or x i z) p.is ∙ get_or-append l (drop (at + length l) s) z i h

  pub part_made : (s l : List A) (at : ℕ) (z : A) → at + length l ≤ length s → ((i : ℕ) → i < length l → get_or s (at + i) z ≡ get_or l i z) → Part s at l
  part_made s l at z room same =
      let long : length (take (length l) (drop at s)) ≡ length l = length-take-le (length l) (drop at s) (omega (arith, length-drop at s)) in
      let e : take (length l) (drop at s) ≡ l =
      ext_get_or z (take (length l) (drop at s)) l long
      (λ i b. get_or-take (length l) (drop at s) i z (omega arith) ∙ get_or-drop at s i z ∙ same i (omega arith)) in
      record { is = sym (take-append-drop (length l) (drop at s)) ∙ ap (λ (x : List A). x ++ drop (length l) (drop at s)) e ∙ ap (λ (x : List A). l ++ x) (drop-drop (length l) at s) }
