-- A list with another put over it from a place on. Assumes nothing.
use mathlib.Core.List.{List, [], ◌∷◌, ◌++◌, append-nil, append_assoc}
use mathlib.Core.Path.{◌≡◌, sym, ap, ap₂, ◌∙◌}
use Prim.Native.Nat.{ℕ, zero, suc, ◌+◌, ◌-◌, ◌≤◌, ◌<◌}
use native.Mathlib.Nat.{zero-add, add-zero, add-suc, add_assoc}
use native.Mathlib.Numerals.{add-one}
use native.Mathlib.Omega.{arith}
use lib.ListN.{length, get_or, set, take, drop, length-append, length-drop, take-append-drop, drop_of_length-le}
use lib.Seq.{ext_get_or, set_split, length-take-le, take_at, drop_at, take-take, drop-drop}
use borrow.Rule.Slice.PartMut.{put_mid, Post-is}
use Rattle.laws.proofs.Laid.{length_tab, get_or_tab, stores_laid}
use Rattle.laws.proofs.Part.{rest_is}
use Rattle.laws.specs.Store.{tab, laid, pasted, over, stores}

module _ {A : Type 0} where
  pub pasted_none : (d : List A) (at : ℕ) → d ≡ pasted d at []
  unfolding pasted
  pasted_none d at = sym (take-append-drop at d) ∙ ap (λ (k : ℕ). take at d ++ drop k d) (sym (add-zero at))

  pub pasted_one : (d : List A) (at : ℕ) (v : A) → at < length d → set d at v ≡ pasted d at (v ∷ [])
  unfolding pasted
  pasted_one d at v h = set_split d at v h ∙ ap (λ (k : ℕ). take at d ++ (v ∷ drop k d)) (sym (add-one at))

  pub pasted_laid : (d : List A) (at n : ℕ) (g : ℕ → A) → laid d at n g ≡ pasted d at (tab n g)
  unfolding pasted laid
  pasted_laid d at n g =
      append_assoc (take at d) (tab n g) (drop (at + n) d) ∙ ap (λ (k : ℕ). take at d ++ (tab n g ++ drop (at + k) d)) (sym (length_tab n g))

  pub length_pasted : (d : List A) (at : ℕ) (l : List A) → at + length l ≤ length d → length (pasted d at l) ≡ length d
  unfolding pasted
  length_pasted d at l h =
      omega (arith, length-append (take at d) (l ++ drop (at + length l) d), length-append l (drop (at + length l) d), length-drop (at + length l) d, length-take-le at d (omega arith))

  -- a list as long as the one that it is put over takes its place
  pub over_whole : (l d : List A) → length l ≡ length d → over l d ≡ l
  unfolding pasted
  over_whole l d e = ap (λ (r : List A). l ++ r) (drop_of_length-le d (omega arith)) ∙ append-nil l

  -- a list in place of the first n of another
  pub over_front : (l d : List A) {n : ℕ} → length l ≡ n → l ++ drop n d ≡ over l d
  unfolding pasted
  over_front l d e = ap (λ (k : ℕ). l ++ drop k d) (omega arith)

  -- one list after the other
  pub pasted_both : (d : List A) (at n : ℕ) (l m : List A) → at + length l ≤ length d → n ≡ at + length l → pasted (pasted d at l) n m ≡ pasted d at (l ++ m)
  unfolding pasted
  pasted_both d at n l m h e =
      let t = take at d in
      let r = drop (at + length l) d in
      let front : length (t ++ l) ≡ n = length-append t l ∙ ap (λ (k : ℕ). k + length l) (length-take-le at d (omega arith)) ∙ sym e in
      let whole : t ++ (l ++ r) ≡ (t ++ l) ++ r = sym (append_assoc t l r) in
      let a : take n (t ++ (l ++ r)) ≡ t ++ l = ap (take n) whole ∙ take_at (t ++ l) r n front in
      let b : drop (n + length m) (t ++ (l ++ r)) ≡ drop (at + length (l ++ m)) d =
      sym (drop-drop (length m) n (t ++ (l ++ r))) ∙ ap (drop (length m)) (ap (drop n) whole ∙ drop_at (t ++ l) r n front)
      ∙ drop-drop (length m) (at + length l) d
      ∙ ap (λ (k : ℕ). drop k d) (add_assoc at (length l) (length m) ∙ ap (λ (k : ℕ). at + k) (sym (length-append l m))) in
      ap₂ (λ (x y : List A). x ++ (m ++ y)) a b ∙ append_assoc t l (m ++ drop (at + length (l ++ m)) d)
      ∙ ap (λ (x : List A). t ++ x) (sym (append_assoc l m (drop (at + length (l ++ m)) d)))

  -- three pieces, one behind the other
  pub pasted_three : (d : List A) (at m n : ℕ) (x y z : List A) → at + length x + length y ≤ length d → m ≡ at + length x → n ≡ m + length y
      → pasted (pasted (pasted d at x) m y) n z ≡ pasted d at (x ++ (y ++ z))
  pasted_three d at m n x y z room em en =
      pasted_both (pasted d at x) m n y z (omega (arith, length_pasted d at x (omega arith))) en ∙ pasted_both d at m x (y ++ z) (omega arith) em

  -- one more
  pub pasted_set : (d : List A) (at n : ℕ) (l : List A) (v : A) → at + length l < length d → n ≡ at + length l → set (pasted d at l) n v ≡ pasted d at (l ++ (v ∷ []))
  pasted_set d at n l v h e =
      pasted_one (pasted d at l) n v (omega (arith, length_pasted d at l (omega arith))) ∙ pasted_both d at n l (v ∷ []) (omega arith) e

  -- n more, from a table
  pub pasted_more : (d : List A) (at k n : ℕ) (l : List A) (g : ℕ → A) → at + length l ≤ length d → k ≡ at + length l
      → laid (pasted d at l) k n g ≡ pasted d at (l ++ tab n g)
  pasted_more d at k n l g h e = pasted_laid (pasted d at l) k n g ∙ pasted_both d at k l (tab n g) h e

  -- a list before another that was put first, where at most the place between them was spoilt
  pub pasted_first : (d out : List A) (at k n : ℕ) (l m : List A) → at ≤ k → n ≡ at + length l → take k out ≡ take k d
      → drop n out ≡ m ++ drop (n + length m) d → pasted out at l ≡ pasted d at (l ++ m)
  unfolding pasted
  pasted_first d out at k n l m h e same put =
      let before : take at out ≡ take at d = sym (take-take at k out h) ∙ ap (take at) same ∙ take-take at k d h in
      let r = drop (at + length (l ++ m)) d in
      let end : n + length m ≡ at + length (l ++ m) = omega (arith, length-append l m) in
      let after : drop (at + length l) out ≡ m ++ r = ap (λ (j : ℕ). drop j out) (sym e) ∙ put ∙ ap (λ (j : ℕ). m ++ drop j d) end in
      ap₂ (λ (x y : List A). x ++ (l ++ y)) before after ∙ ap (λ (x : List A). take at d ++ x) (sym (append_assoc l m r))

-- ---- tables

-- the first m and the n after them
pub tab_add : {A : Type 0} (m n : ℕ) (g : ℕ → A) → tab (m + n) g ≡ tab m g ++ tab n (λ i. g (m + i))
unfolding tab
tab_add m zero g = ap (λ (k : ℕ). tab k g) (add-zero m) ∙ sym (append-nil (tab m g))
tab_add {A} m (suc n) g =
    ap (λ (k : ℕ). tab k g) (add-suc m n) ∙ ap (λ (l : List A). l ++ (g (m + n) ∷ [])) (tab_add m n g)
    ∙ append_assoc (tab m g) (tab n (λ i. g (m + i))) (g (m + n) ∷ [])

pub laid_none : {A : Type 0} (d : List A) (at : ℕ) (g : ℕ → A) → d ≡ laid d at 0 g
unfolding tab
laid_none d at g = pasted_none d at ∙ sym (pasted_laid d at 0 g)

-- a part that is laid in two pieces
pub laid_both : {A : Type 0} (d : List A) (at m n : ℕ) (g : ℕ → A) → at + m ≤ length d
    → laid (laid d at m g) (at + m) n (λ i. g (m + i)) ≡ laid d at (m + n) g
laid_both {A} d at m n g room =
    let long = length_tab m g in
    ap (λ (l : List A). laid l (at + m) n (λ i. g (m + i))) (pasted_laid d at m g)
    ∙ pasted_more d at (at + m) n (tab m g) (λ i. g (m + i)) (omega arith) (omega arith)
    ∙ ap (pasted d at) (sym (tab_add m n g)) ∙ sym (pasted_laid d at (m + n) g)

-- a list is the table of its numbers
pub tab_get_or : {A : Type 0} (l : List A) (n : ℕ) (z : A) → length l ≡ n → tab n (λ p. get_or l p z) ≡ l
tab_get_or l n z e =
    ext_get_or z (tab n (λ p. get_or l p z)) l (length_tab n (λ p. get_or l p z) ∙ sym e)
    (λ i b. get_or_tab n (λ p. get_or l p z) i z (omega (arith, length_tab n (λ p. get_or l p z))))

-- a list whose part from at to e was lent and holds l when it is back
pub spliced : {A : Type 0} (d l : List A) (at e : ℕ) → e ≡ at + length l → put_mid at (e - at) d l ≡ pasted d at l
unfolding pasted
spliced d l at e u = ap (λ t. take at d ++ (l ++ t)) (Post-is at e d (omega arith) ∙ ap (λ i. drop i d) u)

-- and where l was copied into it
pub copied : {A : Type 0} (d : List A) (at n : ℕ) (z : A) {o l : List A} → length o ≡ n → l ≡ o → at + n ≤ length d
    → put_mid at (at + n - at) d l ≡ stores d n (λ k. at + k) (λ p. get_or o p z)
copied d at n z {o} {l} long e room =
    ap (λ t. put_mid at (at + n - at) d t) e
    ∙ spliced d o at (at + n) (omega arith)
    ∙ ap (pasted d at) (sym (tab_get_or o n z long))
    ∙ sym (pasted_laid d at n (λ p. get_or o p z))
    ∙ sym (stores_laid d at n (omega arith) z (λ p. get_or o p z))

-- bytes put at the front of the rest of a buffer
pub rest_put : {A : Type 0} (out rec : List A) (at : ℕ) {new : List A} → at + length rec ≤ length out → new ≡ over rec (take (length out - at) (drop at out))
    → put_mid at (length out - at) out new ≡ pasted out at rec
unfolding pasted
rest_put {A} out rec at {new} room e =
    let t = drop at out in
    let all = over rec t in
    let long : at + length all ≡ length out = omega (arith, length_pasted t 0 rec (omega (arith, length-drop at out)), length-drop at out) in
    ap (λ (l : List A). put_mid at (length out - at) out l) (e ∙ ap (over rec) (rest_is out at))
    ∙ spliced out all at (length out) (sym long)
    ∙ ap (λ (r : List A). take at out ++ (all ++ r)) (drop_of_length-le out (omega (arith, long)))
    ∙ ap (λ (r : List A). take at out ++ r) (append-nil all ∙ ap (λ (k : ℕ). rec ++ drop k t) (zero-add (length rec)) ∙ ap (λ (r : List A). rec ++ r) (drop-drop (length rec) at out))
