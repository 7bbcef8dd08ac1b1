-- Lines of stores in another order: where no two share a place, the odd lines and then the even ones are all of them. Assumes nothing.
use mathlib.Core.Path.{◌≡◌, refl, ap, ◌∙◌}
use mathlib.Core.Logic.{◌≢◌}
use mathlib.Core.List.{List}
use Prim.Native.Nat.{ℕ, zero, suc, ◌+◌, ◌*◌, ◌<◌}
use native.Mathlib.Omega.{arith}
use lib.ListN.{set}
use Rattle.std.proofs.lemmas.List.{set_comm}
use Rattle.laws.specs.Store.{stores, grid}

module _ {A : Type 0} where
  -- ---- what shares no place may be stored in either order

  set_past : (d : List A) (p : ℕ) (v : A) (n : ℕ) (q : ℕ → ℕ) (g : ℕ → A) → ((k : ℕ) → k < n → p ≢ q k)
      → stores (set d p v) n q g ≡ set (stores d n q g) p v
  unfolding stores
  set_past d p v zero q g h = refl
  set_past d p v (suc n) q g h =
      ap (λ (l : List A). set l (q n) (g n)) (set_past d p v n q g (λ k b. h k (omega arith))) ∙ set_comm (stores d n q g) p (q n) v (g n) (h n (omega arith))

  stores_past : (d : List A) (m n : ℕ) (r q : ℕ → ℕ) (f g : ℕ → A) → ((i k : ℕ) → i < m → k < n → r i ≢ q k)
      → stores (stores d m r f) n q g ≡ stores (stores d n q g) m r f
  unfolding stores
  stores_past d zero n r q f g h = refl
  stores_past d (suc m) n r q f g h =
      set_past (stores d m r f) (r m) (f m) n q g (λ k b. h m k (omega arith) b)
      ∙ ap (λ (l : List A). set l (r m) (f m)) (stores_past d m n r q f g (λ i k a b. h i k (omega arith) b))

  grid_past : (d : List A) (m n : ℕ) (r : ℕ → ℕ) (f : ℕ → A) (q : ℕ → ℕ → ℕ) (g : ℕ → ℕ → A) → ((i j k : ℕ) → i < n → j < m → k < n → r i ≢ q j k)
      → grid (stores d n r f) m n q g ≡ stores (grid d m n q g) n r f
  unfolding grid
  grid_past d zero n r f q g h = refl
  grid_past d (suc m) n r f q g h =
      ap (λ (l : List A). stores l n (q m) (g m)) (grid_past d m n r f q g (λ i j k a b c. h i j k a (omega arith) c))
      ∙ stores_past (grid d m n q g) n n r (q m) f (g m) (λ i k a c. h i m k a (omega arith) c)

  -- ---- the odd lines and then the even ones

  module _ (n : ℕ) (q : ℕ → ℕ → ℕ) (g : ℕ → ℕ → A) (apart : (i k j f : ℕ) → j < n → f < n → q i j ≡ q k f → i ≡ k) where
    abbrev odd_lines : List A → ℕ → List A
    odd_lines d h = grid d h n (λ r. q (2 * r + 1)) (λ r. g (2 * r + 1))

    abbrev even_lines : List A → ℕ → List A
    even_lines d h = grid d h n (λ r. q (2 * r)) (λ r. g (2 * r))

    pub odd_even : (d : List A) (h : ℕ) → even_lines (odd_lines d h) h ≡ grid d (2 * h) n q g
    unfolding grid
    odd_even d zero = refl
    odd_even d (suc h) =
        let o = q (2 * h + 1) in
        let f = g (2 * h + 1) in
        ap (λ (l : List A). stores l n (q (2 * h)) (g (2 * h)))
        (grid_past (odd_lines d h) h n o f (λ r. q (2 * r)) (λ r. g (2 * r)) (λ i j k a b c e. omega (arith, apart (2 * h + 1) (2 * j) i k a c e)))
        ∙ stores_past (even_lines (odd_lines d h) h) n n o (q (2 * h)) f (g (2 * h)) (λ i k a c e. omega (arith, apart (2 * h + 1) (2 * h) i k a c e))
        ∙ ap (λ (l : List A). stores (stores l n (q (2 * h)) (g (2 * h))) n o f) (odd_even d h)
        ∙ next h
      where
        next : (h : ℕ) → stores (stores (grid d (2 * h) n q g) n (q (2 * h)) (g (2 * h))) n (q (2 * h + 1)) (g (2 * h + 1)) ≡ grid d (2 * suc h) n q g
        next h =
            let e : 2 * h + 1 ≡ suc (2 * h) = omega arith in
            let t : suc (suc (2 * h)) ≡ 2 * suc h = omega arith in
            ap (λ (k : ℕ). stores (stores (grid d (2 * h) n q g) n (q (2 * h)) (g (2 * h))) n (q k) (g k)) e ∙ ap (λ (k : ℕ). grid d k n q g) t
