-- A table: a function at each of its numbers, and its first number. Assumes nothing.
use mathlib.Core.Path.{◌≡◌, refl, ap, ◌∙◌}
use mathlib.Core.List.{List, [], ◌∷◌, ◌++◌, map}
use Prim.Native.Nat.{ℕ, zero, suc}
use Rattle.std.proofs.lemmas.List.{map-append}
use Rattle.laws.specs.Store.{tab}

pub map_tab : {A B : Type 0} (f : A → B) (n : ℕ) (g : ℕ → A) → map f (tab n g) ≡ tab n (λ i. f (g i))
unfolding tab
map_tab f zero g = refl
map_tab {B = B} f (suc n) g = map-append f (tab n g) (g n ∷ []) ∙ ap (λ (r : List B). r ++ (f (g n) ∷ [])) (map_tab f n g)

-- the first of a table, and the rest of it
pub tab_cons : {A : Type 0} (n : ℕ) (g : ℕ → A) → tab (suc n) g ≡ g 0 ∷ tab n (λ i. g (suc i))
unfolding tab
tab_cons zero g = refl
tab_cons {A} (suc n) g = ap (λ (l : List A). l ++ (g (suc n) ∷ [])) (tab_cons n g)
