-- The levels that are listed, both ways. Assumes nothing.
use mathlib.Core.Bool.{Bool, true, false, cond}
use mathlib.Core.List.{List, [], ◌++◌, append-nil, append_assoc}
use mathlib.Core.Logic.{⊎_elim}
use mathlib.Core.Path.{◌≡◌, refl, sym, ap, ap₂, subst, ◌∙◌}
use Prim.Native.Nat.{ℕ, zero, suc, ◌+◌, ◌*◌, ◌^◌, ◌≤◌, ◌<◌}
use native.Mathlib.Nat.{zero-add, add-zero, add-suc, eq-or-lt_of_le, le_of_suc-le-suc}
use native.Mathlib.Omega.{arith}
use borrow.Author.Tests.{leb-true}
use lib.IntN.{ℤ, nat_abs}
use lib.ListN.{length, length-append}
use Rattle.laws.proofs.Bool.{decided}
use Rattle.laws.proofs.Place.{split}
use Rattle.laws.proofs.Sum.{sum_within, sum_ℕ_same, sum_ℕ_add}
use Rattle.laws.specs.Sum.{sum_ℕ}
use Rattle.format.specs.Pieces.{Bytes, standing, stands, four, word_of, bytes_for, listed, number_at, of_word, ListedLevels}
use Rattle.format.proofs.Number.{number_read, number_made, word_small, word_read}
use Rattle.laws.proofs.Part.{Part, part_self, part_at, part_left, part_right, part_both, part_made}

-- ---- how many bits stand

pub standing_same : (f g : ℕ → Bool) (n : ℕ) → ((p : ℕ) → p < n → f p ≡ g p) → standing f n ≡ standing g n
unfolding standing
standing_same f g n e = sum_ℕ_same n (λ p. cond (f p) 1 0) (λ p. cond (g p) 1 0) (λ p h. ap (λ (b : Bool). cond b 1 0) (e p h))

pub standing_le : (f : ℕ → Bool) (n : ℕ) → standing f n ≤ n
unfolding standing sum_ℕ
standing_le f zero = omega arith
standing_le f (suc n) = ⊎_elim (λ e. rw e (omega (arith, standing_le f n))) (λ e. rw e (omega (arith, standing_le f n))) (decided (f n))

-- one bit more
pub standing_more : (f : ℕ → Bool) (n : ℕ) → standing f (suc n) ≡ standing f n + cond (f n) 1 0
unfolding standing sum_ℕ
standing_more f n = refl

-- the first m bits and the n after them
pub standing_add : (f : ℕ → Bool) (m n : ℕ) → standing f (m + n) ≡ standing f m + standing (λ i. f (m + i)) n
unfolding standing
standing_add f m n = sum_ℕ_add (λ p. cond (f p) 1 0) m n

-- what stands below a place lies within what stands
pub standing_within : (f : ℕ → Bool) (n p : ℕ) → p < n → standing f p + cond (f p) 1 0 ≤ standing f n
unfolding standing
standing_within f n p h = sum_within n (λ p. cond (f p) 1 0) p h

-- a sum over the places whose bits stand goes by how many stand before each
pub sum_ranked : (f : ℕ → Bool) (g : ℕ → ℕ) (n : ℕ) → sum_ℕ n (λ p. cond (f p) (g (standing f p)) 0) ≡ sum_ℕ (standing f n) g
unfolding sum_ℕ standing
sum_ranked f g zero = refl
sum_ranked f g (suc n) = ⊎_elim (λ e. rw e (on (sum_ranked f g n))) (λ e. rw e (off (sum_ranked f g n))) (decided (f n))
  where
    on : {m : ℕ} → m ≡ sum_ℕ (standing f n) g → m + g (standing f n) ≡ sum_ℕ (standing f n + 1) g
    on i = omega (arith, i, ap (λ (k : ℕ). sum_ℕ k g) (let z : standing f n + 1 ≡ suc (standing f n) = omega arith in z))

    off : {m : ℕ} → m ≡ sum_ℕ (standing f n) g → m + 0 ≡ sum_ℕ (standing f n + 0) g
    off i = omega (arith, i, ap (λ (k : ℕ). sum_ℕ k g) (add-zero (standing f n)))

-- the place of bit i of those that stand
pub record Stands (f : ℕ → Bool) (n i : ℕ) : Type 0 where
  pub place : ℕ
  pub below : place < n
  pub on : f place ≡ true
  pub rank : standing f place ≡ i

pub standing_find : (f : ℕ → Bool) (n i : ℕ) → i < standing f n → Stands f n i
unfolding standing sum_ℕ
standing_find f zero i h = absurd (omega arith)
standing_find f (suc n) i h = ⊎_elim (λ l. more (standing_find f n i l)) (λ l. last (f n) refl l) (split i (standing f n))
  where
    more : Stands f n i → Stands f (suc n) i
    more s = record { place = s.place; below = omega (arith, s.below); on = s.on; rank = s.rank }

    last : (b : Bool) → f n ≡ b → standing f n ≤ i → Stands f (suc n) i
    last true e l = record { place = n; below = omega arith; on = e; rank = omega (arith, ap (λ (b : Bool). cond {A = ℕ} b 1 0) e) }
    last false e l = absurd (omega (arith, ap (λ (b : Bool). cond {A = ℕ} b 1 0) e))

-- ---- the levels

pub for_length : (b : Bool) (n : ℕ) → length (cond b (four n) []) ≡ 4 * cond b 1 0
for_length true n = refl
for_length false n = refl

pub listed_length : (n : ℕ) (level : ℕ → ℤ) → length (listed n level) ≡ 4 * standing (λ p. stands (level p)) n
unfolding listed standing sum_ℕ
listed_length zero level = refl
listed_length (suc n) level =
    omega (arith, length-append (listed n level) (bytes_for (level n)), listed_length n level, for_length (stands (level n)) (word_of (level n)))

pub listed_small : (n : ℕ) (level : ℕ → ℤ) → length (listed n level) ≤ 4 * n
listed_small n level = omega (arith, listed_length n level, standing_le (λ p. stands (level p)) n)

-- where a level stands
pub listed_part : {s : List ℕ} {at : ℕ} (n : ℕ) (level : ℕ → ℤ) → Part s at (listed n level) → (p : ℕ) → p < n → stands (level p) ≡ true
    → Part s (at + length (listed p level)) (four (word_of (level p)))
unfolding listed
listed_part zero level l p b e = absurd (omega arith)
listed_part {s} {at} (suc n) level l p b e =
    ⊎_elim
    (λ u.
    let last = part_right (listed n level) (bytes_for (level n)) l in
    let t : stands (level n) ≡ true = ap (λ (q : ℕ). stands (level q)) (sym u) ∙ e in
    subst (λ (q : ℕ). Part s (at + length (listed q level)) (four (word_of (level q)))) (sym u)
    (subst (λ (t : Bool). Part s (at + length (listed n level)) (cond t (four (word_of (level n))) [])) t last))
    (λ u. listed_part n level (part_left (listed n level) (bytes_for (level n)) l) p u e)
    (eq-or-lt_of_le (le_of_suc-le-suc b))

-- what is listed, where each level that stands has its bytes
pub listed_made : (s : List ℕ) (at : ℕ) → Bytes s → (n : ℕ) (level : ℕ → ℤ) → at + length (listed n level) ≤ length s
    → ((p : ℕ) → p < n → stands (level p) ≡ true → word_of (level p) ≡ number_at s (at + length (listed p level))) → Part s at (listed n level)
unfolding listed
listed_made s at bytes zero level room same = part_made s [] at 0 room (λ i b. absurd (omega arith))
listed_made s at bytes (suc n) level room same =
    let long = length-append (listed n level) (bytes_for (level n)) in
    part_both (listed_made s at bytes n level (omega arith) (λ p b. same p (omega arith)))
    (last (stands (level n)) (same n (omega arith)) (omega arith))
  where
    last : (b : Bool) → (b ≡ true → word_of (level n) ≡ number_at s (at + length (listed n level)))
        → at + length (listed n level) + length (cond b (four (word_of (level n))) []) ≤ length s
        → Part s (at + length (listed n level)) (cond b (four (word_of (level n))) [])
    last true e room = subst (λ (k : ℕ). Part s (at + length (listed n level)) (four k)) (sym (e refl)) (number_made s (at + length (listed n level)) bytes room)
    last false e room = part_made s [] (at + length (listed n level)) 0 room (λ i b. absurd (omega arith))

-- the same levels are listed alike
pub listed_same : (n : ℕ) (f g : ℕ → ℤ) → ((p : ℕ) → p < n → f p ≡ g p) → listed n f ≡ listed n g
unfolding listed
listed_same zero f g e = refl
listed_same (suc n) f g e = ap₂ (λ (l : List ℕ) (x : ℤ). l ++ bytes_for x) (listed_same n f g (λ p b. e p (omega arith))) (e n (omega arith))

-- the first m levels, and the n after them
pub listed_split : (m n : ℕ) (level : ℕ → ℤ) → listed (m + n) level ≡ listed m level ++ listed n (λ i. level (m + i))
unfolding listed
listed_split m zero level = ap (λ (k : ℕ). listed k level) (add-zero m) ∙ sym (append-nil (listed m level))
listed_split m (suc n) level =
    ap (λ (k : ℕ). listed k level) (add-suc m n) ∙ ap (λ (l : List ℕ). l ++ bytes_for (level (m + n))) (listed_split m n level)
    ∙ append_assoc (listed m level) (listed n (λ i. level (m + i))) (bytes_for (level (m + n)))

-- levels whose bits don't stand
pub listed_none : (n : ℕ) (level : ℕ → ℤ) → ((p : ℕ) → p < n → stands (level p) ≡ false) → listed n level ≡ []
unfolding listed
listed_none zero level e = refl
listed_none (suc n) level e = rw (listed_none n level (λ p b. e p (omega arith)), e n (omega arith))

-- a level is read where those before it end
pub listed_levels : ListedLevels
listed_levels n level p h on near =
    let small : nat_abs (level p) < 2 ^ 31 = omega (arith, leb-true (nat_abs (level p)) (2 ^ 30) near) in
    let at = listed_part n level (part_self (listed n level)) p h on in
    ap of_word (number_read (word_of (level p)) (part_at (zero-add (length (listed p level))) at) (word_small (level p) small))
    ∙ word_read (level p) small
