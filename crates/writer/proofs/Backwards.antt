-- Levels written from the last to the first: what a loop knows that puts the bytes of some before those that follow. Assumes nothing.
use mathlib.Core.List.{List, [], ◌++◌, append_assoc}
use mathlib.Core.Path.{◌≡◌, refl, sym, ap, ◌∙◌}
use Prim.Native.Nat.{ℕ, suc, ◌+◌, ◌-◌, ◌≤◌, ◌<◌}
use native.Mathlib.Omega.{arith}
use lib.IntN.{ℤ}
use lib.ListN.{length, take, drop, length-append}
use lib.Seq.{take-take}
use Rattle.format.proofs.Listed.{listed_split, listed_same}
use Rattle.format.specs.Pieces.{bytes_for, listed}

-- of n levels those from i on are put before end of d: out, where they begin at place to. Four bytes before them may be spoilt
pub record Put (level : ℕ → ℤ) (n : ℕ) (d : List ℕ) (end i : ℕ) (out : List ℕ) (to : ℕ) : Type 0 where
  pub at : to + length (listed n level) ≡ end + length (listed i level)
  pub low : to ≤ end
  pub is : listed i level ++ drop to out ≡ listed n level ++ drop end d
  pub kept : take (end - length (listed n level) - 4) out ≡ take (end - length (listed n level) - 4) d
  pub long : length out ≡ length d

-- a turn: l, the bytes of the levels from i to j, is put before them
pub put_more : {level : ℕ → ℤ} {n : ℕ} {d : List ℕ} {end j : ℕ} {out : List ℕ} {to : ℕ} (i k : ℕ) (l : List ℕ) {out' : List ℕ} {r : ℕ}
    → Put level n d end j out to → 4 + length (listed n level) ≤ end → listed j level ≡ listed i level ++ l → r + length l ≡ to
    → end - length (listed n level) - 4 ≤ k → take k out' ≡ take k out → drop r out' ≡ l ++ drop to out → length out' ≡ length out
    → Put level n d end i out' r
put_more {level} {n} {d} {end} {j} {out} {to} i k l {out'} {r} p room more back b same put long =
    let base = end - length (listed n level) - 4 in
    record {
      at = omega (arith, p.at, ap length more ∙ length-append (listed i level) l);
      low = omega (arith, p.low);
      is = ap (λ (x : List ℕ). listed i level ++ x) put ∙ sym (append_assoc (listed i level) l (drop to out))
          ∙ ap (λ (x : List ℕ). x ++ drop to out) (sym more) ∙ p.is;
      kept = sym (take-take base k out' b) ∙ ap (take base) same ∙ take-take base k out b ∙ p.kept;
      long = long ∙ p.long;
    }

-- the last level, and the last n of a buffer's
pub one_more : (j : ℕ) (level : ℕ → ℤ) → 0 < j → listed j level ≡ listed (j - 1) level ++ bytes_for (level (j - 1))
unfolding listed
one_more j level h = let e : j ≡ suc (j - 1) = omega arith in ap (λ (k : ℕ). listed k level) e

pub some_more : (j n : ℕ) (level part : ℕ → ℤ) → ((i : ℕ) → i < n → level (j + i) ≡ part i) → listed (j + n) level ≡ listed j level ++ listed n part
some_more j n level part same =
    listed_split j n level ∙ ap (λ (l : List ℕ). listed j level ++ l) (listed_same n (λ i. level (j + i)) part same)

pub listed_nil : (level : ℕ → ℤ) → listed 0 level ≡ []
unfolding listed
listed_nil level = refl

-- what is put, as the contracts say it
abbrev Written : (ℕ → ℤ) → ℕ → List ℕ → ℕ → List ℕ → ℕ → Type 0
Written level n d end out to =
    (to + length (listed n level) ≡ end) × ((take (to - 4) out ≡ take (to - 4) d) × (drop to out ≡ listed n level ++ drop end d))

pub put_all : {level : ℕ → ℤ} {n : ℕ} {d : List ℕ} {end i : ℕ} {out : List ℕ} {to : ℕ} → Put level n d end i out to → i ≡ 0 → Written level n d end out to
put_all {level} {n} {d} {end} {i} {out} {to} p e =
    let none = ap (λ (k : ℕ). listed k level) e ∙ listed_nil level in
    let all : to + length (listed n level) ≡ end = omega (arith, p.at, ap length none) in
    let base : end - length (listed n level) - 4 ≡ to - 4 = omega arith in
    (all, (rw base at p.kept, rw none at p.is))

pub put_empty : (level : ℕ → ℤ) (n : ℕ) (d : List ℕ) (end : ℕ) → listed n level ≡ [] → Written level n d end d end
put_empty level n d end e = (omega (arith, ap length e), (refl, rw e))
