-- What the test of a side says, and what its logarithm is. Assumes nothing.
use mathlib.Core.Path.{◌≡◌, refl, sym, ap, ap₂, subst, ◌∙◌}
use mathlib.Core.Logic.{◌⊎◌, inl, inr, ⊎_elim}
use mathlib.Core.Bool.{Bool, true, false, cond, ◌||◌}
use Prim.Native.Nat.{ℕ, ◌+◌, ◌-◌, ◌*◌, ◌≤◌, ◌^◌}
use native.Mathlib.Nat.{mul-le-mul}
use native.Mathlib.Omega.{arith}
use lib.Dec.{eqb, lit≤}
use borrow.Author.Tests.{eqb-true}
use Rattle.laws.proofs.Bool.{either}
use Rattle.laws.specs.Table.{every}
use Rattle.laws.proofs.Every.{every_each}
use Rattle.sizes.specs.Size.{is_side, log_of}

-- n is one of the four sides
abbrev pub Four : ℕ → Type 0
Four n = (n ≡ 4) ⊎ ((n ≡ 8) ⊎ ((n ≡ 16) ⊎ (n ≡ 32)))

pub side_cases : (n : ℕ) → is_side n ≡ true → Four n
unfolding is_side
side_cases n e =
    ⊎_elim (λ a. inl (eqb-true n 4 a))
    (λ r. ⊎_elim (λ a. inr (inl (eqb-true n 8 a)))
    (λ s. ⊎_elim (λ a. inr (inr (inl (eqb-true n 16 a))))
    (λ a. inr (inr (inr (eqb-true n 32 a))))
    (either (eqb n 16) (eqb n 32) s))
    (either (eqb n 8) (eqb n 16 || eqb n 32) r))
    (either (eqb n 4) (eqb n 8 || (eqb n 16 || eqb n 32)) e)

-- what holds of each of the four sides holds of every side
pub each_side : (P : ℕ → Type 0) → P 4 → P 8 → P 16 → P 32 → (n : ℕ) → is_side n ≡ true → P n
each_side P a b c d n s =
    ⊎_elim (λ e. subst P (sym e) a) (⊎_elim (λ e. subst P (sym e) b) (⊎_elim (λ e. subst P (sym e) c) (λ e. subst P (sym e) d)))
    (side_cases n s)

pub record Sided (n : ℕ) : Type 0 where
  pub low : 4 ≤ n
  pub high : n ≤ 32
  pub power : n ≡ 2 ^ log_of n

pub side_bounds : (n : ℕ) → is_side n ≡ true → Sided n
unfolding log_of
side_bounds =
    each_side Sided
    (record { low = lit≤ tt; high = lit≤ tt; power = refl })
    (record { low = lit≤ tt; high = lit≤ tt; power = refl })
    (record { low = lit≤ tt; high = lit≤ tt; power = refl })
    (record { low = lit≤ tt; high = lit≤ tt; power = refl })

-- a side is 2 to what the code gives as its logarithm
pub side_power : (n e : ℕ) → is_side n ≡ true → e ≡ log_of n → 2 ^ e ≡ n
side_power n e s u = ap (λ (i : ℕ). 2 ^ i) u ∙ sym (side_bounds n s).power

-- a block has at most 1,024 places
pub size_small : (w h : ℕ) → is_side w ≡ true → is_side h ≡ true → w * h ≤ 1024
size_small w h sw sh =
    let a = side_bounds w sw in let b = side_bounds h sh in
    omega (arith, mul-le-mul a.high b.high)

-- the logarithm of anything lies from 2 to 5
pub record Logged (l : ℕ) : Type 0 where
  pub low : 2 ≤ l
  pub high : l ≤ 5

pub log_bounds : (n : ℕ) → Logged (log_of n)
unfolding log_of
log_bounds n = pick (eqb n 4) (pick (eqb n 8) (pick (eqb n 16) five four) three) two
  where
    pick : (t : Bool) {a b : ℕ} → Logged b → Logged a → Logged (cond t a b)
    pick true x y = y
    pick false x y = x

    two : Logged 2
    two = record { low = lit≤ tt; high = lit≤ tt }

    three : Logged 3
    three = record { low = lit≤ tt; high = lit≤ tt }

    four : Logged 4
    four = record { low = lit≤ tt; high = lit≤ tt }

    five : Logged 5
    five = record { low = lit≤ tt; high = lit≤ tt }

-- what a test over the sixteen sizes, which the checker computes, says of each
pub each_size : (test : ℕ → ℕ → Bool) → every 4 (λ i. every 4 (λ j. test (2 ^ (i + 2)) (2 ^ (j + 2)))) ≡ true
    → (w h : ℕ) → is_side w ≡ true → is_side h ≡ true → test w h ≡ true
each_size test all w h sw sh =
    let lw = log_bounds w in let lh = log_bounds h in
    let i = log_of w - 2 in let j = log_of h - 2 in
    let wi : i + 2 ≡ log_of w = omega arith in let hj : j + 2 ≡ log_of h = omega arith in
    let row = every_each 4 (λ i. every 4 (λ j. test (2 ^ (i + 2)) (2 ^ (j + 2)))) all i (omega arith) in
    subst (λ (b : Bool). b ≡ true)
    (ap₂ test (ap (λ (e : ℕ). 2 ^ e) wi ∙ sym (side_bounds w sw).power) (ap (λ (e : ℕ). 2 ^ e) hj ∙ sym (side_bounds h sh).power))
    (every_each 4 (λ j. test (2 ^ (i + 2)) (2 ^ (j + 2))) row j (omega arith))
