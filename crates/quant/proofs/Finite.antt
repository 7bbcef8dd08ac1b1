-- No magnitude and no level is a NaN or an infinity, whatever settings, step and coefficient are accepted; and zero stays zero under all of
-- them, the smallest step too. So it is of every number that an accepted call writes. Assumes nothing.
use mathlib.Core.Path.{◌≡◌, refl, sym, subst}
use mathlib.Core.Bool.{Bool, true, false, cond}
use mathlib.Core.List.{List}
use Prim.Native.Nat.{ℕ, ◌<◌, ◌≤◌}
use lib.Dec.{T}
use lib.IntN.{ℤ}
use lib.Ieee.{Float}
use lib.Ieee.Scale.{finite}
use lib.ListN.{length, get_or}
use Rattle.answer.specs.Answer.{Answer, answers, after}
use Rattle.laws.proofs.Filled.{front_at}
use Rattle.quant.specs.Finite.{AlwaysFinite, ZeroStays, ScanFinite, AllFinite, OneFinite}
use Rattle.quant.specs.Level.{magnitude_at, level_at}
use Rattle.quant.specs.Place.{refused, kept, dropped, is_kept, place_of, one_answer}
use Rattle.quant.specs.Scan.{named_at, scan_answer, scanned, levels_after, magnitudes_after}
use Rattle.quant.specs.Settings.{settings_ok, coefficient_ok}
use Rattle.quant.specs.declared.Settings.{Settings}
use Rattle.quant.proofs.Bounded as bounded
use Rattle.quant.proofs.Scanned.{Call, answer, accepted}

-- each accepted coefficient has a finite magnitude and a finite level
pub always_finite : AlwaysFinite
always_finite s step c ok fine = (bounded.magnitude_finite s step ok c fine, bounded.level_finite s step ok c fine)

-- the zero coefficient has magnitude +0.0 and level +0.0
pub zero_stays : ZeroStays
zero_stays s step ok = (bounded.zero_magnitude s step ok, bounded.zero_level s step ok)

-- ---- every number that an accepted call over a scan writes is finite

-- a buffer that is written by a number of each coefficient, which is finite for each that is in range
finite_at : (k : Call) (of : ℤ → Float) → ((c : ℤ) → coefficient_ok c ≡ true → T (finite (of c)))
    → (m : ℕ) → answers m ≡ answer k → (buffer : List Float) → length k.scan ≤ length buffer → (i : ℕ) → i < length k.scan → (z : Float)
    → T (finite (get_or (after (answer k) (scanned of k.width k.coefficients k.scan buffer) buffer) i z))
unfolding scanned
finite_at k of f m e buffer room i h z =
    subst (λ (a : Answer). T (finite (get_or (after a (scanned of k.width k.coefficients k.scan buffer) buffer) i z))) e
    (subst (λ (x : Float). T (finite x)) (sym (front_at buffer (length k.scan) (λ j. of (named_at k.width k.coefficients k.scan j)) z room i h))
    (f (named_at k.width k.coefficients k.scan i) ((accepted k m e).in_scan i h)))

module _ (width step : ℕ) (s : Settings) (coefficients : List ℤ) (scan : List ℕ) (levels magnitudes : List Float)
    (m : ℕ) (done : answers m ≡ scan_answer width step s coefficients scan (length levels) (length magnitudes)) where
  abbrev k : Call
  k = record { width = width; step = step; settings = s; coefficients = coefficients; scan = scan; levels = length levels; magnitudes = length magnitudes }

  pub levels_finite : (i : ℕ) → i < length scan → (z : Float) → T (finite (get_or (levels_after width step s coefficients scan levels magnitudes) i z))
  unfolding levels_after
  levels_finite =
      let c = (accepted k m done).first in
      finite_at k (level_at s step) (λ z ok. (always_finite s step z c.fine ok).1) m done levels c.levels_room

  pub magnitudes_finite : (i : ℕ) → i < length scan → (z : Float) → T (finite (get_or (magnitudes_after width step s coefficients scan levels magnitudes) i z))
  unfolding magnitudes_after
  magnitudes_finite =
      let c = (accepted k m done).first in
      finite_at k (magnitude_at s step) (λ z ok. (always_finite s step z c.fine ok).0) m done magnitudes c.magnitudes_room

pub scan_finite : ScanFinite
scan_finite width step s coefficients scan levels magnitudes m done = (
  levels_finite width step s coefficients scan levels magnitudes m (sym done),
  magnitudes_finite width step s coefficients scan levels magnitudes m (sym done),
)

-- ---- and every number of the answer for one place

pub one_finite : OneFinite
unfolding one_answer place_of
one_finite s step c = tested (settings_ok s step) (coefficient_ok c) (always_finite s step c)
  where
    place : T (finite (magnitude_at s step c)) × T (finite (level_at s step c)) → AllFinite (place_of s step c)
    place f = go (is_kept s step c)
      where
        go : (t : Bool) → AllFinite (cond t (kept (level_at s step c) (magnitude_at s step c)) (dropped (magnitude_at s step c)))
        go true = (f.1, f.0)
        go false = f.0

    tested : (a b : Bool) → (a ≡ true → b ≡ true → T (finite (magnitude_at s step c)) × T (finite (level_at s step c)))
        → AllFinite (cond a (cond b (place_of s step c) (refused 9)) (refused 7))
    tested false b f = tt
    tested true false f = tt
    tested true true f = place (f refl refl)
