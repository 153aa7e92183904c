-- Instant: milliseconds since 0000-01-01 as instants, there and back, late, and moved.
use Rattle.std.specs.Prelude.{◌≡◌, refl, Bool, true, false, cond, ℕ, zero, suc, ◌+◌, ◌-◌, ◌≤◌, ◌<◌, ltb, ℤ, pos, negsuc, neg_ℤ, ◌+ℤ◌}
use Rattle.std.proofs.Common.{sym, ap, ◌∙◌, arith, ltb-true, ltb-false, lt-ltb, le-ltb}
use Rattle.std.proofs.lemmas.Bool.{lt-leb}
use Rattle.std.proofs.Math.IntN.{+ℤ_assoc, +ℤ_comm}
use Rattle.model.specs.Instant.{earliest, ranged, from_year0, since_year0}
use Rattle.model.specs.declared.refusal.Fault.TheVariants.{OutOfRange}
use Rattle.model.specs.Result.{refuse}

pub since_from : (u : ℕ) → since_year0 (from_year0 u) ≡ u
since_from u = go (ltb u 62167219200000) refl
  where
    go : (b : Bool) → ltb u 62167219200000 ≡ b → since_year0 (cond b (negsuc (62167219200000 - suc u)) (pos (u - 62167219200000))) ≡ u
    go true e = omega (arith, ltb-true u 62167219200000 e)
    go false e = omega (arith, ltb-false u 62167219200000 e)

-- After 9999-12-31.
pub from_late : (u : ℕ) → 315569519999999 < u → ranged (from_year0 u) ≡ refuse OutOfRange
from_late u h = rw (le-ltb u 62167219200000 (omega arith), lt-leb (u - 62167219200000) 253402300799999 (omega arith))

-- ---- moved
-- It is the same whether milliseconds are moved or the instant.
pub moved : (u : ℕ) (x : ℤ) → from_year0 u +ℤ x ≡ pos u +ℤ x +ℤ earliest
moved u x = +ℤ_assoc (pos u) earliest x ∙ (ap (λ (z : ℤ). pos u +ℤ z) (+ℤ_comm earliest x) ∙ sym (+ℤ_assoc (pos u) x earliest))

pub moved_on : (u k : ℕ) → from_year0 u +ℤ pos k ≡ from_year0 (u + k)
moved_on u k = moved u (pos k)

pub minus : (u k : ℕ) → k ≤ u → pos u +ℤ neg_ℤ (pos k) ≡ pos (u - k)
minus u zero h = ap pos (omega arith)
minus u (suc k) h = rw (le-ltb u (suc k) h)

pub moved_back : (u k : ℕ) → k ≤ u → from_year0 u +ℤ neg_ℤ (pos k) ≡ from_year0 (u - k)
moved_back u k h = moved u (neg_ℤ (pos k)) ∙ ap (λ (z : ℤ). z +ℤ earliest) (minus u k h)

pub minus_below : (u k : ℕ) → u < k → pos u +ℤ neg_ℤ (pos k) ≡ negsuc (k - suc u)
minus_below u zero h = absurd (omega arith)
minus_below u (suc k) h = rw (lt-ltb u (suc k) h)

-- Before 0000-01-01.
pub from_early : (n : ℕ) → ranged (negsuc n +ℤ earliest) ≡ refuse OutOfRange
from_early n = rw (lt-leb (suc (n + 62167219199999)) 62167219199999 (omega arith))

pub moved_out : (u k : ℕ) → u < k → ranged (from_year0 u +ℤ neg_ℤ (pos k)) ≡ refuse OutOfRange
moved_out u k h = ap ranged (moved u (neg_ℤ (pos k)) ∙ ap (λ (z : ℤ). z +ℤ earliest) (minus_below u k h)) ∙ from_early (k - suc u)
