-- Raised: integers raised by one number are ordered as they were; sums are raised by both numbers.
use mathlib.Core.Path.{◌≡◌, refl, sym, ap₂}
use mathlib.Core.Bool.{Bool, true, false, cond, ◌&&◌}
use Prim.Native.Nat.{ℕ, suc, ◌+◌, ◌-◌, ◌≤◌, ◌<◌}
use native.Mathlib.Decide.{dec_lt}
use native.Mathlib.Omega.{arith}
use borrow.Author.Tests.{ltb-true, ltb-false, le-leb, lt-leb, ne_eqb}
use lib.Dec.{T, eqb, leb, ltb, leb→le}
use lib.IntN.{ℤ, pos, negsuc, sub_ℕ, ◌+ℤ◌}
use lib.Signed.{le_z, lt_z}
use Rattle.model.specs.Instant.{in_range, since_year0}
use Rattle.model.proofs.Laws.Logic.{and_l}
use Rattle.model.proofs.Laws.Tests.{same_le, same_eq}
use Rattle.model.specs.Limits.{max_integer}
use Rattle.model.specs.Value.{same_integer, within_limits}
use Rattle.syntax.specs.Layout.{biased, unbiased}
use Rattle.op_scalars.specs.Inner.{Raised, raised_pos, raised_negsuc}

-- ---- order
pub le_raised : {k m n : ℕ} {y z : ℤ} → Raised k y m → Raised k z n → le_z y z ≡ leb m n
le_raised (raised_pos a m e) (raised_pos b n f) = same_le a b m n (λ l. omega arith) (λ l. omega arith)
le_raised (raised_pos a m e) (raised_negsuc b n f) = sym (lt-leb m n (omega arith))
le_raised (raised_negsuc a m e) (raised_pos b n f) = sym (le-leb m n (omega arith))
le_raised (raised_negsuc a m e) (raised_negsuc b n f) = same_le b a m n (λ l. omega arith) (λ l. omega arith)

pub lt_raised : {k m n : ℕ} {y z : ℤ} → Raised k y m → Raised k z n → lt_z y z ≡ ltb m n
lt_raised (raised_pos a m e) (raised_pos b n f) = same_le (suc a) b (suc m) n (λ l. omega arith) (λ l. omega arith)
lt_raised (raised_pos a m e) (raised_negsuc b n f) = sym (lt-leb (suc m) n (omega arith))
lt_raised (raised_negsuc a m e) (raised_pos b n f) = sym (le-leb (suc m) n (omega arith))
lt_raised (raised_negsuc a m e) (raised_negsuc b n f) = same_le (suc b) a (suc m) n (λ l. omega arith) (λ l. omega arith)

-- ---- equality
pub same_raised : {k m n : ℕ} {y z : ℤ} → Raised k y m → Raised k z n → same_integer y z ≡ eqb m n
same_raised (raised_pos a m e) (raised_pos b n f) = same_eq a b m n (λ l. omega arith) (λ l. omega arith)
same_raised (raised_pos a m e) (raised_negsuc b n f) = sym (ne_eqb m n (λ l. omega arith))
same_raised (raised_negsuc a m e) (raised_pos b n f) = sym (ne_eqb m n (λ l. omega arith))
same_raised (raised_negsuc a m e) (raised_negsuc b n f) = same_eq a b m n (λ l. omega arith) (λ l. omega arith)

-- ---- sums
sub_raised : {k : ℕ} (a b n : ℕ) → n + b ≡ a + k → Raised k (sub_ℕ a b) n
sub_raised {k} a b n e = go (ltb a b) refl
  where
    go : (t : Bool) → ltb a b ≡ t → Raised k (cond t (negsuc (b - suc a)) (pos (a - b))) n
    go true f = let l = ltb-true a b f in raised_negsuc (b - suc a) n (omega arith)
    go false f = let l = ltb-false a b f in raised_pos (a - b) n (omega arith)

pub sum_raised : {j k m n : ℕ} {y z : ℤ} → Raised j y m → Raised k z n → Raised (j + k) (y +ℤ z) (m + n)
sum_raised (raised_pos a m e) (raised_pos b n f) = raised_pos (a + b) (m + n) (omega arith)
sum_raised (raised_pos a m e) (raised_negsuc b n f) = sub_raised a (suc b) (m + n) (omega arith)
sum_raised (raised_negsuc a m e) (raised_pos b n f) = sub_raised b (suc a) (m + n) (omega arith)
sum_raised (raised_negsuc a m e) (raised_negsuc b n f) = raised_negsuc (suc (a + b)) (m + n) (omega arith)

-- ---- the limits
-- Beyond them either way, by the raised number.
pub limits_raised : {k n : ℕ} {z : ℤ} → 9007199254740991 ≤ k → Raised k z n → within_limits z ≡ leb (k - 9007199254740991) n && leb n (9007199254740991 + k)
unfolding max_integer
limits_raised {k} l r =
    ap₂ ◌&&◌
    (le_raised (raised_negsuc 9007199254740990 (k - 9007199254740991) (omega arith)) r)
    (le_raised r (raised_pos 9007199254740991 (9007199254740991 + k) refl))

-- ---- the numbers in handles
pub biased_raised : (z : ℤ) → T (within_limits z) → Raised 9007199254740992 z (biased z)
unfolding biased max_integer
biased_raised (pos n) h = raised_pos n (9007199254740992 + n) (omega arith)
biased_raised (negsuc n) h =
    let l = leb→le n 9007199254740990 (and_l (leb n 9007199254740990) true h) in
    raised_negsuc n (9007199254740992 - suc n) (omega arith)

pub since_raised : (t : ℤ) → T (in_range t) → Raised 62167219200000 t (since_year0 t)
since_raised (pos n) h = raised_pos n (n + 62167219200000) refl
since_raised (negsuc n) h =
    let l = leb→le n 62167219199999 (and_l (leb n 62167219199999) true h) in
    raised_negsuc n (62167219200000 - suc n) (omega arith)

pub unbiased_raised : (n : ℕ) → Raised 9007199254740992 (unbiased n) n
unfolding unbiased
unbiased_raised n = go (dec_lt n 9007199254740992)
  where
    go : Dec (n < 9007199254740992) → Raised 9007199254740992 (unbiased n) n
    go (yes l) = rw (unbiased, lt-leb 9007199254740992 n l) (raised_negsuc (9007199254740991 - n) n (omega arith))
    go (no l) = rw (unbiased, le-leb 9007199254740992 n (omega arith)) (raised_pos (n - 9007199254740992) n (omega arith))

-- Raised twice as much, it is in its handle what is over the first time.
pub biased_over : {z : ℤ} {n : ℕ} → Raised 18014398509481984 z n → n - 9007199254740992 ≡ biased z
unfolding biased
biased_over (raised_pos m n e) = omega arith
biased_over (raised_negsuc m n e) = omega arith
