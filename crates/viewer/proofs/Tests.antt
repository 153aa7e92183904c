-- Tests: what a test chooses; a sum that is 0.
use mathlib.Core.Path.{◌≡◌}
use mathlib.Core.Bool.{Bool, true, false, cond, ◌&&◌}
use Prim.Native.Nat.{ℕ, ◌+◌}
use native.Mathlib.Decide.{ℕ_discrete}
use native.Mathlib.Omega.{arith}
use borrow.Author.Tests.{eq-eqb, ne_eqb}
use lib.Dec.{eqb}
use Rattle.model.proofs.Laws.Tests.{same_eq}

pub held : {A : Type 0} (b : Bool) (x y : A) → b ≡ true → x ≡ cond b x y
held b x y e = rw e

pub failed : {A : Type 0} (b : Bool) (x y : A) → b ≡ false → y ≡ cond b x y
failed b x y e = rw e

-- A sum is 0 if both are.
pub sum_zero : (a b : ℕ) → eqb (a + b) 0 ≡ eqb a 0 && eqb b 0
sum_zero a b = go (ℕ_discrete a 0)
  where
    go : Dec (a ≡ 0) → eqb (a + b) 0 ≡ eqb a 0 && eqb b 0
    go (yes e) = rw (eq-eqb a 0 e) (same_eq (a + b) 0 b 0 (λ q. omega arith) (λ q. omega arith))
    go (no e) = rw (ne_eqb a 0 e) (ne_eqb (a + b) 0 (λ q. e (omega arith)))
