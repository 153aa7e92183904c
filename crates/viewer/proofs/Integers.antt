-- Integers: an integer from the number in a row, to which 2^53 was added.
use mathlib.Core.Path.{◌≡◌, ap, ◌∙◌}
use mathlib.Core.Bool.{true, false}
use Prim.Native.Nat.{ℕ, suc, ◌-◌, ◌<◌, ◌≤◌}
use native.Mathlib.Decide.{dec_lt}
use native.Mathlib.Omega.{arith}
use borrow.Author.Tests.{lt-ltb, le-ltb, le-leb, lt-leb}
use lib.Dec.{leb, leb→le}
use lib.IntN.{pos, negsuc, ◌-ℤ◌}
use mir.Facts.{to_z-of_z, to_z_pos}
use mir.Syntax.{w64}
use mir.Val.{SFits, of_z, to_z}
use Rattle.model.specs.Limits.{max_integer}
use Rattle.model.proofs.Laws.Logic.{and_r}
use Rattle.syntax.specs.Layout.{unbiased}
use Rattle.table.specs.declared.row.Row.{Row}
use Rattle.table.specs.Row.{joined}
use Rattle.viewer.specs.Form.{is_integer, integer_in}

pub integer_small : (n : ℕ) → is_integer n ≡ true → n < 18014398509481984
unfolding max_integer
integer_small n e = omega (arith, leb→le n 18014398509481983 (and_r (leb 1 n) (leb n 18014398509481983) (rw e tt)))

difference_is : (n : ℕ) → pos n -ℤ pos 9007199254740992 ≡ unbiased n
unfolding unbiased
difference_is n = go (dec_lt n 9007199254740992)
  where
    go : Dec (n < 9007199254740992) → pos n -ℤ pos 9007199254740992 ≡ unbiased n
    go (yes p) =
        let e : 9007199254740992 - suc n ≡ 9007199254740991 - n = omega arith in
        rw (unbiased, lt-ltb n 9007199254740992 p, lt-leb 9007199254740992 n p) (ap negsuc e)
    go (no p) = rw (unbiased, le-ltb n 9007199254740992 (omega arith), le-leb 9007199254740992 n (omega arith))

unbiased_fits : (n : ℕ) → n < 18014398509481984 → SFits w64 (unbiased n)
unfolding unbiased
unbiased_fits n h = go (dec_lt n 9007199254740992)
  where
    go : Dec (n < 9007199254740992) → SFits w64 (unbiased n)
    go (yes p) = rw (unbiased, lt-leb 9007199254740992 n p) (record { sfits = omega arith })
    go (no p) = rw (unbiased, le-leb 9007199254740992 n (omega arith)) (record { sfits = omega arith })

-- As the machine reads and subtracts.
minus_is : (n : ℕ) → n < 18014398509481984 → to_z w64 n -ℤ pos 9007199254740992 ≡ unbiased n
minus_is n h = rw (to_z_pos w64 {n = n} (omega arith)) (difference_is n)

pub minus_fits : (n : ℕ) → n < 18014398509481984 → SFits w64 (to_z w64 n -ℤ pos 9007199254740992)
minus_fits n h = rw (minus_is n h) (unbiased_fits n h)

pub integer_is : (n : ℕ) → n < 18014398509481984 → to_z w64 (of_z w64 (to_z w64 n -ℤ pos 9007199254740992)) ≡ unbiased n
integer_is n h = to_z-of_z (minus_fits n h) ∙ minus_is n h

-- ---- by a row's two numbers
module _ (r : Row) where
  pub an_integer_in : is_integer (joined r) ≡ true → unbiased (joined r) ≡ integer_in r
  an_integer_in e = rw e

  pub no_integer_in : is_integer (joined r) ≡ false → pos 0 ≡ integer_in r
  no_integer_in e = rw e

  pub too_large : 18014398509481984 ≤ joined r → pos 0 ≡ integer_in r
  unfolding max_integer
  too_large h = no_integer_in (rw (le-leb 1 (joined r) (omega arith), lt-leb (joined r) 18014398509481983 (omega arith)))
