-- Amounts: an integer from the number to which 2^53 was added.
use mathlib.Core.Path.{◌≡◌, ap, ◌∙◌}
use mathlib.Core.Bool.{true}
use Prim.Native.Nat.{ℕ, suc, ◌-◌, ◌%◌, ◌<◌}
use native.Mathlib.Decide.{dec_lt}
use native.Mathlib.Omega.{arith}
use lib.Dec.{T, leb, leb→le}
use lib.IntN.{ℤ, pos, negsuc, ◌-ℤ◌}
use mir.Facts.{to_z-of_z, to_z_pos}
use mir.Syntax.{w64}
use mir.Val.{SFits, of_z, to_z}
use Rattle.model.specs.Limits.{max_integer}
use Rattle.model.specs.Value.{within_limits}
use Rattle.model.proofs.Laws.Logic.{and_l}
use Rattle.syntax.specs.Layout.{biased}
use Rattle.calendar.proofs.Laws.Instant.{minus, minus_below}
use Rattle.op_dates.specs.Inner.{Unbiased}

-- A number below 2^54, as the machine reads it.
read : (n : ℕ) → to_z w64 (n % 18014398509481984) ≡ pos (n % 18014398509481984)
read n = to_z_pos w64 (omega arith)

difference_fits : (m : ℕ) → m < 18014398509481984 → SFits w64 (pos m -ℤ pos 9007199254740992)
difference_fits m h = go (dec_lt m 9007199254740992)
  where
    go : Dec (m < 9007199254740992) → SFits w64 (pos m -ℤ pos 9007199254740992)
    go (yes p) = rw (minus_below m 9007199254740992 p) (record { sfits = omega arith })
    go (no p) = rw (minus m 9007199254740992 (omega arith)) (record { sfits = omega arith })

difference_is : (n : ℕ) (k : ℤ) → T (within_limits k) → n ≡ biased k → pos (n % 18014398509481984) -ℤ pos 9007199254740992 ≡ k
unfolding biased max_integer
difference_is n (pos j) w e =
    let l = leb→le j 9007199254740991 w in
    let r : n % 18014398509481984 - 9007199254740992 ≡ j = omega arith in
    minus (n % 18014398509481984) 9007199254740992 (omega arith) ∙ ap pos r
difference_is n (negsuc j) w e =
    let l = leb→le j 9007199254740990 (and_l (leb j 9007199254740990) true w) in
    let r : 9007199254740992 - suc (n % 18014398509481984) ≡ j = omega arith in
    minus_below (n % 18014398509481984) 9007199254740992 (omega arith) ∙ ap negsuc r

pub amount_fits : (n : ℕ) → SFits w64 (to_z w64 (n % 18014398509481984) -ℤ pos 9007199254740992)
amount_fits n = rw (read n) (difference_fits (n % 18014398509481984) (omega arith))

pub amount_is : (n : ℕ) → Unbiased n (to_z w64 (of_z w64 (to_z w64 (n % 18014398509481984) -ℤ pos 9007199254740992)))
amount_is n = record { is = λ k w e. to_z-of_z (amount_fits n) ∙ (ap (λ (z : ℤ). z -ℤ pos 9007199254740992) (read n) ∙ difference_is n k w e) }
