-- Moves: what a sum of 128 bits tells of a count that is moved.
use Rattle.std.specs.Prelude.{◌≡◌, ◌<◌, ◌^◌, ℕ, ℤ, pos, negsuc, unsigned_abs}
use Rattle.std.specs.Int.{FitsUnsigned}
use Rattle.std.proofs.Common.{arith, ap, sym, w64}
use Rattle.std.proofs.Math.Decide.{dec_lt}
use lib.Dec.{le→leb, lt→ltb}
use lib.Signed.{le_z_yes, lt_z_yes, yes_non_neg}
use Rattle.instants.specs.Inner.{Far}

-- A number that fits no u64 is far away,
pub far_sum : (z : ℤ) → ¬ (FitsUnsigned w64 z) → Far z
far_sum (pos n) f = go (dec_lt n (2 ^ 64))
  where
    go : Dec (n < 2 ^ 64) → Far (pos n)
    go (yes g) = absurd (f (le_z_yes (le→leb 0 n (omega arith)), lt_z_yes (lt→ltb n (2 ^ 64) g)))
    go (no g) = omega arith
far_sum (negsuc n) f = tt

-- and one that fits is its own size.
pub near_sum : (z : ℤ) (n : ℕ) → FitsUnsigned w64 z → n ≡ unsigned_abs z → z ≡ pos n
near_sum (pos k) n f e = ap pos (sym e)
near_sum (negsuc k) n f e = absurd (yes_non_neg f.0)
