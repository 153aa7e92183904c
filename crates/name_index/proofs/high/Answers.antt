-- The leading zeros of what two symbols differ in.
use Rattle.name_index.proofs.Bits.{enough, highest}
use lib.Count.{leading_le}
use lib.Bits.{bit_xor}
use mathlib.Core.Path.{refl}
use native.Mathlib.Omega.{arith}
use Rattle.name_index.proofs.high.Goals as goal

pub overflow_cast-result : goal.overflow_cast-result
overflow_cast-result c = omega (arith, leading_le 64 (bit_xor c.args.x c.args.y))

pub overflow_sub-result : goal.overflow_sub-result
overflow_sub-result c = enough c.args.x c.args.y c.requires.0 c.requires.1 c.requires.2

pub returns : goal.returns
returns c = highest c.args.x c.args.y c.requires.0 c.requires.1 c.requires.2 _ refl
