-- Inner: what the private functions of this crate are about.
use Rattle.std.specs.Prelude.{◌≡◌, ℕ, T, ℤ, Ok, Err}
use Rattle.model.specs.Instant.{since_year0}
use Rattle.model.specs.Result.{Result, ok, refuse}
use Rattle.model.specs.Value.{within_limits}
use Rattle.model.specs.declared.TimeUnit.{TimeUnit}
use Rattle.syntax.specs.Layout.{biased}
use Rattle.heap.specs.declared.handle.Handle.TheVariants.{Instant}
use Rattle.calendar.specs.Contract.{shifted}
use Rattle.op_result.specs.Contract.{Answered}

-- The answer of an operation that gives an instant.
abbrev pub operated : Result ℤ → Answered
operated (ok t) = Ok (Instant (since_year0 t))
operated (refuse e) = Err e

-- r is the integer within the limits to which 2^53 was added.
pub record Unbiased (n : ℕ) (r : ℤ) : Type 0 where
  pub is : (k : ℤ) → T (within_limits k) → n ≡ biased k → r ≡ k

pub record Moves (t : ℤ) (amount : ℕ) (unit : TimeUnit) (r : Answered) : Type 0 where
  pub is : (k : ℤ) → T (within_limits k) → amount ≡ biased k → r ≡ operated (shifted t k unit)
