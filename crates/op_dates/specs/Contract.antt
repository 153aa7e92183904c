-- Contract: what the two functions promise.
use Rattle.std.specs.Prelude.{◌≡◌, ℕ, T, ℤ}
use Rattle.model.specs.Bytes.{Bytes}
use Rattle.model.specs.Operations.{plus_time, date_of_birth}
use Rattle.model.specs.Value.{Value, within_limits}
use Rattle.model.specs.declared.TimeUnit.{TimeUnit}
use Rattle.syntax.specs.Layout.{biased}
use Rattle.heap.specs.declared.handle.Handle.{Handle}
use Rattle.heap.specs.Means.{Means}
use Rattle.heap.specs.Unfold.{areas}
use Rattle.op_result.specs.Contract.{Answered, Gives}

-- The amount k is given with 2^53 added. A string lies in A or B, whatever the table R and the cells C hold.
pub record Shifts (A B : Bytes) (amount : ℕ) (unit : TimeUnit) (h : Handle) (r : Answered) : Type 0 where
  pub gives :
      (R C : Bytes) (top : ℕ) (k : ℤ) (v : Value)
      → T (within_limits k)
      → amount ≡ biased k
      → Means (areas A B R C) top v h
      → Gives (areas A B R C) top (plus_time k unit v) r

pub record Born (A B : Bytes) (h : Handle) (r : Answered) : Type 0 where
  pub gives : (R C : Bytes) (top : ℕ) (v : Value) → Means (areas A B R C) top v h → Gives (areas A B R C) top (date_of_birth v) r
