-- Contract: what `extract` promises.
use Rattle.std.specs.Prelude.{◌≡◌, ℕ, T, ℤ}
use Rattle.model.specs.Bytes.{Bytes}
use Rattle.model.specs.Operations.{extract_from_uvci}
use Rattle.model.specs.Value.{Value, within_limits}
use Rattle.syntax.specs.Layout.{biased}
use Rattle.heap.specs.declared.handle.Handle.{Handle}
use Rattle.heap.specs.Means.{Means}
use Rattle.heap.specs.Unfold.{areas}
use Rattle.op_result.specs.Contract.{Answered, Gives}

-- The index k is given with 2^53 added. A string lies in A or B, whatever the table and the cells hold.
pub record Extracts (A B : Bytes) (index : ℕ) (h : Handle) (r : Answered) : Type 0 where
  pub gives :
      (R C : Bytes) (top : ℕ) (k : ℤ) (v : Value)
      → T (within_limits k)
      → index ≡ biased k
      → Means (areas A B R C) top v h
      → Gives (areas A B R C) top (extract_from_uvci k v) r
