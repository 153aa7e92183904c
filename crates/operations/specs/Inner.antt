-- Inner: what the private functions do.
use Rattle.std.specs.Prelude.{ℕ, ◌+◌, ◌≤◌, Ok}
use Rattle.model.specs.Bytes.{Bytes}
use Rattle.model.specs.Operations.{comparison}
use Rattle.model.specs.Value.{Values}
use Rattle.model.specs.declared.Comparison.{Comparison}
use Rattle.model.specs.declared.Domain.{Domain}
use Rattle.heap.specs.declared.handle.Form.TheVariants as forms
use Rattle.heap.specs.declared.handle.Handle.TheVariants.{Compound}
use Rattle.heap.specs.Blocks.{MeansEach}
use Rattle.heap.specs.Handles.{parts}
use Rattle.heap.specs.Unfold.{Areas}
use Rattle.op_result.specs.Contract.{Answered, Gives}
use Rattle.operations.specs.declared.ended.State.{State}
use Rattle.operations.specs.Ended.{Ending, given, state}
use Rattle.operations.specs.Stack.{stacked}

-- A comparison of the values of the two or three operands on the stack.
pub record Compares (C : Bytes) (d : Domain) (c : Comparison) (bottom count : ℕ) (r : Answered) : Type 0 where
  pub gives :
      (a : Areas) (top : ℕ) (vs : Values)
      → 2 ≤ count
      → count ≤ 3
      → MeansEach a top vs (stacked C bottom count)
      → Gives a top (comparison d c vs) r

-- The list of a block from the heap's top on, which is then above it.
abbrev pub listed : ℕ → State → Ending
listed count s = Ok (given (Compound (parts forms.List s.top count)) (state s.left (s.top + count) s.bottom s.deep))
