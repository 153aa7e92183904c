-- Contract: what `apply` does. A and B are the rule's and the record's strings, R the record's table, C the cells before and C' after.
use Rattle.std.specs.Prelude.{◌≡◌, ℕ, ◌+◌, ◌/◌, ◌≤◌, length, Ok, Err}
use Rattle.model.specs.Bytes.{Bytes}
use Rattle.model.specs.EvalPlain.{lift}
use Rattle.model.specs.Limits.{heap_cells}
use Rattle.model.specs.Operations.{operate}
use Rattle.model.specs.Rule.{Operation}
use Rattle.model.specs.Value.{Values}
use Rattle.heap.specs.Blocks.{MeansEach}
use Rattle.heap.specs.Cells.{cell_bytes}
use Rattle.heap.specs.Unfold.{areas}
use Rattle.keywords.specs.declared.Op.{Op}
use Rattle.keywords.specs.Contract.{Stands}
use Rattle.operations.specs.declared.ended.Denied.{Denied}
use Rattle.operations.specs.declared.ended.Given.{Given}
use Rattle.operations.specs.declared.ended.State.{State}
use Rattle.operations.specs.Cells.{Same}
use Rattle.operations.specs.Ended.{Ending, EndsAs}
use Rattle.operations.specs.Stack.{stacked}

-- The operands stand below the bottom, and between the heap's top and them is room for as many again.
pub record StackRoom (C : Bytes) (count : ℕ) (s : State) : Type 0 where
  pub fits : s.top + count + count ≤ s.bottom
  pub within : s.bottom ≤ heap_cells
  pub enough : heap_cells ≤ length C / cell_bytes

-- It takes no step; the heap grows by no more than a cell for each operand.
pub record AppliesIn (count : ℕ) (s : State) (r : Ending) : Type 0 where
  pub steps : (g : Given) → r ≡ Ok g → g.state.left ≡ s.left
  pub grows : (g : Given) → r ≡ Ok g → s.top ≤ g.state.top
  pub spends : (g : Given) → r ≡ Ok g → g.state.top ≤ s.top + count
  pub bottom : (g : Given) → r ≡ Ok g → g.state.bottom ≡ s.bottom
  pub deep : (g : Given) → r ≡ Ok g → g.state.deep ≡ s.deep
  pub stops : (d : Denied) → r ≡ Err d → d.left ≡ s.left

-- An operation on the values of the operands on the stack.
pub record Applies (A B R C : Bytes) (op : Op) (count : ℕ) (s : State) (r : Ending) (C' : Bytes) : Type 0 where
  pub same : Same C C' s.top s.bottom
  pub within : AppliesIn count s r
  pub gives :
      (o : Operation) (vs : Values)
      → Stands op o count
      → MeansEach (areas A B R C) s.top vs (stacked C s.bottom count)
      → EndsAs (areas A B R C') (lift (operate o vs) s.left) r
