-- Contract: what `value` promises: the model's run of the rule on the record that the areas hold, with its value by a handle.
use Rattle.std.specs.Prelude.{◌≡◌, ℕ, ◌≤◌, length, Ok, Err}
use Rattle.model.specs.Bytes.{Bytes}
use Rattle.model.specs.Eval as models
use Rattle.model.specs.Eval.{outcome, run}
use Rattle.model.specs.Limits.{max_nesting, heap_cells}
use Rattle.model.specs.declared.refusal.EvalFault.{EvalFault}
use Rattle.model.specs.Rule.{Rule}
use Rattle.model.specs.Run.{Ended, steps}
use Rattle.model.specs.Value.{Value}
use Rattle.heap.specs.declared.handle.Handle.{Handle}
use Rattle.heap.specs.Means.{Means}
use Rattle.heap.specs.Unfold.{Areas, areas}
use Rattle.rule.specs.Holds.{Holds}
use Rattle.table.specs.Denotes.{Denotes}
use Rattle.table.specs.Node.{node_at}
use Rattle.eval.specs.declared.Outcome.{Outcome}

-- The run's steps; and its value, or its refusal.
pub data Reached (a : Areas) (m : Ended Value) (r : Outcome) : Type 0 where
  reached_value : {v : Value} {h : Handle} {top : ℕ} → outcome m ≡ models.value v → r ≡ record { steps = steps m; value = Ok h } → Means a top v h → top ≤ heap_cells → Reached a m r
  reached_refusal : {e : EvalFault} → outcome m ≡ models.refusal e → r ≡ record { steps = steps m; value = Err e } → Reached a m r

-- C are the cells before, C' after: the value's handle refers to these. By `Ready` (Evaluate.antt) there is such a rule and such a value.
pub record Reaches (T A R B C : Bytes) (limit : ℕ) (r : Outcome) (C' : Bytes) : Type 0 where
  pub size : length C' ≡ length C
  pub reaches :
      (ρ : Rule) (κ : Value)
      → Holds T A max_nesting 0 ρ
      → Denotes R B κ (node_at R 0)
      → Reached (areas A B R C') (run ρ κ limit) r
