-- Evaluate: what `evaluate` promises: the model's answer for the rule and the record that the areas hold.
use Rattle.std.specs.Prelude.{◌≡◌, ℕ, ◌/◌, ◌≤◌, length, replicate, Result, Ok, Err}
use Rattle.model.specs.Bytes.{Bytes}
use Rattle.model.specs.Judgement.{answer_of}
use Rattle.model.specs.Limits.{max_nesting, max_steps, heap_cells}
use Rattle.model.specs.Refusal.{number}
use Rattle.model.specs.declared.refusal.Refusal.{Refusal}
use Rattle.model.specs.Rule.{Rule}
use Rattle.model.specs.Value.{Value}
use Rattle.syntax.specs.Output.{WriteAnswer, write_into}
use Rattle.heap.specs.Cells.{cell_bytes}
use Rattle.rule.specs.Holds.{Holds}
use Rattle.table.specs.Denotes.{Denotes}
use Rattle.table.specs.Node.{node_at}
use Rattle.writer.specs.declared.WriteFault.{WriteFault}
use Rattle.writer.specs.Contract.{refusal_of}
use Rattle.eval.specs.declared.Evaluated.{Evaluated}

-- The areas hold a rule and a value; the limit is one of 01's, and there are cells enough.
pub record Ready (T A R B C : Bytes) (limit : ℕ) : Type 0 where
  pub rule : Rule
  pub holds : Holds T A max_nesting 0 rule
  pub value : Value
  pub denotes : Denotes R B value (node_at R 0)
  pub limited : limit ≤ max_steps
  pub enough : heap_cells ≤ length C / cell_bytes

-- Refusal, steps, the text's length, and the last bytes of the cells and of the output.
pub record Evaluation : Type 0 where
  pub written : WriteAnswer
  pub steps : ℕ
  pub cells : Bytes

-- For a rule and a record, a limit, and so many bytes of cells and of output.
abbrev pub evaluation : Rule → Value → ℕ → ℕ → ℕ → Evaluation
evaluation r v limit cells room =
    record { written = write_into (answer_of r v limit room).result room; steps = (answer_of r v limit room).steps_begun; cells = replicate cells 0 }

-- The refusal's number that is told, 0 where there is none; and the length, 0 where there is no text.
abbrev pub told_number : Result ℕ Refusal → ℕ
told_number (Ok n) = 0
told_number (Err e) = number e

abbrev pub told_size : Result ℕ Refusal → ℕ
told_size (Ok n) = n
told_size (Err e) = 0

abbrev pub evaluated : Evaluated → Bytes → Bytes → Evaluation
evaluated r C O = record { written = record { refusal = told_number r.size; size = told_size r.size; output = O }; steps = r.steps; cells = C }

-- C and O are the cells and the output before, C' and O' after. By `Ready` there is such a rule and such a value.
pub record Evaluates (T A R B C : Bytes) (limit : ℕ) (O : Bytes) (r : Evaluated) (C' O' : Bytes) : Type 0 where
  pub is :
      (ρ : Rule) (κ : Value)
      → Holds T A max_nesting 0 ρ
      → Denotes R B κ (node_at R 0)
      → evaluated r C' O' ≡ evaluation ρ κ limit (length C) (length O)

-- The length of the text that the writer wrote; or 11, or 12.
abbrev pub written_size : Result ℕ WriteFault → Result ℕ Refusal
written_size (Ok n) = Ok n
written_size (Err f) = Err (refusal_of f)
