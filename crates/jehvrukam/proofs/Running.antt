-- Running: evaluation on a rule and a record that were read.
use mathlib.Core.Path.{◌≡◌, ap}
use Prim.Native.Nat.{ℕ, ◌*◌, ◌/◌, ◌≤◌}
use native.Mathlib.Omega.{arith}
use borrow.Author.Tests.{ltb-false}
use lib.Dec.{ltb}
use lib.ListN.{length, replicate}
use Rattle.model.specs.Bytes.{Bytes}
use Rattle.model.specs.Judgement.{Judged, judged_number, rule_in, answer_of}
use Rattle.model.specs.Limits.{max_steps, heap_cells}
use Rattle.model.specs.Rule.{Rule}
use Rattle.model.specs.Value.{Value}
use Rattle.syntax.specs.Output.{written_size, written_output}
use Rattle.heap.specs.Cells.{cell_bytes}
use Rattle.table.specs.Laws.Standing.{was_read_denotes}
use Rattle.eval.specs.declared.Evaluated.{Evaluated}
use Rattle.eval.specs.Evaluate.{Ready, Evaluation, evaluation, told_number, told_size, evaluated, Evaluates}
use Rattle.pipeline.specs.Areas.{text_areas, HoldsIndexed, HoldsMarked}
use Rattle.pipeline.specs.Laws.Stages.{TextHeld, held_rule}
use Rattle.pipeline.specs.Texts.{TextRead}
use Rattle.jehvrukam.specs.Inner.{Runs}
use Rattle.jehvrukam.proofs.Settling.{neither}

-- ---- limit and cells
module _ {limit : ℕ} {C : Bytes} (r : Runs limit C) where
  limit_fits : limit ≤ max_steps
  limit_fits = ltb-false max_steps limit (neither (ltb max_steps limit) _ r.runs).0

  cells_long : heap_cells ≤ length C / cell_bytes
  unfolding cell_bytes
  cells_long = let l = ltb-false (length C) (heap_cells * cell_bytes) (neither (ltb max_steps limit) _ r.runs).1 in omega (arith, l)

-- ---- the areas hold a rule and a record
pub record Texts (s : Bytes) (x : TextRead Rule) (v : Value) (T A R B : Bytes) : Type 0 where
  pub rule : TextHeld rule_in s x
  pub rule_held : HoldsMarked x.value (text_areas T A)
  pub record_held : HoldsIndexed v (text_areas R B)

module _ {s : Bytes} {x : TextRead Rule} {v : Value} {T A R B C : Bytes} {limit : ℕ} (t : Texts s x v T A R B) (r : Runs limit C) where
  pub ready : Ready T A R B C limit
  ready = record {
    rule = x.content;
    holds = held_rule t.rule t.rule_held.was_read;
    value = v;
    denotes = was_read_denotes t.record_held.was_read;
    limited = limit_fits r;
    enough = cells_long r;
  }

  -- What evaluation comes to, 11 and 12 included.
  module _ {O C' O' : Bytes} {e : Evaluated} (h : Evaluates T A R B C limit O e C' O') where
    abbrev result : Judged Bytes
    result = (answer_of x.content v limit (length O)).result

    is : evaluated e C' O' ≡ evaluation x.content v limit (length C) (length O)
    is = h.is x.content v (held_rule t.rule t.rule_held.was_read) (was_read_denotes t.record_held.was_read)

    pub refusal_is : told_number e.size ≡ judged_number result
    refusal_is = ap (λ (y : Evaluation). y.written.refusal) is

    pub steps_are : e.steps ≡ (answer_of x.content v limit (length O)).steps_begun
    steps_are = ap (λ (y : Evaluation). y.steps) is

    pub size_is : told_size e.size ≡ written_size result
    size_is = ap (λ (y : Evaluation). y.written.size) is

    pub output_is : O' ≡ written_output result (length O)
    output_is = ap (λ (y : Evaluation). y.written.output) is

    pub cells_are : C' ≡ replicate (length C) 0
    cells_are = ap (λ (y : Evaluation). y.cells) is
