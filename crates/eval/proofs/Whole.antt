-- Whole: a whole evaluation, and its answer written.
use Rattle.std.specs.Prelude.{Result, Ok, Err}
use mathlib.Core.Path.{◌≡◌, refl, sym, ap, ◌∙◌}
use Prim.Native.Nat.{ℕ, ◌+◌, ◌*◌, ◌-◌, ◌≤◌}
use native.Mathlib.Omega.{arith}
use lib.ListN.{length}
use Rattle.area.specs.Laws.{zero_from_all}
use Rattle.area.specs.Words.{zero_from}
use Rattle.model.specs.Bytes.{Bytes}
use Rattle.model.specs.Eval.{run}
use Rattle.model.specs.EvalPlain.{gives, denies, eval_plain, plain_outcome, left}
use Rattle.model.proofs.Laws.Logic.{clash}
use Rattle.model.proofs.Laws.Plain.{plain_agrees}
use Rattle.model.proofs.Laws.Widths.{steps_have_cells}
use Rattle.model.specs.Limits.{max_nesting, max_steps, heap_cells}
use Rattle.model.specs.declared.refusal.EvalFault.{EvalFault}
use Rattle.model.specs.declared.refusal.Refusal.TheVariants.{Evaluating}
use Rattle.model.specs.Rule.{Rule}
use Rattle.model.specs.Run.{steps}
use Rattle.model.specs.Value.{Value}
use Rattle.syntax.specs.Output.{WriteAnswer, write_into, value_written}
use Rattle.heap.specs.declared.handle.Handle.{Handle}
use Rattle.heap.specs.Handles.{row_handle}
use Rattle.heap.proofs.Main as heap
use Rattle.heap.specs.Unfold.{areas}
use Rattle.rule.specs.Holds.{Holds}
use Rattle.table.specs.Denotes.{Denotes}
use Rattle.table.specs.Node.{node_at}
use Rattle.operations.specs.declared.ended.Denied.{Denied}
use Rattle.operations.specs.declared.ended.Given.{Given}
use Rattle.operations.specs.declared.ended.State.{State}
use Rattle.operations.specs.Ended.{Ending, EndsAs, state}
use Rattle.operations.specs.Laws.Ends.{got, failed}
use Rattle.writer.specs.declared.WriteFault.{WriteFault}
use Rattle.writer.specs.Contract.{answered, handle_written}
use Rattle.eval.specs.declared.Outcome.{Outcome}
use Rattle.eval.specs.declared.task.Frame.TheVariants.{Branch}
use Rattle.eval.specs.declared.task.Next.TheVariants.{Asks}
use Rattle.eval.specs.declared.task.Task.{Task}
use Rattle.eval.specs.Contract.{Reached, reached_value, reached_refusal, Reaches}
use Rattle.eval.specs.Evaluate.{Ready, Evaluation, evaluation, told_number, told_size, evaluated, Evaluates, written_size}
use Rattle.eval.specs.Inner.{Charged, Operating, Operates, task}
use Rattle.eval.proofs.Taken.{continue_gives}

-- ---- the run
-- The whole rule on the whole record.
abbrev pub whole : Bytes → ℕ → Task
whole R limit = task 0 (row_handle R 0) (state limit 0 heap_cells max_nesting)

pub whole_task : (R : Bytes) (limit : ℕ) {h : Handle} → h ≡ row_handle R 0 → task 0 h (state limit 0 heap_cells max_nesting) ≡ whole R limit
whole_task R limit e = ap (λ (h : Handle). task 0 h (state limit 0 heap_cells max_nesting)) e

-- The rule is the operand of a rule around it, which has begun with one step and one nesting more, and whose value is its own.
abbrev around : ℕ → State
around limit = state (limit + 1) 0 heap_cells (max_nesting + 1)

charged_around : (R : Bytes) (limit : ℕ) (t : Task) → t ≡ whole R limit → Charged (around limit) 0 t.state Branch
charged_around R limit t e = rw e (record { grows = omega arith; spends = omega arith; stack = omega arith; deep = omega arith })

pub whole_operating : {T A R B C : Bytes} {limit : ℕ} (t : Task) → Ready T A R B C limit → t ≡ whole R limit → Operating C (Asks t Branch)
whole_operating {R = R} {limit = limit} t r e = record {
  base = around limit;
  room = record { fits = omega (arith, r.limited, steps_have_cells); within = omega arith; enough = r.enough };
  within = charged_around R limit t e;
}

top_fits : (top left limit : ℕ) → limit ≤ max_steps → top + 2 * left + 2 ≤ 0 + 2 * (limit + 1) → top ≤ heap_cells
top_fits top left limit l b = omega (arith, steps_have_cells)

-- The steps that are left tell those begun.
begun_of : (ρ : Rule) (κ : Value) (limit l : ℕ) → left (eval_plain ρ κ limit) ≡ l → (steps (run ρ κ limit) ≡ limit - l) × (l ≤ limit)
begun_of ρ κ limit l e = (omega (arith, (plain_agrees ρ κ limit).1, e), omega (arith, (plain_agrees ρ κ limit).1, e))

module _ {T A R B C : Bytes} {limit : ℕ} {e : Ending} {C₁ : Bytes} (t : Task) (is-task : t ≡ whole R limit) (ready : Ready T A R B C limit) (d : Operates T A R B C (Asks t Branch) e C₁) where
  charged : Charged (around limit) 0 t.state Branch
  charged = charged_around R limit t is-task

  ends_as : (ρ : Rule) (κ : Value) → Holds T A max_nesting 0 ρ → Denotes R B κ (node_at R 0) → EndsAs (areas A B R C₁) (eval_plain ρ κ limit) e
  ends_as ρ κ x m = d.ends (eval_plain ρ κ limit) (rw is-task (record {
    asked = ρ;
    given = κ;
    next = λ v n. gives v n;
    holds = x;
    means = heap.node_means (areas A B R C) 0 κ _ m;
    frame = record { run = λ v n. refl };
    run = continue_gives (eval_plain ρ κ limit);
  }))

  refused_at : (ρ : Rule) (κ : Value) → Holds T A max_nesting 0 ρ → Denotes R B κ (node_at R 0) → (f : Denied) → e ≡ Err f → eval_plain ρ κ limit ≡ denies f.fault f.left
  refused_at ρ κ x m f q = failed (ends_as ρ κ x m) q

  pub left_less : (f : Denied) → e ≡ Err f → f.left ≤ limit
  left_less f q = (begun_of ready.rule ready.value limit f.left (ap left (refused_at ready.rule ready.value ready.holds ready.denotes f q))).1

  pub left_over : (g : Given) → e ≡ Ok g → g.state.left ≤ limit
  left_over g q = omega (arith, (d.bound (around limit) charged).spends g q)

  -- Refused.
  pub whole_stops : (f : Denied) → e ≡ Err f → Reaches T A R B C limit (record { steps = limit - f.left; value = Err f.fault }) C₁
  whole_stops f q = record {
    size = (d.same (around limit) charged).size;
    reaches = λ ρ κ x m.
        let p = refused_at ρ κ x m f q in
        let s : steps (run ρ κ limit) ≡ limit - f.left = (begun_of ρ κ limit f.left (ap left p)).0 in
        reached_refusal {e = f.fault} ((plain_agrees ρ κ limit).0 ∙ ap plain_outcome p) (rw s);
  }

  -- With a value.
  pub whole_gives : (g : Given) → e ≡ Ok g → Reaches T A R B C limit (record { steps = limit - g.state.left; value = Ok g.value }) C₁
  whole_gives g q = record {
    size = (d.same (around limit) charged).size;
    reaches = λ ρ κ x m.
        let y = got (ends_as ρ κ x m) q in
        let s : steps (run ρ κ limit) ≡ limit - g.state.left = (begun_of ρ κ limit g.state.left (ap left y.is)).0 in
        reached_value {v = y.value} {h = g.value} {top = g.state.top} ((plain_agrees ρ κ limit).0 ∙ ap plain_outcome y.is) (rw s) y.means (top_fits g.state.top g.state.left limit ready.limited ((d.bound (around limit) charged).spends g q));
  }

-- ---- its answer
abbrev Found : Type 0
Found = Result Handle EvalFault

abbrev found : Handle → Found
found h = Ok h

abbrev unfound : EvalFault → Found
unfound e = Err e

same_handle : {g h : Handle} → found g ≡ found h → g ≡ h
same_handle e = cc

same_fault : {e f : EvalFault} → unfound e ≡ unfound f → e ≡ f
same_fault e = cc

-- What is told of the writer's answer.
abbrev told : Result ℕ WriteFault → Bytes → WriteAnswer
told w O = record { refusal = told_number (written_size w); size = told_size (written_size w); output = O }

abbrev evaluation_of : WriteAnswer → ℕ → Bytes → Evaluation
evaluation_of w n C = record { written = w; steps = n; cells = C }

told_written : (w : Result ℕ WriteFault) (O : Bytes) → told w O ≡ answered w O
told_written (Ok n) O = refl
told_written (Err f) O = refl

module _ {T A R B C : Bytes} {limit : ℕ} {r : Outcome} {C₁ : Bytes} (d : Reaches T A R B C limit r C₁) where
  pub answer_refused : (f : EvalFault) (O : Bytes) {O' C' : Bytes} → r.value ≡ Err f → C' ≡ zero_from 0 C₁ → O' ≡ zero_from 0 O → Evaluates T A R B C limit O (record { steps = r.steps; size = Err (Evaluating f) }) C' O'
  answer_refused f O {O'} {C'} q c o = record { is = λ ρ κ x m. go ρ κ (d.reaches ρ κ x m) }
    where
      go : (ρ : Rule) (κ : Value) → Reached (areas A B R C₁) (run ρ κ limit) r → evaluated (record { steps = r.steps; size = Err (Evaluating f) }) C' O' ≡ evaluation ρ κ limit (length C) (length O)
      go ρ κ (reached_value g k m l) = let p = sym q ∙ ap (λ (x : Outcome). x.value) k in clash cc
      go ρ κ (reached_refusal {e = e} g k) =
          let x : e ≡ f = same_fault (sym (ap (λ (x : Outcome). x.value) k) ∙ q) in
          let y : steps (run ρ κ limit) ≡ r.steps = sym (ap (λ (x : Outcome). x.steps) k) in
          rw (g, y, c, o, ← x, zero_from_all C₁, zero_from_all O, d.size)

  pub answer_written : (h : Handle) (O : Bytes) {O' C' : Bytes} (w : Result ℕ WriteFault) → r.value ≡ Ok h → C' ≡ zero_from 0 C₁ → answered w O' ≡ handle_written (areas A B R C₁) h (length O)
      → Evaluates T A R B C limit O (record { steps = r.steps; size = written_size w }) C' O'
  answer_written h O {O'} {C'} w q c o = record { is = λ ρ κ x m. go ρ κ (d.reaches ρ κ x m) }
    where
      go : (ρ : Rule) (κ : Value) → Reached (areas A B R C₁) (run ρ κ limit) r → evaluated (record { steps = r.steps; size = written_size w }) C' O' ≡ evaluation ρ κ limit (length C) (length O)
      go ρ κ (reached_refusal f g) = let p = sym q ∙ ap (λ (x : Outcome). x.value) g in clash cc
      go ρ κ (reached_value {v = v} {h = h₁} {top = top} f g m l) =
          let x : h₁ ≡ h = same_handle (sym (ap (λ (x : Outcome). x.value) g) ∙ q) in
          let y : steps (run ρ κ limit) ≡ r.steps = sym (ap (λ (x : Outcome). x.steps) g) in
          let z : answered w O' ≡ value_written v (length O) = o ∙ ap (λ j. write_into j (length O)) (heap.written (areas A B R C₁) top v h (length O) (rw (← x) m)) in
          ap (λ (x : WriteAnswer). evaluation_of x r.steps C') (told_written w O' ∙ z) ∙ rw (f, y, c, zero_from_all C₁, d.size)
