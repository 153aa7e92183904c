-- Frames: what a frame means is kept while its operand is evaluated.
use mathlib.Core.Path.{◌≡◌}
use Prim.Native.Nat.{◌+◌, ◌≤◌}
use native.Mathlib.Omega.{arith}
use Rattle.model.specs.Bytes.{Bytes}
use Rattle.model.specs.Rule.{Rules}
use Rattle.model.specs.Value.{Value}
use Rattle.operations.specs.Cells.{Same}
use Rattle.operations.specs.Laws.Cells.{means_kept, each_kept}
use Rattle.operations.specs.Laws.Stack.{stacked_same}
use Rattle.eval.specs.declared.task.Frame.{Frame}
use Rattle.eval.specs.declared.task.Frame.TheVariants.{Guard, Branch, Conjunct, Source, Item, Argument}
use Rattle.eval.specs.declared.task.Task.{Task}
use Rattle.eval.specs.Inner.{After, Then, FrameMeans}

-- The task is the same, but for its state, after a run that it began.
pub record Moved (C C' : Bytes) (t t' : Task) : Type 0 where
  pub row : t'.row ≡ t.row
  pub context : t'.context ≡ t.context
  pub same : Same C C' t.state.top t.state.bottom
  pub grows : t.state.top ≤ t'.state.top
  pub bottom : t'.state.bottom ≡ t.state.bottom
  pub deep : t'.state.deep ≡ t.state.deep

module _ {C C' : Bytes} {t t' : Task} (i : Moved C C' t t') where
  after_kept : {T A R B : Bytes} {rs : Rules} {κ : Value} → After T A R B C t rs κ → After T A R B C' t' rs κ
  after_kept a = record { rows = rw (i.deep, i.row) a.rows; means = rw i.context (means_kept i.same i.grows a.means) }

  pub frame_kept : (T A R B : Bytes) (f : Frame) (K : Then) → FrameMeans T A R B C t f K → FrameMeans T A R B C' t' f K
  frame_kept T A R B Guard K m = record { second = m.second; third = m.third; given = m.given; after = after_kept m.after; run = m.run }
  frame_kept T A R B Branch K m = m
  frame_kept T A R B (Conjunct n) K m = record { others = m.others; given = m.given; after = after_kept m.after; counted = m.counted; run = m.run }
  frame_kept T A R B Source K m = record { lambda = m.lambda; initial = m.initial; given = m.given; after = after_kept m.after; run = m.run }
  frame_kept T A R B (Item row h) K m = record {
    lambda = m.lambda;
    value = m.value;
    holds = rw i.deep m.holds;
    means = means_kept i.same i.grows m.means;
    run = m.run;
  }
  frame_kept T A R B (Argument p) K m = record {
    operation = m.operation;
    others = m.others;
    values = m.values;
    given = m.given;
    stands = m.stands;
    counted = m.counted;
    after = after_kept m.after;
    means = rw (i.bottom, ← stacked_same C C' (t.state.bottom + p.done) t.state.bottom 0 p.done i.same.above (omega arith)) (each_kept i.same i.grows m.means);
    run = m.run;
  }
