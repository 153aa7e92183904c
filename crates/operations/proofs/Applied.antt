-- Applied: what an operation gives ends the rule; so does an array's list.
use Rattle.std.specs.Prelude.{Ok, Err}
use mathlib.Core.Path.{◌≡◌, refl, sym, ap}
use Prim.Native.Nat.{ℕ, ◌+◌, ◌≤◌}
use native.Mathlib.Omega.{arith}
use lib.ListN.{length}
use Rattle.model.specs.Bytes.{Bytes}
use Rattle.model.specs.declared.refusal.EvalFault.{EvalFault}
use Rattle.model.specs.declared.refusal.EvalFault.TheVariants.{Operation as Operated}
use Rattle.model.specs.EvalPlain.{lift}
use Rattle.model.proofs.Laws.Logic.{clash}
use Rattle.model.specs.Operations.{operate}
use Rattle.model.specs.Rule.{Operation}
use Rattle.model.specs.Value.{array, Values}
use Rattle.heap.specs.Blocks.{stored_from, MeansEach}
use Rattle.heap.proofs.Main as heap
use Rattle.heap.specs.Unfold.{areas}
use Rattle.keywords.specs.declared.Op.{Op}
use Rattle.keywords.specs.declared.Op.TheVariants as Ops
use Rattle.keywords.specs.Contract.{Stands, stands_array}
use Rattle.op_result.specs.Contract.{Answered}
use Rattle.operations.specs.declared.ended.Denied.{Denied}
use Rattle.operations.specs.declared.ended.Given.{Given}
use Rattle.operations.specs.declared.ended.State.{State}
use Rattle.operations.specs.Contract.{StackRoom, AppliesIn, Applies}
use Rattle.operations.specs.Ended.{given, denied, Ending, operated_end, EndsAs, ends_value}
use Rattle.operations.specs.Inner.{listed}
use Rattle.operations.specs.Laws.Cells.{same_all, same_block}
use Rattle.operations.specs.Laws.Ends.{operated_ends}
use Rattle.operations.specs.Laws.Stack.{stacked_length}
use Rattle.operations.specs.Stack.{stacked}
use Rattle.operations.proofs.Operations.{Operates}

-- ---- the state after
gives_in : (count : ℕ) (s : State) (g : Given) → g.state.left ≡ s.left → s.top ≤ g.state.top → g.state.top ≤ s.top + count → g.state.bottom ≡ s.bottom → g.state.deep ≡ s.deep → AppliesIn count s (Ok g)
gives_in count s g a b c d e = record {
  steps = λ h f. let q : g ≡ h = cc in rw (← q) a;
  grows = λ h f. let q : g ≡ h = cc in rw (← q) b;
  spends = λ h f. let q : g ≡ h = cc in rw (← q) c;
  bottom = λ h f. let q : g ≡ h = cc in rw (← q) d;
  deep = λ h f. let q : g ≡ h = cc in rw (← q) e;
  stops = λ h f. clash cc;
}

stops_in : (count : ℕ) (s : State) (e : EvalFault) → AppliesIn count s (Err (denied e s.left))
stops_in count s e = record {
  steps = λ g f. clash cc;
  grows = λ g f. clash cc;
  spends = λ g f. clash cc;
  bottom = λ g f. clash cc;
  deep = λ g f. clash cc;
  stops = λ d f. let q : denied e s.left ≡ d = cc in ap (λ (x : Denied). x.left) (sym q);
}

operated_in : (count : ℕ) (s : State) (x : Answered) → AppliesIn count s (operated_end x s)
operated_in count s (Ok h) = gives_in count s (given h s) refl (omega arith) (omega arith) refl refl
operated_in count s (Err e) = stops_in count s (Operated e)

-- ---- an operation
module _ {A B R C : Bytes} {op : Op} {count : ℕ} {s : State} {r : Ending} where
  pub applied : (x : Answered) → Operates A B R C op s.bottom count x → r ≡ operated_end x s → Applies A B R C op count s r C
  applied x f e = record {
    same = same_all C s.top s.bottom;
    within = rw e (operated_in count s x);
    gives = λ o vs k m. operated_ends s r (f.gives s.top o vs k m) e;
  }

-- ---- an array
module _ {A B R C : Bytes} {count : ℕ} {s : State} {r : Ending} where
  pub of_array : {C' : Bytes} → StackRoom C count s → r ≡ listed count s → C' ≡ stored_from C s.top (stacked C s.bottom count) → Applies A B R C Ops.Array count s r C'
  of_array {C'} room e puts = record {
    same = rw puts (same_block C s.top (stacked C s.bottom count) (omega (arith, size, room.fits)));
    within = rw e (gives_in count s _ refl (omega arith) (omega arith) refl refl);
    gives = λ o vs k m. go vs k m;
  }
    where
      size : length (stacked C s.bottom count) ≡ count
      size = stacked_length C s.bottom 0 count

      go : {o : Operation} (vs : Values) → Stands Ops.Array o count → MeansEach (areas A B R C) s.top vs (stacked C s.bottom count) → EndsAs (areas A B R C') (lift (operate o vs) s.left) r
      go vs stands_array m =
          let made = heap.list_made (areas A B R C) s.top vs (stacked C s.bottom count) m (omega (arith, size, room.fits, room.within, room.enough)) (omega (arith, room.fits, room.within)) in
          ends_value {v = array vs} refl e (rw puts (rw size at made))
