-- Ended: how an evaluation ends, in the terms of the model.
use Rattle.std.specs.Prelude.{◌≡◌, ℕ, Result, Ok, Err}
use Rattle.model.specs.EvalPlain.{Plain, gives, denies}
use Rattle.model.specs.declared.refusal.EvalFault.{EvalFault}
use Rattle.model.specs.declared.refusal.EvalFault.TheVariants.{Operation}
use Rattle.model.specs.Value.{Value}
use Rattle.heap.specs.declared.handle.Handle.{Handle}
use Rattle.heap.specs.Means.{Means}
use Rattle.heap.specs.Unfold.{Areas}
use Rattle.op_result.specs.Contract.{Answered}
use Rattle.operations.specs.declared.ended.Denied.{Denied}
use Rattle.operations.specs.declared.ended.Given.{Given}
use Rattle.operations.specs.declared.ended.State.{State}

abbrev pub state : ℕ → ℕ → ℕ → ℕ → State
state left top bottom deep = record { left = left; top = top; bottom = bottom; deep = deep }

abbrev pub given : Handle → State → Given
given h s = record { value = h; state = s }

abbrev pub denied : EvalFault → ℕ → Denied
denied e l = record { fault = e; left = l }

-- How a run ends, as the code's alias `Ended`.
abbrev pub Ending : Type 0
Ending = Result Given Denied

-- What an operation gave, in a state that it leaves as it is.
abbrev pub operated_end : Answered → State → Ending
operated_end (Ok h) s = Ok (given h s)
operated_end (Err e) s = Err (denied (Operation e) s.left)

-- The run ends as the model says: with a value that the handle means, or with the same refusal; and with the same steps left.
pub data EndsAs (a : Areas) (m : Plain Value) (r : Ending) : Type 0 where
  ends_value : {v : Value} {g : Given} → m ≡ gives v g.state.left → r ≡ Ok g → Means a g.state.top v g.value → EndsAs a m r
  ends_fault : {d : Denied} → m ≡ denies d.fault d.left → r ≡ Err d → EndsAs a m r
