-- Ends: what is known of a run's end once its answer is taken apart.
use Rattle.std.specs.Prelude.{◌≡◌, refl, Ok, Err}
use Rattle.std.proofs.Common.{ap, ◌∙◌}
use Rattle.model.specs.Bytes.{Bytes}
use Rattle.model.specs.EvalPlain.{Plain, gives, denies, lift}
use Rattle.model.proofs.Laws.Logic.{clash}
use Rattle.model.specs.declared.refusal.EvalFault.TheVariants.{Operation}
use Rattle.model.specs.Result.{Result}
use Rattle.model.specs.Value.{Value}
use Rattle.heap.specs.Means.{Means}
use Rattle.heap.specs.Unfold.{Areas, areas}
use Rattle.op_result.specs.Contract as results
use Rattle.op_result.specs.Contract.{Answered, gives_value, gives_fault}
use Rattle.operations.specs.declared.ended.Denied.{Denied}
use Rattle.operations.specs.declared.ended.Given.{Given}
use Rattle.operations.specs.declared.ended.State.{State}
use Rattle.operations.specs.Ended.{given, denied, Ending, operated_end, EndsAs, ends_value, ends_fault}

-- The run gave a value.
pub record Got (a : Areas) (m : Plain Value) (g : Given) : Type 0 where
  pub value : Value
  pub is : m ≡ gives value g.state.left
  pub means : Means a g.state.top value g.value

pub got : {a : Areas} {m : Plain Value} {r : Ending} {g : Given} → EndsAs a m r → r ≡ Ok g → Got a m g
got {a} {m} {r} {g} (ends_value {v = v} {g = h} e f k) q =
    let p : h ≡ g = cc in
    record { value = v; is = e ∙ ap (λ (x : Given). gives v x.state.left) p; means = rw (← p) k }
got (ends_fault e f) q = clash cc

-- The run was refused.
pub failed : {a : Areas} {m : Plain Value} {r : Ending} {d : Denied} → EndsAs a m r → r ≡ Err d → m ≡ denies d.fault d.left
failed (ends_value e f k) q = clash cc
failed {d = d} (ends_fault {d = c} f g) q = let p : c ≡ d = cc in f ∙ ap (λ (x : Denied). denies x.fault x.left) p

-- What an operation gives ends the rule.
pub operated_ends : {A B R C : Bytes} {m : Result Value} {x : Answered} (s : State) (r : Ending) → results.Gives (areas A B R C) s.top m x → r ≡ operated_end x s → EndsAs (areas A B R C) (lift m s.left) r
operated_ends s r (gives_value {v = v} {h = h} e n) f = ends_value {v = v} {g = given h s} refl (rw e at f) n
operated_ends s r (gives_fault {e = e} n) f = ends_fault {d = denied (Operation e) s.left} refl (rw n at f)
