-- Bounds: how a rule ends within its cells.
use Rattle.std.specs.Prelude.{Ok, Err}
use mathlib.Core.Path.{◌≡◌, refl, sym, ap}
use Prim.Native.Nat.{ℕ, ◌+◌, ◌*◌, ◌≤◌, ◌<◌}
use native.Mathlib.Omega.{arith}
use Rattle.model.specs.Bytes.{Bytes}
use Rattle.model.specs.EvalPlain.{Plain}
use Rattle.model.proofs.Laws.Logic.{clash}
use Rattle.model.specs.Value.{Value}
use Rattle.heap.specs.Unfold.{Areas}
use Rattle.operations.specs.declared.ended.Denied.{Denied}
use Rattle.operations.specs.declared.ended.Given.{Given}
use Rattle.operations.specs.declared.ended.State.{State}
use Rattle.operations.specs.Cells.{Same}
use Rattle.operations.specs.Ended.{given, Ending, state, EndsAs, ends_value, ends_fault}
use Rattle.operations.specs.Laws.Ends.{got, failed}
use Rattle.eval.specs.declared.task.Next.{Next}
use Rattle.eval.specs.declared.task.Next.TheVariants.{Ends, Asks}
use Rattle.eval.specs.Inner.{Bounded, Within, Restored, resumed_end, next_deep}

pub gives_at : (s : State) (g : Given) → s.top ≤ g.state.top → g.state.top + 2 * g.state.left + 2 ≤ s.top + 2 * s.left → Bounded s (Ok g)
gives_at s g a b = record {
  grows = λ h e. let q : g ≡ h = cc in rw (← q) a;
  spends = λ h e. let q : g ≡ h = cc in rw (← q) b;
  stops = λ d e. clash cc;
}

pub stops_at : (s : State) (d : Denied) → d.left ≤ s.left → Bounded s (Err d)
stops_at s d b = record {
  grows = λ g e. clash cc;
  spends = λ g e. clash cc;
  stops = λ c e. let q : d ≡ c = cc in rw (← q) b;
}

-- The nesting of what is next is below the rule's.
pub within_deep : (s : State) (n : Next) → Within s n → next_deep n < 2 * s.deep + 1
within_deep s (Ends e) w = omega arith
within_deep s (Asks t f) w = omega (arith, w.deep)

-- What changes only some cells changes only more.
pub same_wider : {C C' : Bytes} {top bottom : ℕ} (top' bottom' : ℕ) → Same C C' top bottom → top' ≤ top → bottom ≤ bottom' → Same C C' top' bottom'
same_wider top' bottom' s a b = record { below = λ j l. s.below j (omega arith); above = λ j l. s.above j (omega arith); size = s.size }

-- ---- the state as it was
pub resumed_bound : (s : State) (e : Ending) → Bounded s e → Bounded s (resumed_end s e)
resumed_bound s (Ok g) b = gives_at s _ (b.grows g refl) (b.spends g refl)
resumed_bound s (Err d) b = b

pub resumed_state : (s : State) (e : Ending) → Restored s (resumed_end s e)
resumed_state s (Ok g) = record {
  bottom = λ h e. let q : given g.value (state g.state.left g.state.top s.bottom s.deep) ≡ h = cc in sym (ap (λ (x : Given). x.state.bottom) q);
  deep = λ h e. let q : given g.value (state g.state.left g.state.top s.bottom s.deep) ≡ h = cc in sym (ap (λ (x : Given). x.state.deep) q);
}
resumed_state s (Err d) = record { bottom = λ g e. clash cc; deep = λ g e. clash cc }

pub resumed_ends : {a : Areas} {m : Plain Value} (s : State) (e : Ending) → EndsAs a m e → EndsAs a m (resumed_end s e)
resumed_ends s (Ok g) x = let y = got x refl in ends_value {v = y.value} {g = given g.value (state g.state.left g.state.top s.bottom s.deep)} y.is refl y.means
resumed_ends s (Err d) x = ends_fault {d = d} (failed x refl) refl
