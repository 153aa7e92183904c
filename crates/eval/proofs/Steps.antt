-- Steps: an operand's evaluation ended, and what the operation does with that.
use Rattle.std.specs.Prelude.{Ok, Err}
use mathlib.Core.Path.{◌≡◌, refl, ap, ◌∙◌}
use Prim.Native.Nat.{ℕ, ◌+◌, ◌*◌, ◌≤◌, ◌<◌}
use native.Mathlib.Omega.{arith}
use Rattle.model.specs.Bytes.{Bytes}
use Rattle.model.specs.EvalPlain.{Plain, continue, eval_plain}
use Rattle.model.specs.Limits.{heap_cells}
use Rattle.model.specs.Value.{Value}
use Rattle.heap.specs.declared.handle.Handle.{Handle}
use Rattle.heap.specs.Unfold.{areas}
use Rattle.operations.specs.declared.ended.Denied.{Denied}
use Rattle.operations.specs.declared.ended.Given.{Given}
use Rattle.operations.specs.declared.ended.State.{State}
use Rattle.operations.specs.Cells.{Same}
use Rattle.operations.specs.Ended.{Ending, EndsAs, ends_value, ends_fault}
use Rattle.operations.specs.Laws.Cells.{same_all, same_then}
use Rattle.operations.specs.Laws.Ends.{got, failed}
use Rattle.eval.specs.declared.task.Frame.{Frame}
use Rattle.eval.specs.declared.task.Frame.TheVariants.{Guard, Branch, Conjunct, Source, Item, Argument}
use Rattle.eval.specs.declared.task.Next.{Next}
use Rattle.eval.specs.declared.task.Next.TheVariants.{Ends, Asks}
use Rattle.eval.specs.declared.task.Pending.{Pending}
use Rattle.eval.specs.declared.task.Task.{Task}
use Rattle.eval.specs.Inner.{Room, on_stack, unused, Charged, Within, resumed_end, Then, FrameMeans, Asked, Follows, next_left, next_deep, Evals, Starts, Takes, Taking, TakesEnd, Operating, Operates, task}
use Rattle.eval.proofs.Bounds.{gives_at, stops_at, within_deep, same_wider, resumed_bound, resumed_state, resumed_ends}
use Rattle.eval.proofs.Frames.{Moved, frame_kept}

-- ---- the operand gave a value
module _ {C : Bytes} {t : Task} {f : Frame} {e : Ending} (g : Given) (is-value : e ≡ Ok g) (r : Taking C t f e) where
  spends_on : g.state.top + 2 * g.state.left + 2 ≤ t.state.top + 2 * t.state.left
  spends_on = r.bound.spends g is-value

  grows_on : t.state.top ≤ g.state.top
  grows_on = r.bound.grows g is-value

  fits : g.state.top + 2 * g.state.left + (2 + unused f) ≤ g.state.bottom + on_stack f
  fits = omega (arith, spends_on, r.charged.spends, r.charged.stack, r.restored.bottom g is-value, r.room.fits)

  within : g.state.bottom + on_stack f ≤ heap_cells
  within = omega (arith, r.charged.stack, r.restored.bottom g is-value, r.room.within)

  moved : (t' : Task) → t' ≡ task t.row t.context g.state → Moved C C t t'
  moved t' q = rw q (record {
    row = refl;
    context = refl;
    same = same_all C _ _;
    grows = grows_on;
    bottom = r.restored.bottom g is-value;
    deep = r.restored.deep g is-value;
  })

  charged_on : (s : State) → Charged s 0 t.state f → Charged s 2 g.state f
  charged_on s c = record {
    grows = omega (arith, c.grows, grows_on);
    spends = omega (arith, c.spends, spends_on);
    stack = rw (r.restored.bottom g is-value) c.stack;
    deep = rw (r.restored.deep g is-value) c.deep;
  }

  pub taken : {T A R B C' : Bytes} {n : Next} (t' : Task) → t' ≡ task t.row t.context g.state → Takes T A R B C t' f g.value n C' → TakesEnd T A R B C t f e n C'
  taken {T} {A} {R} {B} {C'} {n} t' is-task d = go (rw is-task at d)
    where
      go : Takes T A R B C (task t.row t.context g.state) f g.value n C' → TakesEnd T A R B C t f e n C'
      go x = record {
        same = same_wider t.state.top (t.state.bottom + on_stack f) x.same grows_on (omega (arith, r.restored.bottom g is-value));
        steps = omega (arith, x.steps, spends_on, grows_on);
        within = λ s c. x.within s (charged_on s c);
        follows = λ K m k q. let y = got q is-value in rw y.is (x.follows K y.value (frame_kept (moved (task t.row t.context g.state) refl) T A R B f K k) y.means);
      }

  -- Its value is the rule's.
  pub branch_ends : {T A R B : Bytes} → f ≡ Branch → TakesEnd T A R B C t f e (Ends (Ok g)) C
  branch_ends {T} {A} {R} {B} q = record {
    same = same_all C _ _;
    steps = omega arith;
    within = λ s c. gives_at s g (omega (arith, c.grows, grows_on)) (omega (arith, c.spends, spends_on));
    follows = λ K m k x. go K m (rw q at k) x;
  }
    where
      go : (K : Then) (m : Plain Value) → FrameMeans T A R B C t Branch K → EndsAs (areas A B R C) m e → EndsAs (areas A B R C) (continue m K) (Ok g)
      go K m k x = let y = got x is-value in ends_value {v = y.value} {g = g} (ap (λ (p : Plain Value). continue p K) y.is ∙ k.run y.value g.state.left) refl y.means

  pub item_room : (l : ℕ) (i : Handle) (t' : Task) → f ≡ Item l i → t' ≡ task t.row t.context g.state → Room C 2 0 t'.state
  item_room l i t' q is-task = rw is-task (record { fits = omega (arith, rw q at fits); within = omega (arith, rw q at within); enough = r.room.enough })

  pub argument_room : (p : Pending) (t' : Task) → f ≡ Argument p → t' ≡ task t.row t.context g.state → Room C (4 + p.done) p.done t'.state
  argument_room p t' q is-task = rw is-task (record { fits = omega (arith, rw q at fits); within = omega (arith, rw q at within); enough = r.room.enough })

-- ---- it was refused
pub take_stops : {T A R B C : Bytes} {t : Task} {f : Frame} (e : Ending) (d : Denied) → e ≡ Err d → Taking C t f e → TakesEnd T A R B C t f e (Ends e) C
take_stops {T} {A} {R} {B} {C} {t} {f} e d q r = record {
  same = same_all C _ _;
  steps = omega arith;
  within = λ s c. rw q (stops_at s d (omega (arith, c.grows, c.spends, r.bound.stops d q)));
  follows = λ K m k x. ends_fault {d = d} (rw (failed x q)) q;
}

-- ---- the whole rule
module _ {T A R B C : Bytes} {t : Task} {n : Next} (d : Starts T A R B C t n) where
  -- It ends at once,
  pub ended : {r : Ending} (e : Ending) → n ≡ Ends e → r ≡ resumed_end t.state e → Evals T A R B C t r C
  ended e is-end q = rw q (record {
    same = same_all C _ _;
    bound = resumed_bound t.state e (rw is-end at d.within);
    restores = resumed_state t.state e;
    evals = λ ρ κ k m. resumed_ends t.state e (rw is-end at (d.follows ρ κ k m));
  })

  -- or after its operands.
  module _ (u : Task) (f : Frame) (asks : n ≡ Asks u f) where
    charged_first : Charged t.state 0 u.state f
    charged_first = rw asks at d.within

    pub begun_operating : Room C 0 0 t.state → Operating C (Asks u f)
    begun_operating r = record { base = t.state; room = r; within = charged_first }

    pub first_falls : next_deep (Asks u f) < 2 * t.state.deep + 1
    first_falls = within_deep t.state (Asks u f) charged_first

    pub evaluated : {C₁ : Bytes} {e r : Ending} → Operates T A R B C (Asks u f) e C₁ → r ≡ resumed_end t.state e → Evals T A R B C t r C₁
    evaluated {C₁} {e} o q = rw q (record {
      same = o.same t.state charged_first;
      bound = resumed_bound t.state e (o.bound t.state charged_first);
      restores = resumed_state t.state e;
      evals = λ ρ κ k m. resumed_ends t.state e (o.ends _ (rw asks at (d.follows ρ κ k m)));
    })

-- ---- the loop: operand after operand
pub record OperandsInv (T A R B C₀ : Bytes) (n₀ : Next) (C : Bytes) (n : Next) : Type 0 where
  pub operating : Operating C n
  pub same : (s : State) → Within s n₀ → Same C₀ C s.top s.bottom
  pub within : (s : State) → Within s n₀ → Within s n
  pub deep : next_deep n ≤ next_deep n₀
  pub follows : (m : Plain Value) → Follows T A R B C₀ m n₀ → Follows T A R B C m n

-- Whatever next is by another name.
pub inv_as : {T A R B C₀ : Bytes} {n₀ : Next} {C : Bytes} {n : Next} (n' : Next) → n ≡ n' → OperandsInv T A R B C₀ n₀ C n → OperandsInv T A R B C₀ n₀ C n'
inv_as n' q i = rw q at i

pub inv_begins : {T A R B C : Bytes} {n : Next} → Operating C n → OperandsInv T A R B C n C n
inv_begins {C = C} o = record { operating = o; same = λ s w. same_all C _ _; within = λ s w. w; deep = omega arith; follows = λ m x. x }

module _ {T A R B C₀ : Bytes} {n₀ : Next} {C : Bytes} {n : Next} (i : OperandsInv T A R B C₀ n₀ C n) where
  pub inv_ends : (e : Ending) → n ≡ Ends e → Operates T A R B C₀ n₀ e C
  inv_ends e q = record { same = i.same; bound = λ s w. rw q at (i.within s w); ends = λ m x. rw q at (i.follows m x) }

  module _ (t : Task) (f : Frame) (q : n ≡ Asks t f) where
    charged : Charged i.operating.base 0 t.state f
    charged = rw q at i.operating.within

    asked_deep : next_deep (Asks t f) ≤ next_deep n₀
    asked_deep = rw q at i.deep

    pub asked_room : Room C 0 0 t.state
    asked_room = record {
      fits = omega (arith, charged.spends, charged.stack, i.operating.room.fits, spare f);
      within = omega (arith, charged.stack, i.operating.room.within);
      enough = i.operating.room.enough;
    }
      where
        spare : (g : Frame) → on_stack g ≤ unused g
        spare Guard = omega arith
        spare Branch = omega arith
        spare (Conjunct k) = omega arith
        spare Source = omega arith
        spare (Item l h) = omega arith
        spare (Argument p) = omega arith

    pub asked_falls : 2 * t.state.deep + 1 < next_deep n₀
    asked_falls = omega (arith, asked_deep)

    module _ {e : Ending} {C₁ : Bytes} (d : Evals T A R B C t e C₁) where
      room_after : Room C₁ 0 0 i.operating.base
      room_after = record { fits = i.operating.room.fits; within = i.operating.room.within; enough = rw d.same.size i.operating.room.enough }

      pub asked_taking : Taking C₁ t f e
      asked_taking = record { base = i.operating.base; room = room_after; charged = charged; bound = d.bound; restored = d.restores }

      module _ {n' : Next} {C₂ : Bytes} (x : TakesEnd T A R B C₁ t f e n' C₂) where
        pub fewer_left : next_left n' < next_left n
        fewer_left = rw q (omega (arith, x.steps))

        after_deep : (n'' : Next) → Within i.operating.base n'' → next_deep n'' ≤ next_deep (Asks t f)
        after_deep (Ends z) w = omega arith
        after_deep (Asks z g) w = omega (arith, w.deep, charged.deep)

        pub inv_next : OperandsInv T A R B C₀ n₀ C₂ n'
        inv_next = record {
          operating = record {
            base = i.operating.base;
            room = record { fits = room_after.fits; within = room_after.within; enough = rw x.same.size room_after.enough };
            within = x.within i.operating.base charged;
          };
          same = λ s w. let c : Charged s 0 t.state f = rw q at (i.within s w) in same_then (same_then (i.same s w) d.same c.grows (omega (arith, c.stack))) x.same c.grows (omega (arith, c.stack));
          within = λ s w. x.within s (rw q at (i.within s w));
          deep = omega (arith, asked_deep, after_deep n' (x.within i.operating.base charged));
          follows = λ m y. go m (rw q at (i.follows m y));
        }
          where
            moved : Moved C C₁ t t
            moved = record { row = refl; context = refl; same = d.same; grows = omega arith; bottom = refl; deep = refl }

            go : (m : Plain Value) → Asked T A R B C m t f → Follows T A R B C₂ m n'
            go m a = rw a.run (x.follows a.next (eval_plain a.asked a.given t.state.left) (frame_kept moved T A R B f a.next a.frame) (d.evals a.asked a.given a.holds a.means))
