-- Arguments: the operands of an operation on all of them: the next one, or the operation.
use mathlib.Core.List.{List, [], ◌∷◌, ◌++◌}
use mathlib.Core.Path.{◌≡◌, refl, sym, ap, ◌∙◌}
use Prim.Native.Nat.{ℕ, suc, ◌+◌, ◌-◌, ◌/◌, ◌≤◌, ◌<◌}
use native.Mathlib.Omega.{arith}
use lib.ListN.{length}
use Rattle.model.specs.Bytes.{Bytes}
use Rattle.model.specs.EvalPlain.{Plain, gives, denies, continue, lift, plain_all, eval_plain}
use Rattle.model.specs.Operations.{operate}
use Rattle.model.specs.Rule.{Operation, Rule, Rules, no_rules, rule}
use Rattle.model.specs.Value.{Value, Values, no_items, item}
use Rattle.heap.specs.declared.handle.Handle.{Handle}
use Rattle.heap.specs.Blocks.{MeansEach, no_handles, handle_item}
use Rattle.heap.specs.Cells.{cell_bytes, cell_handle, stored}
use Rattle.table.specs.Node.{next_row}
use Rattle.heap.proofs.Laws.Cells.{length_stored}
use Rattle.heap.proofs.Main as heap
use Rattle.heap.specs.Means.{Means}
use Rattle.heap.specs.Unfold.{Areas, areas}
use Rattle.operations.specs.declared.ended.State.{State}
use Rattle.operations.specs.Cells.{Same}
use Rattle.operations.specs.Contract.{StackRoom, Applies}
use Rattle.operations.specs.Ended.{Ending, state, EndsAs}
use Rattle.operations.specs.Laws.Cells.{same_all, same_then, same_put, means_kept, each_kept}
use Rattle.operations.specs.Laws.Stack.{stack_cell_lem, stacked_same, stacked_more}
use Rattle.operations.specs.Stack.{stack_cell, stacked}
use Rattle.rule.specs.Holds.{rule_count}
use Rattle.eval.specs.declared.task.Frame.TheVariants.{Argument}
use Rattle.eval.specs.declared.task.Next.{Next}
use Rattle.eval.specs.declared.task.Next.TheVariants.{Ends, Asks}
use Rattle.eval.specs.declared.task.Pending.{Pending}
use Rattle.eval.specs.declared.task.Task.{Task}
use Rattle.eval.proofs.Bounds.{same_wider}
use Rattle.eval.specs.Inner.{Room, one_begun, RowsHold, row_rule, append, applied, Asked, ArgumentsLeft, Argues, Argued, Takes, task}

-- ---- values, one more
append_one : (vs : Values) (v : Value) (ws : Values) → append vs (item v ws) ≡ append (append vs (item v no_items)) ws
append_one no_items v ws = refl
append_one (item x vs) v ws = ap (item x) (append_one vs v ws)

append_none : (vs : Values) → append vs no_items ≡ vs
append_none no_items = refl
append_none (item v vs) = ap (item v) (append_none vs)

each_more : {a : Areas} {t : ℕ} {vs : Values} {hs : List Handle} {v : Value} {h : Handle} → MeansEach a t vs hs → Means a t v h → MeansEach a t (append vs (item v no_items)) (hs ++ (h ∷ []))
each_more no_handles m = handle_item m no_handles
each_more (handle_item n e) m = handle_item n (each_more e m)

-- The first of the rules that are left, and then the others.
applied_one : (o : Operation) (vs : Values) (r : Rule) (rs : Rules) (κ : Value) (n : ℕ) → applied o vs (rule r rs) κ n ≡ continue (eval_plain r κ n) (λ v. applied o (append vs (item v no_items)) rs κ)
unfolding plain_all
applied_one o vs r rs κ n = first (eval_plain r κ n)
  where
    others : (v : Value) (q : Plain Values) → continue (continue q (λ ws. gives (item v ws))) (λ ws. lift (operate o (append vs ws))) ≡ continue q (λ ws. lift (operate o (append (append vs (item v no_items)) ws)))
    others v (gives ws l) = ap (λ (xs : Values). lift (operate o xs) l) (append_one vs v ws)
    others v (denies e l) = refl

    first : (q : Plain Value) → continue (continue q (λ v l. continue (plain_all rs κ l) (λ ws. gives (item v ws)))) (λ ws. lift (operate o (append vs ws))) ≡ continue q (λ v. applied o (append vs (item v no_items)) rs κ)
    first (gives v l) = others v (plain_all rs κ l)
    first (denies e l) = refl

applied_none : (o : Operation) (vs : Values) (κ : Value) (n : ℕ) → applied o vs no_rules κ n ≡ lift (operate o vs) n
unfolding plain_all
applied_none o vs κ n = ap (λ (xs : Values). lift (operate o xs) n) (append_none vs)

-- ---- the next operand, or the operation
-- All are on the stack; one more is.
abbrev pub all_done : Task → Pending → State
all_done t p = state t.state.left t.state.top (t.state.bottom + p.done) t.state.deep

abbrev pub one_done : Pending → Pending
one_done p = record { op = p.op; done = p.done + 1; rest = p.rest }

abbrev pub pushed : Task → State
pushed t = state t.state.left t.state.top (t.state.bottom - 1) t.state.deep

-- Room for each.
pub stack_room : {C : Bytes} (t : Task) (p : Pending) (s : State) → Room C (2 + p.done) p.done t.state → s ≡ all_done t p → StackRoom C p.done s
stack_room t p s r e = rw e (record { fits = omega (arith, r.fits); within = r.within; enough = r.enough })

pub pushed_room : {C : Bytes} (t : Task) (p : Pending) (h : Handle) (C₁ : Bytes) (row : ℕ) (t' : Task) (s : State) (p' : Pending)
    → Room C (4 + p.done) p.done t.state → C₁ ≡ stored C (t.state.bottom - 1) h → s ≡ pushed t → t' ≡ task row t.context s → p' ≡ one_done p → Room C₁ (2 + p'.done) p'.done t'.state
pushed_room {C} t p h C₁ row t' s p' r puts d e f = rw (e, d, f) (record {
  fits = omega (arith, r.fits);
  within = omega (arith, r.fits, r.within);
  enough = rw (puts, length_stored C (t.state.bottom - 1) h) r.enough;
})

module _ {A R B C : Bytes} {t : Task} {p : Pending} where
  pub asks_next : (p' : Pending) → 1 ≤ p.rest → p' ≡ one_begun p → Argued A R B C t p (Asks t (Argument p')) C
  asks_next p' some e = rw e (record {
    argues = λ T. record {
      same = same_all C _ _;
      steps = omega arith;
      within = λ s c. record { grows = c.grows; spends = c.spends; stack = c.stack; deep = c.deep };
      follows = λ m a. go T m a a.others a.rows a.counted a.run;
    };
  })
    where
      go : (T : Bytes) (m : Plain Value) (a : ArgumentsLeft T A R B C t p m) (rs : Rules) → RowsHold T A t.state.deep t.row rs → p.rest ≡ rule_count rs → m ≡ applied a.operation a.values rs a.given t.state.left → Asked T A R B C m t (Argument (one_begun p))
      go T m a no_rules k f g = absurd (omega arith)
      go T m a (rule r rs) (row_rule k ks) f g = record {
        asked = r;
        given = a.given;
        next = λ v. applied a.operation (append a.values (item v no_items)) rs a.given;
        holds = k;
        means = a.means_given;
        frame = record {
          operation = a.operation;
          others = rs;
          values = a.values;
          given = a.given;
          stands = let q : p.done + suc (p.rest - 1) ≡ p.done + p.rest = omega arith in rw q a.stands;
          counted = omega arith;
          after = record { rows = ks; means = a.means_given };
          means = a.means;
          run = λ v n. refl;
        };
        run = g ∙ applied_one a.operation a.values r rs a.given t.state.left;
      }

  pub applies : (s : State) {e : Ending} {C' : Bytes} → p.rest ≡ 0 → s ≡ all_done t p → Applies A B R C p.op p.done s e C' → Argued A R B C t p (Ends e) C'
  applies s {e} {C'} none is_state d = go (rw is_state at d)
    where
      go : Applies A B R C p.op p.done (all_done t p) e C' → Argued A R B C t p (Ends e) C'
      go x = record {
        argues = λ T. record {
          same = x.same;
          steps = omega arith;
          within = λ s c. record {
            grows = λ g f. omega (arith, c.grows, x.within.grows g f);
            spends = λ g f. omega (arith, c.spends, x.within.spends g f, x.within.steps g f);
            stops = λ d f. omega (arith, c.grows, c.spends, x.within.stops d f);
          };
          follows = λ m a. ends T m a a.others a.counted a.run;
        };
      }
        where
          ends : (T : Bytes) (m : Plain Value) (a : ArgumentsLeft T A R B C t p m) (rs : Rules) → p.rest ≡ rule_count rs → m ≡ applied a.operation a.values rs a.given t.state.left → EndsAs (areas A B R C') m e
          ends T m a no_rules f g =
              let q : p.done + p.rest ≡ p.done = omega arith in
              rw (g, applied_none a.operation a.values a.given t.state.left) (x.gives a.operation a.values (rw q at a.stands) a.means)
          ends T m a (rule r rs) f g = absurd (omega arith)

-- ---- a value onto the stack
module _ {T A R B C C₁ C₂ : Bytes} {t : Task} {p : Pending} {h : Handle} {n : Next} where
  pub takes_argument :
      (row : ℕ) (t' : Task) (s : State) (p' : Pending)
      → Room C (4 + p.done) p.done t.state
      → C₁ ≡ stored C (t.state.bottom - 1) h
      → row ≡ next_row T t.row
      → s ≡ pushed t
      → t' ≡ task row t.context s
      → p' ≡ one_done p
      → Argues T A R B C₁ t' p' n C₂
      → Takes T A R B C t (Argument p) h n C₂
  takes_argument row t' s p' room puts is_row is_state is-task is-more d = go (rw (is-task, is_state, is_row, is-more) at d)
    where
      same_pushed : Same C C₁ t.state.top t.state.bottom
      same_pushed = rw puts (same_put C (t.state.bottom - 1) h (omega (arith, room.fits)) (omega (arith, room.fits)))

      -- The operands before stay where they are, and the new one follows them.
      base : (t.state.bottom - 1) + (p.done + 1) ≡ t.state.bottom + p.done
      base = omega (arith, room.fits)

      older : stacked C (t.state.bottom + p.done) p.done ≡ stacked C₁ (t.state.bottom + p.done) p.done
      older = stacked_same C C₁ (t.state.bottom + p.done) t.state.bottom 0 p.done same_pushed.above (omega arith)

      newest : (v : Value) → Means (areas A B R C) t.state.top v h → stack_cell C₁ (t.state.bottom + p.done) (0 + p.done) ≡ h
      newest v m =
          let at-cell : (t.state.bottom + p.done) - (0 + p.done) - 1 ≡ t.state.bottom - 1 = omega arith in
          let inside : t.state.bottom - 1 < length C / cell_bytes = omega (arith, room.fits, room.within, room.enough) in
          stack_cell_lem C₁ (t.state.bottom + p.done) (0 + p.done) (omega (arith, room.fits))
          ∙ ap (cell_handle C₁) at-cell
          ∙ ap (λ (D : Bytes). cell_handle D (t.state.bottom - 1)) puts
          ∙ heap.put_here C (t.state.bottom - 1) h inside (heap.means_small (areas A B R C) t.state.top v h m (omega (arith, room.fits, room.within)))

      stack : (v : Value) → Means (areas A B R C) t.state.top v h → stacked C₁ ((t.state.bottom - 1) + (p.done + 1)) (p.done + 1) ≡ stacked C (t.state.bottom + p.done) p.done ++ (h ∷ [])
      stack v m =
          let one : p.done + 1 ≡ suc p.done = omega arith in
          (λ i. stacked C₁ (base i) (one i)) ∙ stacked_more C₁ (t.state.bottom + p.done) 0 p.done ∙ (λ k. sym older k ++ (newest v m k ∷ []))

      go : Argues T A R B C₁ (task (next_row T t.row) t.context (pushed t)) (one_done p) n C₂ → Takes T A R B C t (Argument p) h n C₂
      go x = record {
        same = same_then (same_wider t.state.top (t.state.bottom + p.done) same_pushed (omega arith) (omega arith)) x.same (omega arith) (omega (arith, base));
        steps = x.steps;
        within = λ s c. x.within s (record {
          grows = c.grows;
          spends = omega (arith, c.spends);
          stack = base ∙ c.stack;
          deep = c.deep;
        });
        follows = λ K v m w. x.follows (K v t.state.left) (record {
          operation = m.operation;
          others = m.others;
          values = append m.values (item v no_items);
          given = m.given;
          stands = let q : (p.done + 1) + p.rest ≡ p.done + suc p.rest = omega arith in rw q m.stands;
          counted = m.counted;
          rows = m.after.rows;
          means_given = means_kept same_pushed (omega arith) m.after.means;
          means = rw (stack v w) (each_more (each_kept same_pushed (omega arith) m.means) (means_kept same_pushed (omega arith) w));
          run = m.run v t.state.left;
        });
      }
