-- Begun: how a rule begins: its own step, literals and paths, and the first operand of an operation.
use Rattle.std.specs.Prelude.{Ok, Err}
use mathlib.Core.Path.{◌≡◌, refl, subst, ap, sym, ◌∙◌}
use Prim.Native.Nat.{ℕ, zero, suc, ◌+◌, ◌-◌, ◌≤◌}
use native.Mathlib.Omega.{arith}
use Rattle.model.specs.Bytes.{Bytes}
use Rattle.model.specs.EvalPlain.{branch, continue, plain_and, plain_body, eval_plain}
use Rattle.model.specs.Limits.{heap_cells}
use Rattle.model.specs.Rule.{Literal as ModelLiteral, Operation, Rule, if, and, reduce, apply, Rules, no_rules, rule, literal_value}
use Rattle.model.specs.Truth.{truth}
use Rattle.model.specs.Value.{Value, array, no_items}
use Rattle.heap.specs.declared.handle.Form.TheVariants.{List}
use Rattle.heap.specs.declared.handle.Handle.{Handle}
use Rattle.heap.specs.declared.handle.Handle.TheVariants.{Compound}
use Rattle.heap.specs.Blocks.{no_handles}
use Rattle.heap.specs.Handles.{parts}
use Rattle.heap.specs.Means.{Means, means_false, means_true, means_integer, means_string, means_list, no_cell_items}
use Rattle.heap.specs.Unfold.{areas}
use Rattle.keywords.specs.declared.Op.{Op}
use Rattle.keywords.specs.Contract.{Stands, stands_array, stands_equal, stands_member_of, stands_plus, stands_not, stands_date_of_birth, stands_compare, stands_plus_time, stands_extract}
use Rattle.op_lookup.specs.Contract.{Leads}
use Rattle.model.specs.declared.refusal.EvalFault.TheVariants.{OutOfSteps}
use Rattle.operations.specs.declared.ended.State.{State}
use Rattle.operations.specs.Ended.{given, denied, state, EndsAs, ends_value, ends_fault}
use Rattle.operations.specs.Stack.{stacked_from}
use Rattle.rule.specs.declared.view.Literal.{Literal}
use Rattle.rule.specs.declared.view.View.{View}
use Rattle.rule.specs.declared.view.View.TheVariants as Views
use Rattle.rule.specs.Holds.{Holds, rule_count}
use Rattle.rule.specs.Laws.Holds.{holds_count}
use Rattle.rule.specs.Contract.{Spells, spells_false, spells_true, spells_integer, spells_string, nested, Viewed, viewed_literal, viewed_var, viewed_if, viewed_and, viewed_reduce, viewed_apply, ViewsAs}
use Rattle.syntax.specs.Layout.{item_count}
use Rattle.table.specs.declared.node.Rows.{Rows}
use Rattle.table.specs.declared.row.Span.{Span}
use Rattle.table.specs.Strings.{bytes_of}
use Rattle.eval.specs.declared.task.Frame.TheVariants.{Guard, Conjunct, Source, Argument}
use Rattle.eval.specs.declared.task.Next.{Next}
use Rattle.eval.specs.declared.task.Next.TheVariants.{Ends, Asks}
use Rattle.eval.specs.declared.task.Pending.{Pending}
use Rattle.eval.specs.declared.task.Task.{Task}
use Rattle.eval.specs.Inner.{RowsHold, row_rule, reduced, Asked, Argues, Starts, pending, first_task, first_of, first_argument, literal_handle}
use Rattle.eval.proofs.Arguments.{asks_next}
use Rattle.eval.proofs.Bounds.{gives_at, stops_at}
use Rattle.eval.proofs.Rows.{rows_hold}

-- ---- the rule's own step
-- A step is left: the rule's body, with one less.
begun : (ρ : Rule) (κ : Value) (left : ℕ) → 1 ≤ left → eval_plain ρ κ left ≡ plain_body ρ κ (left - 1)
begun ρ κ left l = go left l
  where
    go : (n : ℕ) → 1 ≤ n → eval_plain ρ κ n ≡ plain_body ρ κ (n - 1)
    go zero k = absurd (omega arith)
    go (suc n) k = let e : n ≡ suc n - 1 = omega arith in ap (plain_body ρ κ) e

-- ---- literals
literal_means : {A B R C : Bytes} {top : ℕ} {g : Literal} {l : ModelLiteral} → Spells A g l → Means (areas A B R C) top (literal_value l) (literal_handle g)
literal_means spells_false = means_false
literal_means spells_true = means_true
literal_means (spells_integer w e) = means_integer w e
literal_means (spells_string l) = means_string l

-- ---- by the view
-- The state once the step is begun.
abbrev after : Task → State
after t = state (t.state.left - 1) t.state.top t.state.bottom t.state.deep

-- A nesting is left for the operands.
pub some_deep : {T A : Bytes} {row deep : ℕ} {w : View} (x : View) → ViewsAs T A row deep w → w ≡ x → nested x ≡ 1 → 1 ≤ deep
some_deep x seen e n = let b = rw e at seen.bound in omega (arith, b, n)

-- Only an array may have no operand.
only_array : {op : Op} {o : Operation} {n : ℕ} → n ≡ 0 → Stands op o n → o ≡ Operation.array
only_array z stands_array = refl
only_array z (stands_equal e) = absurd (omega (arith, e, z))
only_array z (stands_member_of e) = absurd (omega (arith, e, z))
only_array z (stands_plus e) = absurd (omega (arith, e, z))
only_array z (stands_not e) = absurd (omega (arith, e, z))
only_array z (stands_date_of_birth e) = absurd (omega (arith, e, z))
only_array z (stands_compare e f) = absurd (omega (arith, e, z))
only_array z (stands_plus_time e x y) = absurd (omega (arith, e, z))
only_array z (stands_extract e x y) = absurd (omega (arith, e, z))

-- The first operand of an operation, by whether there is one.
module _ (op : Op) (q : Rows) (c : Handle) (s : State) where
  pub no_operand : (h : Handle) → q.count ≡ 0 → h ≡ Compound (parts List s.top 0) → Ends (Ok (given h s)) ≡ first_argument op q c s
  no_operand h z e = rw (z, e)

  pub some_operand : (u : Task) (p : Pending) → (q.count ≡ 0 → ⊥) → u ≡ first_task q c s → p ≡ pending op 0 (q.count - 1) → Asks u (Argument p) ≡ first_argument op q c s
  some_operand u p some e f = rw (e, f) (go q.count some)
    where
      go : (k : ℕ) → (k ≡ 0 → ⊥) → Asks (first_task q c s) (Argument (pending op 0 (k - 1))) ≡ first_of k op q c s
      go zero l = absurd (l refl)
      go (suc k) l = let j : suc k - 1 ≡ k = omega arith in ap (λ (r : ℕ). Asks (first_task q c s) (Argument (pending op 0 r))) j

module _ (T A R B C : Bytes) (t : Task) where
  -- No step is left.
  pub none_left : t.state.left ≡ 0 → Starts T A R B C t (Ends (Err (denied OutOfSteps 0)))
  none_left e = record {
    within = stops_at t.state (denied OutOfSteps 0) (omega arith);
    follows = λ ρ κ k m. ends_fault {d = denied OutOfSteps 0} (rw e) refl;
  }

  module _ (some : 1 ≤ t.state.left) (s : State) (is_state : s ≡ after t) {w : View} (seen : ViewsAs T A t.row t.state.deep w) where
    pub of_literal : (g : Literal) (h : Handle) → w ≡ Views.Literal g → h ≡ literal_handle g → Starts T A R B C t (Ends (Ok (given h s)))
    unfolding plain_body
    of_literal g h e f = rw (is_state, f) (record {
      within = gives_at t.state (given (literal_handle g) (after t)) (omega arith) (omega arith);
      follows = λ ρ κ k m. go ρ κ (subst (λ (y : View). Viewed T A t.state.deep y ρ) e (seen.viewed ρ k));
    })
      where
        go : (ρ : Rule) (κ : Value) → Viewed T A t.state.deep (Views.Literal g) ρ → EndsAs (areas A B R C) (eval_plain ρ κ t.state.left) (Ok (given (literal_handle g) (after t)))
        go ρ κ (viewed_literal n) = ends_value {g = given (literal_handle g) (after t)} (begun ρ κ t.state.left some) refl (literal_means n)

    pub of_path : (p : Span) (path : Bytes) (r : Handle) → w ≡ Views.Var p → path ≡ bytes_of A p → t.state.top ≤ heap_cells → Leads path B R C t.context r → Starts T A R B C t (Ends (Ok (given r s)))
    unfolding plain_body
    of_path p path r e is_path_lem room leads = rw is_state (record {
      within = gives_at t.state (given r (after t)) (omega arith) (omega arith);
      follows = λ ρ κ k m. go ρ κ (subst (λ (y : View). Viewed T A t.state.deep y ρ) e (seen.viewed ρ k)) m;
    })
      where
        go : (ρ : Rule) (κ : Value) → Viewed T A t.state.deep (Views.Var p) ρ → Means (areas A B R C) t.state.top κ t.context → EndsAs (areas A B R C) (eval_plain ρ κ t.state.left) (Ok (given r (after t)))
        go ρ κ (viewed_var {q = q} n) m =
            ends_value {g = given r (after t)} (begun ρ κ t.state.left some) refl (leads.leads A t.state.top q κ (rw is_path_lem n) room m)

    -- ---- operations
    module _ (q : Rows) (u : Task) (is-task : u ≡ first_task q t.context s) where
      abbrev first : Task
      first = first_task q t.context (after t)

      pub of_if : w ≡ Views.If q → Starts T A R B C t (Asks u Guard)
      unfolding plain_body
      of_if e = let l = some_deep (Views.If q) seen e refl in rw (is-task, is_state) (record {
        within = record { grows = omega arith; spends = omega arith; stack = omega arith; deep = omega arith };
        follows = λ ρ κ k m. rw (begun ρ κ t.state.left some) (go ρ κ (subst (λ (y : View). Viewed T A t.state.deep y ρ) e (seen.viewed ρ k)) m);
      })
        where
          asks : {r₀ r₁ r₂ : Rule} (κ : Value) → RowsHold T A (t.state.deep - 1) q.first (rule r₀ (rule r₁ (rule r₂ no_rules))) → Means (areas A B R C) t.state.top κ t.context → Asked T A R B C (plain_body (if r₀ r₁ r₂) κ (t.state.left - 1)) first Guard
          asks {r₀} {r₁} {r₂} κ (row_rule k ks) m = record {
            asked = r₀;
            given = κ;
            next = λ v. branch (truth v) (eval_plain r₁ κ) (eval_plain r₂ κ);
            holds = k;
            means = m;
            frame = record { second = r₁; third = r₂; given = κ; after = record { rows = ks; means = m }; run = λ v l. refl };
            run = refl;
          }

          go : (ρ : Rule) (κ : Value) → Viewed T A t.state.deep (Views.If q) ρ → Means (areas A B R C) t.state.top κ t.context → Asked T A R B C (plain_body ρ κ (t.state.left - 1)) first Guard
          go ρ κ (viewed_if n) m = asks κ (rows_hold _ q n) m

      pub of_and : (count : ℕ) → count ≡ q.count → w ≡ Views.And q → Starts T A R B C t (Asks u (Conjunct count))
      unfolding plain_body
      of_and count c e = let l = some_deep (Views.And q) seen e refl in rw (is-task, is_state, c) (record {
        within = record { grows = omega arith; spends = omega arith; stack = omega arith; deep = omega arith };
        follows = λ ρ κ k m. rw (begun ρ κ t.state.left some) (go ρ κ (subst (λ (y : View). Viewed T A t.state.deep y ρ) e (seen.viewed ρ k)) m);
      })
        where
          asks : {r : Rule} {rs : Rules} (κ : Value) → RowsHold T A (t.state.deep - 1) q.first (rule r rs) → q.count ≡ suc (rule_count rs) → Means (areas A B R C) t.state.top κ t.context → Asked T A R B C (plain_body (and r rs) κ (t.state.left - 1)) first (Conjunct q.count)
          asks {r} {rs} κ (row_rule k ks) n m = record {
            asked = r;
            given = κ;
            next = plain_and rs κ;
            holds = k;
            means = m;
            frame = record { others = rs; given = κ; after = record { rows = ks; means = m }; counted = n; run = λ v l. refl };
            run = refl;
          }

          go : (ρ : Rule) (κ : Value) → Viewed T A t.state.deep (Views.And q) ρ → Means (areas A B R C) t.state.top κ t.context → Asked T A R B C (plain_body ρ κ (t.state.left - 1)) first (Conjunct q.count)
          go ρ κ (viewed_and n) m = asks κ (rows_hold _ q n) (holds_count n) m

      pub of_reduce : w ≡ Views.Reduce q → Starts T A R B C t (Asks u Source)
      unfolding plain_body
      of_reduce e = let l = some_deep (Views.Reduce q) seen e refl in rw (is-task, is_state) (record {
        within = record { grows = omega arith; spends = omega arith; stack = omega arith; deep = omega arith };
        follows = λ ρ κ k m. rw (begun ρ κ t.state.left some) (go ρ κ (subst (λ (y : View). Viewed T A t.state.deep y ρ) e (seen.viewed ρ k)) m);
      })
        where
          asks : {r₀ r₁ r₂ : Rule} (κ : Value) → RowsHold T A (t.state.deep - 1) q.first (rule r₀ (rule r₁ (rule r₂ no_rules))) → Means (areas A B R C) t.state.top κ t.context → Asked T A R B C (plain_body (reduce r₀ r₁ r₂) κ (t.state.left - 1)) first Source
          asks {r₀} {r₁} {r₂} κ (row_rule k ks) m = record {
            asked = r₀;
            given = κ;
            next = λ v l. continue (eval_plain r₂ κ l) (reduced r₁ v);
            holds = k;
            means = m;
            frame = record { lambda = r₁; initial = r₂; given = κ; after = record { rows = ks; means = m }; run = λ v l. refl };
            run = refl;
          }

          go : (ρ : Rule) (κ : Value) → Viewed T A t.state.deep (Views.Reduce q) ρ → Means (areas A B R C) t.state.top κ t.context → Asked T A R B C (plain_body ρ κ (t.state.left - 1)) first Source
          go ρ κ (viewed_reduce n) m = asks κ (rows_hold _ q n) m

    -- ---- operations on all operands
    -- Of no rules: the empty list.
    no_arguments : (op : Op) (q : Rows) (ρ : Rule) (κ : Value) → q.count ≡ 0 → Viewed T A t.state.deep (Views.Apply op q) ρ → EndsAs (areas A B R C) (eval_plain ρ κ t.state.left) (Ok (given (Compound (parts List t.state.top 0)) (after t)))
    unfolding plain_body item_count
    no_arguments op q ρ κ z (viewed_apply {o = o} {rs = rs} d k) = go o rs (only_array z d) (sym (holds_count k) ∙ z)
      where
        go : (o : Operation) (rs : Rules) → o ≡ Operation.array → rule_count rs ≡ 0 → EndsAs (areas A B R C) (eval_plain (apply o rs) κ t.state.left) (Ok (given (Compound (parts List t.state.top 0)) (after t)))
        go o no_rules e n = ends_value {v = array no_items} {g = given (Compound (parts List t.state.top 0)) (after t)} (begun (apply o no_rules) κ t.state.left some ∙ rw e) refl (means_list {top = t.state.top} {vs = no_items} {cell = t.state.top} {count = 0} refl (omega arith) no_cell_items)
        go o (rule r rs) e n = absurd (omega (arith, n))

    pub of_apply : (op : Op) (q : Rows) (n : Next) → w ≡ Views.Apply op q → n ≡ first_argument op q t.context s → Starts T A R B C t n
    unfolding plain_body stacked_from
    of_apply op q n e f = rw (f, is_state) (go q.count refl)
      where
        deep : 1 ≤ t.state.deep
        deep = some_deep (Views.Apply op q) seen e refl

        viewed : (ρ : Rule) → Holds T A t.state.deep t.row ρ → Viewed T A t.state.deep (Views.Apply op q) ρ
        viewed ρ k = subst (λ (y : View). Viewed T A t.state.deep y ρ) e (seen.viewed ρ k)

        some_arguments : (rest : ℕ) → q.count ≡ suc rest → Argues T A R B C (first_task q t.context (after t)) (pending op 0 q.count) (Asks (first_task q t.context (after t)) (Argument (pending op 0 rest))) C
        some_arguments rest z = (asks_next (pending op 0 rest) (omega (arith, z)) (let j : rest ≡ q.count - 1 = omega (arith, z) in ap (pending op 0) j)).argues T

        go : (k : ℕ) → q.count ≡ k → Starts T A R B C t (first_argument op q t.context (after t))
        go zero z = rw z (record {
          within = gives_at t.state (given (Compound (parts List t.state.top 0)) (after t)) (omega arith) (omega arith);
          follows = λ ρ κ k m. no_arguments op q ρ κ z (viewed ρ k);
        })
        go (suc rest) z = let x = some_arguments rest z in rw z (record {
          within = record { grows = omega arith; spends = omega arith; stack = omega arith; deep = omega (arith, deep) };
          follows = λ ρ κ k m. rw (begun ρ κ t.state.left some) (asks x ρ κ (viewed ρ k) m);
        })
          where
            asks : Argues T A R B C (first_task q t.context (after t)) (pending op 0 q.count) (Asks (first_task q t.context (after t)) (Argument (pending op 0 rest))) C → (ρ : Rule) (κ : Value) → Viewed T A t.state.deep (Views.Apply op q) ρ → Means (areas A B R C) t.state.top κ t.context → Asked T A R B C (plain_body ρ κ (t.state.left - 1)) (first_task q t.context (after t)) (Argument (pending op 0 rest))
            asks x ρ κ (viewed_apply {o = o} {rs = rs} d k) m = x.follows _ (record {
              operation = o;
              others = rs;
              values = no_items;
              given = κ;
              stands = let j : 0 + q.count ≡ q.count = omega arith in rw j d;
              counted = holds_count k;
              rows = rows_hold _ q k;
              means_given = m;
              means = no_handles;
              run = refl;
            })
