-- Taken: what `if`, `and` and `reduce` do with the value of an operand.
use Rattle.std.specs.Prelude.{None, Some, Ok, Err}
use mathlib.Core.Path.{◌≡◌, refl, sym, ap, ◌∙◌}
use Prim.Native.Nat.{ℕ, suc, ◌+◌, ◌-◌, ◌≤◌, ◌<◌}
use native.Mathlib.Numerals.{add-one}
use native.Mathlib.Omega.{arith}
use Rattle.model.specs.Bytes.{Bytes}
use Rattle.model.specs.Eval.{context}
use Rattle.model.specs.EvalPlain.{Plain, gives, denies, continue, branch, fold, plain_and, eval_plain}
use Rattle.model.specs.declared.refusal.Fault.TheVariants.{WrongKind as wrong_kind}
use Rattle.model.specs.declared.refusal.EvalFault.TheVariants.{Operation}
use Rattle.model.specs.Rule.{Rule, Rules, no_rules, rule}
use Rattle.model.specs.Truth.{Truth, truthy, falsy, neither, truth}
use Rattle.model.specs.Value.{Value, array, Values, no_items, item}
use Rattle.syntax.specs.Layout.{item_count}
use Rattle.heap.specs.declared.handle.Form.TheVariants as forms
use Rattle.heap.specs.declared.handle.Handle.{Handle}
use Rattle.heap.specs.declared.handle.Handle.TheVariants.{Compound}
use Rattle.heap.specs.declared.handle.Parts.{Parts}
use Rattle.heap.specs.Cells.{stored}
use Rattle.heap.specs.Handles.{parts}
use Rattle.table.specs.Node.{next_row}
use Rattle.heap.proofs.Main as heap
use Rattle.heap.specs.Means.{Means}
use Rattle.heap.specs.Parts.{head_of, tail_of}
use Rattle.heap.specs.Unfold.{areas}
use Rattle.operations.specs.declared.ended.State.{State}
use Rattle.operations.specs.Cells.{Same}
use Rattle.operations.specs.Ended.{given, denied, state, ends_value, ends_fault}
use Rattle.operations.specs.Laws.Cells.{same_all, same_then, same_put, means_kept}
use Rattle.rule.specs.Holds.{rule_count}
use Rattle.op_scalars.specs.declared.truth.Truth as declared
use Rattle.op_scalars.specs.declared.truth.Truth.TheVariants.{Truthy, Falsy, Neither}
use Rattle.op_scalars.specs.Contract.{elements_of, truth_of, TruthIs}
use Rattle.op_scalars.proofs.Operands.{no_array, an_array}
use Rattle.eval.specs.declared.task.Frame.TheVariants.{Guard, Branch, Conjunct, Source, Item}
use Rattle.eval.specs.declared.task.Next.TheVariants.{Ends, Asks}
use Rattle.eval.specs.declared.task.Task.{Task}
use Rattle.eval.specs.Inner.{Room, RowsHold, row_rule, After, Then, GuardMeans, SourceMeans, ItemMeans, lambda_run, reduced, Asked, TakesByRule, TakesByRecord, branch_row, Branches, task}
use Rattle.eval.proofs.Bounds.{gives_at, stops_at, same_wider}

-- A value that ends the rule.
pub continue_gives : (m : Plain Value) → m ≡ continue m (λ v n. gives v n)
continue_gives (gives v n) = refl
continue_gives (denies e n) = refl

-- ---- `if`
pub chooses_second : {T : Bytes} {guard row : ℕ} {h : Handle} (x : declared.Truth) → TruthIs h x → x ≡ Truthy → row ≡ next_row T guard → Branches T guard h row
chooses_second {T} {guard} x t e f = record { chosen = λ A R B C top v m. f ∙ ap (branch_row T guard) (sym (ap truth_of e) ∙ t.is (areas A B R C) top v m) }

pub chooses_third : {T : Bytes} {guard second row : ℕ} {h : Handle} (x : declared.Truth) → TruthIs h x → branch_row T guard (truth_of x) ≡ next_row T (next_row T guard) → second ≡ next_row T guard → row ≡ next_row T second → Branches T guard h row
chooses_third {T} {guard} x t e n f = record { chosen = λ A R B C top v m. f ∙ ap (next_row T) n ∙ sym e ∙ ap (branch_row T guard) (t.is (areas A B R C) top v m) }

pub takes_guard : {T : Bytes} {t : Task} {h : Handle} (row : ℕ) (t' : Task) → t' ≡ task row t.context t.state → Branches T t.row h row → TakesByRule T t Guard h (Asks t' Branch)
takes_guard {T} {t} {h} row t' e b = rw e (record {
  takes = λ A R B C. record {
    same = same_all C _ _;
    steps = omega arith;
    within = λ s c. record { grows = c.grows; spends = omega (arith, c.spends); stack = c.stack; deep = c.deep };
    follows = λ K v m w. go A R B C K v m w m.after.rows (truth v) (b.chosen A R B C t.state.top v w) (m.run v t.state.left);
  };
})
  where
    go : (A R B C : Bytes) (K : Then) (v : Value) (m : GuardMeans T A R B C t K) → Means (areas A B R C) t.state.top v h
        → RowsHold T A t.state.deep (next_row T t.row) (rule m.second (rule m.third no_rules))
        → (x : Truth) → row ≡ branch_row T t.row x → K v t.state.left ≡ branch x (eval_plain m.second m.given) (eval_plain m.third m.given) t.state.left
        → Asked T A R B C (K v t.state.left) (task row t.context t.state) Branch
    go A R B C K v m w (row_rule k₁ (row_rule k₂ ks)) truthy f g = record {
      asked = m.second;
      given = m.given;
      next = λ u n. gives u n;
      holds = rw f k₁;
      means = m.after.means;
      frame = record { run = λ u n. refl };
      run = g ∙ continue_gives _;
    }
    go A R B C K v m w (row_rule k₁ (row_rule k₂ ks)) falsy f g = record {
      asked = m.third;
      given = m.given;
      next = λ u n. gives u n;
      holds = rw f k₂;
      means = m.after.means;
      frame = record { run = λ u n. refl };
      run = g ∙ continue_gives _;
    }
    go A R B C K v m w (row_rule k₁ (row_rule k₂ ks)) neither f g = record {
      asked = m.third;
      given = m.given;
      next = λ u n. gives u n;
      holds = rw f k₂;
      means = m.after.means;
      frame = record { run = λ u n. refl };
      run = g ∙ continue_gives _;
    }

-- ---- `and`
and_falsy : (rs : Rules) (c v : Value) (n : ℕ) → truth v ≡ falsy → plain_and rs c v n ≡ gives v n
unfolding plain_and
and_falsy no_rules c v n e = rw e
and_falsy (rule r rs) c v n e = rw e

and_neither : (rs : Rules) (c v : Value) (n : ℕ) → truth v ≡ neither → plain_and rs c v n ≡ denies (Operation wrong_kind) n
unfolding plain_and
and_neither no_rules c v n e = rw e
and_neither (rule r rs) c v n e = rw e

and_last : (c v : Value) (n : ℕ) → truth v ≡ truthy → plain_and no_rules c v n ≡ gives v n
unfolding plain_and
and_last c v n e = rw e

and_more : (r : Rule) (rs : Rules) (c v : Value) (n : ℕ) → truth v ≡ truthy → plain_and (rule r rs) c v n ≡ continue (eval_plain r c n) (plain_and rs c)
unfolding plain_and
and_more r rs c v n e = rw e

module _ {T : Bytes} {t : Task} {count : ℕ} {h : Handle} (x : declared.Truth) (is-truth : TruthIs h x) where
  pub conjunct_falsy : x ≡ Falsy → TakesByRule T t (Conjunct count) h (Ends (Ok (given h t.state)))
  conjunct_falsy e = record {
    takes = λ A R B C. record {
      same = same_all C _ _;
      steps = omega arith;
      within = λ s c. gives_at s (given h t.state) c.grows (omega (arith, c.spends));
      follows = λ K v m w. ends_value {v = v} {g = given h t.state} (m.run v t.state.left ∙ and_falsy m.others m.given v t.state.left (sym (is-truth.is (areas A B R C) t.state.top v w) ∙ ap truth_of e)) refl w;
    };
  }

  pub conjunct_neither : x ≡ Neither → TakesByRule T t (Conjunct count) h (Ends (Err (denied (Operation wrong_kind) t.state.left)))
  conjunct_neither e = record {
    takes = λ A R B C. record {
      same = same_all C _ _;
      steps = omega arith;
      within = λ s c. stops_at s (denied (Operation wrong_kind) t.state.left) (omega (arith, c.grows, c.spends));
      follows = λ K v m w. ends_fault {d = denied (Operation wrong_kind) t.state.left} (m.run v t.state.left ∙ and_neither m.others m.given v t.state.left (sym (is-truth.is (areas A B R C) t.state.top v w) ∙ ap truth_of e)) refl;
    };
  }

  pub conjunct_last : x ≡ Truthy → count < 2 → TakesByRule T t (Conjunct count) h (Ends (Ok (given h t.state)))
  conjunct_last e l = record {
    takes = λ A R B C. record {
      same = same_all C _ _;
      steps = omega arith;
      within = λ s c. gives_at s (given h t.state) c.grows (omega (arith, c.spends));
      follows = λ K v m w. ends_value {v = v} {g = given h t.state} (go m.others m.given v t.state.left m.counted (sym (is-truth.is (areas A B R C) t.state.top v w) ∙ ap truth_of e) (m.run v t.state.left)) refl w;
    };
  }
    where
      go : {q : Plain Value} (rs : Rules) (c v : Value) (n : ℕ) → count ≡ suc (rule_count rs) → truth v ≡ truthy → q ≡ plain_and rs c v n → q ≡ gives v n
      go no_rules c v n f g k = k ∙ and_last c v n g
      go (rule r rs) c v n f g k = absurd (omega arith)

  pub conjunct_next : (row : ℕ) (t' : Task) → x ≡ Truthy → 2 ≤ count → row ≡ next_row T t.row → t' ≡ task row t.context t.state → TakesByRule T t (Conjunct count) h (Asks t' (Conjunct (count - 1)))
  conjunct_next row t' e l is_row is-task = rw (is-task, is_row) (record {
    takes = λ A R B C. record {
      same = same_all C _ _;
      steps = omega arith;
      within = λ s c. record { grows = c.grows; spends = omega (arith, c.spends); stack = c.stack; deep = c.deep };
      follows = λ K v m w. go A R B C m.others m.given v m.after m.counted (sym (is-truth.is (areas A B R C) t.state.top v w) ∙ ap truth_of e) (m.run v t.state.left);
    };
  })
    where
      go : (A R B C : Bytes) {q : Plain Value} (rs : Rules) (c v : Value) → After T A R B C t rs c → count ≡ suc (rule_count rs) → truth v ≡ truthy → q ≡ plain_and rs c v t.state.left → Asked T A R B C q (task (next_row T t.row) t.context t.state) (Conjunct (count - 1))
      go A R B C {q} rs c v a f g k = pick rs a.rows f k
        where
          pick : (rs : Rules) → RowsHold T A t.state.deep (next_row T t.row) rs → count ≡ suc (rule_count rs) → q ≡ plain_and rs c v t.state.left → Asked T A R B C q (task (next_row T t.row) t.context t.state) (Conjunct (count - 1))
          pick no_rules ks f k = absurd (omega arith)
          pick (rule r rs) (row_rule k₁ ks) f k = record {
            asked = r;
            given = c;
            next = plain_and rs c;
            holds = k₁;
            means = a.means;
            frame = record { others = rs; given = c; after = record { rows = ks; means = a.means }; counted = omega arith; run = λ u n. refl };
            run = k ∙ and_more r rs c v t.state.left g;
          }

-- ---- `reduce`: its operand
pub takes_source : {T : Bytes} {t : Task} {h : Handle} (lambda row : ℕ) (t' : Task) → lambda ≡ next_row T t.row → row ≡ next_row T lambda → t' ≡ task row t.context t.state → TakesByRule T t Source h (Asks t' (Item lambda h))
takes_source {T} {t} {h} lambda row t' is-lambda is_row is-task = rw (is-task, is_row, is-lambda) (record {
  takes = λ A R B C. record {
    same = same_all C _ _;
    steps = omega arith;
    within = λ s c. record { grows = c.grows; spends = omega (arith, c.spends); stack = c.stack; deep = c.deep };
    follows = λ K v m w. go A R B C K v m w m.after.rows;
  };
})
  where
    go : (A R B C : Bytes) (K : Then) (v : Value) (m : SourceMeans T A R B C t K) → Means (areas A B R C) t.state.top v h
        → RowsHold T A t.state.deep (next_row T t.row) (rule m.lambda (rule m.initial no_rules))
        → Asked T A R B C (K v t.state.left) (task (next_row T (next_row T t.row)) t.context t.state) (Item (next_row T t.row) h)
    go A R B C K v m w (row_rule k₁ (row_rule k₂ ks)) = record {
      asked = m.initial;
      given = m.given;
      next = reduced m.lambda v;
      holds = k₂;
      means = m.after.means;
      frame = record { lambda = m.lambda; value = v; holds = k₁; means = w; run = λ u n. refl };
      run = m.run v t.state.left;
    }

-- ---- the items
-- The two cells of a context.
pub two_puts : (C : Bytes) (t : ℕ) (x y : Handle) {C₁ C₂ : Bytes} → C₁ ≡ stored C t x → C₂ ≡ stored C₁ (t + 1) y → C₂ ≡ stored (stored C t x) (suc t) y
two_puts C t x y e f = f ∙ rw (e, add-one t)

-- The lambda's next task.
abbrev item_task : ℕ → State → Task
item_task row s = task row (Compound (parts forms.Context s.top 2)) (state s.left (s.top + 2) s.bottom s.deep)

module _ {R C : Bytes} {t : Task} {lambda : ℕ} {items h : Handle} where
  pub no_items_there : elements_of items ≡ None → TakesByRecord R C t (Item lambda items) h (Ends (Err (denied (Operation wrong_kind) t.state.left))) C
  no_items_there e = record {
    takes = λ T A B. record {
      same = same_all C _ _;
      steps = omega arith;
      within = λ s c. stops_at s (denied (Operation wrong_kind) t.state.left) (omega (arith, c.grows, c.spends));
      follows = λ K v m w. ends_fault {d = denied (Operation wrong_kind) t.state.left} (m.run v t.state.left ∙ rw (no_array m.means e)) refl;
    };
  }

  module _ (p : Parts) (is-array : elements_of items ≡ Some p) where
    pub items_done : p.count ≡ 0 → TakesByRecord R C t (Item lambda items) h (Ends (Ok (given h t.state))) C
    unfolding item_count
    items_done e = record {
      takes = λ T A B. record {
        same = same_all C _ _;
        steps = omega arith;
        within = λ s c. gives_at s (given h t.state) c.grows (omega (arith, c.spends));
        follows = λ K v m w. let i = an_array m.means is-array in ends_value {v = v} {g = given h t.state} (m.run v t.state.left ∙ rw i.is (go m.lambda i.values v (heap.array_count _ t.state.top i.values p i.means))) refl w;
      };
    }
      where
        go : (ρ : Rule) (vs : Values) (v : Value) → p.count ≡ item_count vs → fold (lambda_run ρ) vs v t.state.left ≡ gives v t.state.left
        go ρ no_items v f = refl
        go ρ (item w vs) v f = absurd (omega arith)

    pub item_next :
        (x ctx : Handle) (C₂ : Bytes) (s' : State) (t' : Task) (rest : Parts)
        → Room C 2 0 t.state
        → 1 ≤ p.count
        → x ≡ head_of R C p
        → C₂ ≡ stored (stored C t.state.top x) (suc t.state.top) h
        → ctx ≡ Compound (parts forms.Context t.state.top 2)
        → s' ≡ state t.state.left (t.state.top + 2) t.state.bottom t.state.deep
        → t' ≡ task lambda ctx s'
        → rest ≡ tail_of R C₂ p
        → TakesByRecord R C t (Item lambda items) h (Asks t' (Item lambda (Compound rest))) C₂
    unfolding item_count
    item_next x ctx C₂ s' t' rest room l is-head puts is-context is_state is-task is-rest = rw (is-task, is_state, is-context, is-rest) (record {
      takes = λ T A B. record {
        same = same_wider t.state.top (t.state.bottom + 0) same_made (omega arith) (omega arith);
        steps = omega arith;
        within = λ s c. record { grows = omega (arith, c.grows); spends = omega (arith, c.spends); stack = c.stack; deep = c.deep };
        follows = λ K v m w. let i = an_array m.means is-array in go T A B K v m w i.values i.means (m.run v t.state.left ∙ rw i.is);
      };
    })
      where
        same_made : Same C C₂ t.state.top t.state.bottom
        same_made = rw puts (same_then {top₁ = t.state.top} {bottom₁ = t.state.bottom} (same_put C t.state.top x (omega arith) (omega (arith, room.fits))) (same_put (stored C t.state.top x) (suc t.state.top) h (omega arith) (omega (arith, room.fits))) (omega arith) (omega arith))

        go : (T A B : Bytes) (K : Then) (v : Value) (m : ItemMeans T A R B C t lambda items K) → Means (areas A B R C) t.state.top v h → (vs : Values) → Means (areas A B R C) t.state.top (array vs) (Compound p) → K v t.state.left ≡ fold (lambda_run m.lambda) vs v t.state.left
            → Asked T A R B C₂ (K v t.state.left) (item_task lambda t.state) (Item lambda (Compound (tail_of R C₂ p)))
        go T A B K v m w no_items is e = absurd (omega (arith, heap.array_count _ t.state.top no_items p is))
        go T A B K v m w (item u vs) is e = record {
          asked = m.lambda;
          given = context u v;
          next = λ a. fold (lambda_run m.lambda) vs a;
          holds = m.holds;
          means = rw puts (heap.context_made (areas A B R C) t.state.top u v x h (rw is-head (heap.array_parts _ t.state.top u vs p is).0) w (omega (arith, room.fits, room.within, room.enough)) (omega (arith, room.fits, room.within)));
          frame = record {
            lambda = m.lambda;
            value = array vs;
            holds = m.holds;
            means = (heap.array_parts (areas A B R C₂) (t.state.top + 2) u vs p (means_kept same_made (omega arith) is)).1;
            run = λ a n. refl;
          };
          run = e;
        }
