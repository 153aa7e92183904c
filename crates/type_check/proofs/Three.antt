-- Three: `if` and `reduce`, which have three operands.
use Rattle.std.specs.Prelude.{Option, None, Some}
use mathlib.Core.Bool.{Bool, true, false, and-false}
use mathlib.Core.List.{[], ◌∷◌}
use mathlib.Core.Path.{◌≡◌, sym, ap, ◌∙◌}
use Prim.Native.Nat.{ℕ}
use Rattle.model.specs.Bytes.{Bytes}
use Rattle.model.specs.Rule.{Rule, if, reduce, no_rules, rule}
use Rattle.model.specs.TypeCheck.{Env as ModelEnv, items_types, types_for, types_for_all, lambda_env, accepts, accepts_all}
use Rattle.model.specs.Types.{passes}
use Rattle.model.specs.declared.Ty.TheVariants as Ty
use Rattle.rule.specs.Holds.{Holds, HoldsAll}
use Rattle.rule.specs.Laws.Holds.{holds_parts}
use Rattle.table.specs.declared.node.Rows.{Rows}
use Rattle.table.specs.Node.{next_row, tail_of}
use Rattle.type_set.specs.declared.set.TypeSet.{TypeSet}
use Rattle.type_set.specs.Contract.{set_of, types_in}
use Rattle.type_set.specs.Laws.Set.{passes_set, items_set}
use Rattle.type_check.specs.declared.env.Env.TheVariants.{Lambda}
use Rattle.type_check.specs.declared.env.Scope.{Scope}
use Rattle.type_check.specs.ByRows.{accepted_as, passes_as, pass_as, branches_by, if_by, reduce_by, found_at}
use Rattle.type_check.specs.Inner.{Stands, stands_in_lambda, Finds, FindsAll, FindsThree}
use Rattle.type_check.proofs.Operand.{found, refused}
use Rattle.type_check.proofs.Operations.{branches_by_lem}
use Rattle.type_check.specs.declared.operation.Operands.{Operands}
use Rattle.type_check.proofs.Rows.{if_none, if_some, lambda_none, lambda_some, reduce_none, reduce_no_array, reduce_no_initial, reduce_some}

module _ {T A S Z : Bytes} {q : Rows} {s : Scope} {x₀ : Option TypeSet} (f₀ : Finds T A S Z q.first s x₀) where
  -- ---- `if`
  pub no_guard : x₀ ≡ None → FindsThree if if_by T A S Z q s None
  unfolding accepts
  no_guard a = record { by_rows = if_none (found_at T A S Z s.deep) T s.env q f₀.by_rows a; is = λ r₀ r₁ r₂ e k z. rw (refused f₀ a (holds_parts k).head z) }

  pub if_found : {q₁ : Rows} {x : Option Operands} {t : TypeSet} {r : Option TypeSet} → x₀ ≡ Some t → q₁ ≡ tail_of T q → FindsAll T A S Z q₁ s x → r ≡ branches_by x → FindsThree if if_by T A S Z q s r
  unfolding accepts accepts_all types_for types_for_all
  if_found a is-q f is-r = record {
    by_rows = is-r ∙ ap branches_by (rw is-q at f.by_rows) ∙ if_some (found_at T A S Z s.deep) T s.env q f₀.by_rows a;
    is = λ r₀ r₁ r₂ e k z.
        let p = holds_parts k in
        rw (found f₀ a p.head z).ok
        (is-r ∙ (ap branches_by (f.is (rule r₁ (rule r₂ no_rules)) e (rw is-q p.rest) z) ∙ branches_by_lem (accepts r₁ e) (accepts r₂ e) (types_for r₁ e) (types_for r₂ e)));
  }

  -- ---- `reduce`
  pub no_operand : x₀ ≡ None → FindsThree reduce reduce_by T A S Z q s None
  unfolding accepts
  no_operand a = record { by_rows = reduce_none (found_at T A S Z s.deep) T s.env q f₀.by_rows a; is = λ r₀ r₁ r₂ e k z. rw (refused f₀ a (holds_parts k).head z) }

  -- The operand's types are not all types of arrays.
  pub no_array : {t u : TypeSet} (b : Bool) → x₀ ≡ Some t → u ≡ set_of (Ty.Array ∷ []) → b ≡ passes_as t u → b ≡ false → FindsThree reduce reduce_by T A S Z q s None
  unfolding accepts
  no_array {t} {u} b a c d f = record {
    by_rows = (let g : pass_as t (Ty.Array ∷ []) ≡ false = rw c at (sym d ∙ f) in reduce_no_array (found_at T A S Z s.deep) T s.env q f₀.by_rows a g);
    is = λ r₀ r₁ r₂ e k z.
        let y : passes (types_for r₀ e) (Ty.Array ∷ []) ≡ false = sym (passes_set (types_for r₀ e) (Ty.Array ∷ [])) ∙ (rw ((found f₀ a (holds_parts k).head z).is, c) at (sym d ∙ f)) in
        rw (y, and-false (accepts r₂ e), and-false (accepts r₀ e));
  }

  module _ {row₁ row₂ : ℕ} (is₁ : row₁ ≡ next_row T q.first) (is₂ : row₂ ≡ next_row T row₁) {x₂ : Option TypeSet} (f₂ : Finds T A S Z row₂ s x₂) where
    lambda : {r₀ r₁ r₂ : Rule} → HoldsAll T A s.deep q (rule r₀ (rule r₁ (rule r₂ no_rules))) → Holds T A s.deep row₁ r₁
    lambda k = rw is₁ (holds_parts (holds_parts k).rest).head

    last : {r₀ r₁ r₂ : Rule} → HoldsAll T A s.deep q (rule r₀ (rule r₁ (rule r₂ no_rules))) → Holds T A s.deep row₂ r₂
    last k = rw (is₂, is₁) (holds_parts (holds_parts (holds_parts k).rest).rest).head

    pub no_initial : x₂ ≡ None → FindsThree reduce reduce_by T A S Z q s None
    unfolding accepts
    no_initial a = record { by_rows = reduce_no_initial (found_at T A S Z s.deep) T s.env q f₀.by_rows is₁ is₂ f₂.by_rows a; is = λ r₀ r₁ r₂ e k z. rw (refused f₂ a (last k) z, and-false (accepts r₀ e)) }

    module _ {t c t₂ : TypeSet} (a : x₀ ≡ Some t) (is_c : c ≡ set_of (items_types (types_in t))) (a₂ : x₂ ≡ Some t₂)
        {x₁ : Option TypeSet} (f₁ : Finds T A S Z row₁ (record { env = Lambda c t₂; deep = s.deep }) x₁) where
      -- Where the lambda stands.
      inside : {r₀ r₁ r₂ : Rule} {e : ModelEnv} → HoldsAll T A s.deep q (rule r₀ (rule r₁ (rule r₂ no_rules))) → Stands S Z s.env e → Stands S Z (Lambda c t₂) (lambda_env r₀ r₂ e)
      inside {r₀} {e = e} k z =
          stands_in_lambda {cur = items_types (types_for r₀ e)}
          (is_c ∙ rw (found f₀ a (holds_parts k).head z).is (items_set (types_for r₀ e)))
          (found f₂ a₂ (last k) z).is

      pub no_lambda : x₁ ≡ None → FindsThree reduce reduce_by T A S Z q s None
      unfolding accepts
      no_lambda b = record {
        by_rows = reduce_some (found_at T A S Z s.deep) T s.env q f₀.by_rows is₁ is₂ f₂.by_rows a a₂ (lambda_none (found_at T A S Z s.deep) row₁ t t₂ is_c f₁.by_rows b);
        is = λ r₀ r₁ r₂ e k z.
            rw (refused f₁ b (lambda k) (inside k z), and-false (passes (types_for r₀ e) (Ty.Array ∷ [])), and-false (accepts r₂ e), and-false (accepts r₀ e));
      }

      pub reduce_found : {u t₁ : TypeSet} {r : Option TypeSet} (b : Bool) → u ≡ set_of (Ty.Array ∷ []) → b ≡ passes_as t u → b ≡ true → x₁ ≡ Some t₁ → r ≡ accepted_as (passes_as t₁ t₂) t₂ → FindsThree reduce reduce_by T A S Z q s r
      unfolding accepts types_for
      reduce_found {u = u} b is-u is_b b-true a₁ is-r = record {
        by_rows =
            let g : pass_as t (Ty.Array ∷ []) ≡ true = rw is-u at (sym is_b ∙ b-true) in
            reduce_some (found_at T A S Z s.deep) T s.env q f₀.by_rows is₁ is₂ f₂.by_rows a a₂ (is-r ∙ lambda_some (found_at T A S Z s.deep) row₁ t t₂ is_c f₁.by_rows g a₁);
        is = λ r₀ r₁ r₂ e k z.
            let y₀ = found f₀ a (holds_parts k).head z in
            let y₁ = found f₁ a₁ (lambda k) (inside k z) in
            let y₂ = found f₂ a₂ (last k) z in
            let y : passes (types_for r₀ e) (Ty.Array ∷ []) ≡ true = sym (passes_set (types_for r₀ e) (Ty.Array ∷ [])) ∙ (rw (y₀.is, is-u) at (sym is_b ∙ b-true)) in
            rw (y₀.ok, y₂.ok, y, y₁.ok)
            (is-r ∙ rw (y₁.is, y₂.is, passes_set (types_for r₁ (lambda_env r₀ r₂ e)) (types_for r₂ e)));
      }
