-- Views: a rule by its view.
use mathlib.Core.Bool.{Bool, true, false}
use Rattle.std.specs.Prelude.{Option, Some}
use mathlib.Core.Path.{◌≡◌, refl, sym, ap, ◌∙◌, subst}
use Prim.Native.Nat.{ℕ, suc, ◌-◌, ◌≤◌}
use native.Mathlib.Omega.{arith}
use lib.ListN.{length}
use Rattle.model.specs.Bytes.{Bytes}
use Rattle.model.specs.Limits.{max_nesting}
use Rattle.model.specs.Option.{when}
use Rattle.model.specs.Rule.{Literal as ModelLiteral, Rule, if, reduce, Rules, no_rules, rule}
use Rattle.model.specs.TypeCheck.{Env as ModelEnv, outside, literal_types, types_for, types_for_all, accepts, accepts_all}
use Rattle.model.specs.Types.{Types}
use Rattle.keywords.specs.declared.Op.{Op}
use Rattle.rule.specs.declared.view.Literal.{Literal}
use Rattle.rule.specs.declared.view.View.{View}
use Rattle.rule.specs.declared.view.View.TheVariants as Seen
use Rattle.rule.specs.Holds.{Holds, rule_count}
use Rattle.rule.specs.Laws.Holds.{holds_count}
use Rattle.rule.specs.Contract.{Spells, spells_false, spells_true, spells_integer, spells_string, Viewed, viewed_literal, viewed_var, viewed_if, viewed_and, viewed_reduce, viewed_apply, nested, ViewsAs}
use Rattle.table.specs.declared.node.Rows.{Rows}
use Rattle.table.specs.declared.row.Span.{Span}
use Rattle.table.specs.Strings.{bytes_of}
use Rattle.type_set.specs.declared.set.TypeSet.{TypeSet}
use Rattle.type_set.specs.Contract.{set_of}
use Rattle.type_check.specs.declared.env.Env.TheVariants.{Outside}
use Rattle.type_check.specs.declared.env.Scope.{Scope}
use Rattle.type_check.specs.Contract.{found_of, Checks}
use Rattle.type_check.specs.ByRows.{var_by, literal_by, and_by, operation_by, if_by, reduce_by, view_found, found_below, found_at}
use Rattle.type_check.specs.Inner.{Stands, stands_outside, inner_of, VarTypes, found_by, Finds, FindsAll, FindsThree}
use Rattle.type_check.specs.declared.operation.Operands.{Operands}
use Rattle.type_check.proofs.Operations.{and_by_lem, operation_by_lem}

literal_is : {A : Bytes} {g : Literal} {l : ModelLiteral} → Spells A g l → literal_by A g ≡ set_of (literal_types l)
literal_is spells_false = refl
literal_is spells_true = refl
literal_is (spells_integer x e) = refl
literal_is (spells_string x) = ap (λ t. set_of (literal_types (ModelLiteral.string t))) (sym x.is)

types_count : (rs : Rules) (e : ModelEnv) → length (types_for_all rs e) ≡ rule_count rs
unfolding types_for_all
types_count no_rules e = refl
types_count (rule ρ rs) e = ap suc (types_count rs e)

module _ {T A : Bytes} {row deep : ℕ} {w : View} (seen : ViewsAs T A row deep w) where
  viewed : {v : View} {ρ : Rule} → w ≡ v → Holds T A deep row ρ → Viewed T A deep v ρ
  viewed {ρ = ρ} a k = subst (λ v. Viewed T A deep v ρ) a (seen.viewed ρ k)

  -- The operands of an operation nest less deep.
  pub nests : {v : View} → w ≡ v → nested v ≤ deep
  nests a = subst (λ v. nested v ≤ deep) a seen.bound

-- One less deep, and below that.
inner_deep : {n : ℕ} → 1 ≤ n → suc (n - 1) ≡ n
inner_deep l = omega arith

-- What is found for a row, by its view.
by_view : (T A S Z : Bytes) (row : ℕ) (s : Scope) {w : View} (v : View) → ViewsAs T A row s.deep w → w ≡ v → view_found T A S Z (found_below T A S Z s.deep) s.env v ≡ found_at T A S Z s.deep s.env row
unfolding found_below
by_view T A S Z row s v seen a = ap (view_found T A S Z (found_below T A S Z s.deep) s.env) (sym a ∙ seen.is)

module _ {T A S Z : Bytes} {row : ℕ} {s : Scope} {w : View} (seen : ViewsAs T A row s.deep w) where
  pub literal_found : {g : Literal} {t : TypeSet} → w ≡ Seen.Literal g → t ≡ literal_by A g → Finds T A S Z row s (Some t)
  unfolding accepts types_for
  literal_found {g} {t} a b = record { by_rows = ap Some b ∙ by_view T A S Z row s (Seen.Literal g) seen a; is = λ ρ e k z. go e (viewed seen a k) }
    where
      go : {ρ : Rule} (e : ModelEnv) → Viewed T A s.deep (Seen.Literal g) ρ → Some t ≡ found_by (accepts ρ e) (types_for ρ e)
      go e (viewed_literal x) = ap Some (b ∙ literal_is x)

  pub var_found : {p : Span} {text : Bytes} {t : TypeSet} → w ≡ Seen.Var p → text ≡ bytes_of A p → VarTypes S Z text s.env t → Finds T A S Z row s (Some t)
  unfolding accepts types_for
  var_found {p} {text} {t} a b v = record { by_rows = ap Some (v.by_rows ∙ ap (λ (x : Bytes). var_by S Z x s.env) b) ∙ by_view T A S Z row s (Seen.Var p) seen a; is = λ ρ e k z. go e (viewed seen a k) z }
    where
      go : {ρ : Rule} (e : ModelEnv) → Viewed T A s.deep (Seen.Var p) ρ → Stands S Z s.env e → Some t ≡ found_by (accepts ρ e) (types_for ρ e)
      go e (viewed_var {q = q} x) z = ap Some (v.is e q z (rw b x))

  module _ {q : Rows} {s₁ : Scope} (is-inner : s₁ ≡ inner_of s) where
    pub if_seen : {r : Option TypeSet} → w ≡ Seen.If q → FindsThree if if_by T A S Z q s₁ r → Finds T A S Z row s r
    if_seen {r} a f = record { by_rows = rw (inner_deep (nests seen a)) at (subst (λ s. FindsThree if if_by T A S Z q s r) is-inner f).by_rows ∙ by_view T A S Z row s (Seen.If q) seen a; is = λ ρ e k z. go e (viewed seen a k) z }
      where
        go : {ρ : Rule} (e : ModelEnv) → Viewed T A s.deep (Seen.If q) ρ → Stands S Z s.env e → r ≡ found_by (accepts ρ e) (types_for ρ e)
        go e (viewed_if {r₀ = r₀} {r₁ = r₁} {r₂ = r₂} h) z = (subst (λ s. FindsThree if if_by T A S Z q s r) is-inner f).is r₀ r₁ r₂ e h z

    pub reduce_seen : {r : Option TypeSet} → w ≡ Seen.Reduce q → FindsThree reduce reduce_by T A S Z q s₁ r → Finds T A S Z row s r
    reduce_seen {r} a f = record { by_rows = rw (inner_deep (nests seen a)) at (subst (λ s. FindsThree reduce reduce_by T A S Z q s r) is-inner f).by_rows ∙ by_view T A S Z row s (Seen.Reduce q) seen a; is = λ ρ e k z. go e (viewed seen a k) z }
      where
        go : {ρ : Rule} (e : ModelEnv) → Viewed T A s.deep (Seen.Reduce q) ρ → Stands S Z s.env e → r ≡ found_by (accepts ρ e) (types_for ρ e)
        go e (viewed_reduce {r₀ = r₀} {r₁ = r₁} {r₂ = r₂} h) z = (subst (λ s. FindsThree reduce reduce_by T A S Z q s r) is-inner f).is r₀ r₁ r₂ e h z

    module _ {x : Option Operands} (f : FindsAll T A S Z q s₁ x) where
      all : FindsAll T A S Z q (inner_of s) x
      all = subst (λ s. FindsAll T A S Z q s x) is-inner f

      pub and_seen : {r : Option TypeSet} → w ≡ Seen.And q → r ≡ and_by x → Finds T A S Z row s r
      unfolding accepts accepts_all types_for types_for_all
      and_seen {r} a b = record { by_rows = b ∙ ap and_by (rw (inner_deep (nests seen a)) at all.by_rows) ∙ by_view T A S Z row s (Seen.And q) seen a; is = λ ρ e k z. go e (viewed seen a k) z }
        where
          go : {ρ : Rule} (e : ModelEnv) → Viewed T A s.deep (Seen.And q) ρ → Stands S Z s.env e → r ≡ found_by (accepts ρ e) (types_for ρ e)
          go e (viewed_and {r = ρ} {rs = rs} h) z = b ∙ (ap and_by (all.is (rule ρ rs) e h z) ∙ and_by_lem (accepts ρ e) (accepts_all rs e) (types_for ρ e) (types_for_all rs e))

      pub apply_seen : {op : Op} {r : Option TypeSet} → w ≡ Seen.Apply op q → r ≡ operation_by op x → Finds T A S Z row s r
      unfolding accepts types_for
      apply_seen {op} {r} a b = record { by_rows = b ∙ ap (operation_by op) (rw (inner_deep (nests seen a)) at all.by_rows) ∙ by_view T A S Z row s (Seen.Apply op q) seen a; is = λ ρ e k z. go e (viewed seen a k) z }
        where
          go : {ρ : Rule} (e : ModelEnv) → Viewed T A s.deep (Seen.Apply op q) ρ → Stands S Z s.env e → r ≡ found_by (accepts ρ e) (types_for ρ e)
          go e (viewed_apply {rs = rs} o h) z = b ∙ (ap (operation_by op) (all.is rs e h z) ∙ operation_by_lem (accepts_all rs e) (types_for_all rs e) o (types_count rs e ∙ sym (holds_count h)))

-- ---- the whole rule
pub whole : {T A S Z : Bytes} {r : Option TypeSet} → Finds T A S Z 0 (record { env = Outside; deep = max_nesting }) r → Checks T A S Z r
whole {r = r} f = record { by_rows = f.by_rows; is = λ ρ s k z. f.is ρ (outside s) k (stands_outside z) ∙ go (accepts ρ (outside s)) (types_for ρ (outside s)) }
  where
    go : (b : Bool) (ts : Types) → found_by b ts ≡ found_of (when b (Some ts))
    go true ts = refl
    go false ts = refl
