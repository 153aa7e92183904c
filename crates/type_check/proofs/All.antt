-- All: what is found for all operands, by a loop.
use Rattle.std.specs.Prelude.{Option, None, Some}
use mathlib.Core.Path.{◌≡◌, refl, ap, ◌∙◌, subst}
use Prim.Native.Nat.{◌≤◌}
use native.Mathlib.Omega.{arith}
use Rattle.model.specs.Bytes.{Bytes}
use Rattle.model.specs.Rule.{Rules, no_rules, rule}
use Rattle.model.specs.TypeCheck.{Env as ModelEnv, types_for_all, accepts_all}
use Rattle.rule.specs.Holds.{HoldsAll}
use Rattle.rule.specs.Laws.Holds.{holds_count, holds_parts}
use Rattle.table.specs.declared.node.Rows.{Rows}
use Rattle.table.specs.Node.{tail_of}
use Rattle.type_set.specs.declared.set.TypeSet.{TypeSet}
use Rattle.type_check.specs.declared.env.Scope.{Scope}
use Rattle.type_check.specs.declared.operation.Operands.{Operands}
use Rattle.type_check.specs.ByRows.{no_operands, one_more, rows_found, found_at}
use Rattle.type_check.specs.Inner.{Stands, operands_after, all_found_by, Finds, FindsAll}
use Rattle.type_check.proofs.Operand.{found, refused}
use Rattle.type_check.proofs.Rows.{rows_stop, rows_next}

-- What is found for those that are left, after these operands.
pub record Rest (T A S Z : Bytes) (s : Scope) (o : Operands) (q : Rows) (r : Option Operands) : Type 0 where
  pub by_rows : r ≡ rows_found (found_at T A S Z s.deep s.env) T o q.first q.count
  pub is : (rs : Rules) (e : ModelEnv) → HoldsAll T A s.deep q rs → Stands S Z s.env e → r ≡ all_found_by (accepts_all rs e) (operands_after o (types_for_all rs e))

module _ {T A S Z : Bytes} {s : Scope} where
  pub all_found : {o : Operands} {q : Rows} {r : Option Operands} → o ≡ no_operands → Rest T A S Z s o q r → FindsAll T A S Z q s r
  all_found {q = q} {r = r} a f =
      let y = subst (λ o. Rest T A S Z s o q r) a f in
      record { by_rows = y.by_rows; is = y.is }

  -- No operand is left.
  pub rest_done : (o : Operands) (q : Rows) → q.count ≡ 0 → Rest T A S Z s o q (Some o)
  unfolding accepts_all types_for_all
  rest_done o q n = record { by_rows = rw n; is = go }
    where
      go : (rs : Rules) (e : ModelEnv) → HoldsAll T A s.deep q rs → Stands S Z s.env e → Some o ≡ all_found_by (accepts_all rs e) (operands_after o (types_for_all rs e))
      go no_rules e k z = refl
      go (rule ρ rs) e k z = absurd (omega (arith, holds_count k))

  module _ (q : Rows) {x : Option TypeSet} (f : Finds T A S Z q.first s x) (more : 1 ≤ q.count) where
    -- The first is not accepted.
    pub rest_stops : (o : Operands) → x ≡ None → Rest T A S Z s o q None
    unfolding accepts_all types_for_all
    rest_stops o a = record { by_rows = rows_stop (found_at T A S Z s.deep s.env) T o q more f.by_rows a; is = go }
      where
        go : (rs : Rules) (e : ModelEnv) → HoldsAll T A s.deep q rs → Stands S Z s.env e → None ≡ all_found_by (accepts_all rs e) (operands_after o (types_for_all rs e))
        go no_rules e k z = absurd (omega (arith, holds_count k))
        go (rule ρ rs) e k z = rw (refused f a (holds_parts k).head z)

    -- It is: the others decide.
    pub rest_goes_on : (o : Operands) {t : TypeSet} {o₁ : Operands} {q₁ : Rows} {r : Option Operands} → x ≡ Some t → o₁ ≡ one_more o t → q₁ ≡ tail_of T q → Rest T A S Z s o₁ q₁ r → Rest T A S Z s o q r
    unfolding accepts_all types_for_all
    rest_goes_on o {t} {o₁} {q₁} {r} a b c d = record { by_rows = rows_next (found_at T A S Z s.deep s.env) T o q more f.by_rows a b c d.by_rows; is = go }
      where
        go : (rs : Rules) (e : ModelEnv) → HoldsAll T A s.deep q rs → Stands S Z s.env e → r ≡ all_found_by (accepts_all rs e) (operands_after o (types_for_all rs e))
        go no_rules e k z = absurd (omega (arith, holds_count k))
        go (rule ρ rs) e k z =
            let p = holds_parts k in
            let y = found f a p.head z in
            rw y.ok
            (d.is rs e (rw c p.rest) z ∙ ap (λ o. all_found_by (accepts_all rs e) (operands_after o (types_for_all rs e))) (b ∙ ap (one_more o) y.is))
