-- Inner: what the private functions do, `byRows` for any bytes; and what it `is` where a rule's table T and strings A, and a sheet's table S and strings Z, are as reading left them.
use Rattle.std.specs.Prelude.{Bool, true, false, List, [], ◌∷◌, ◌≡◌, ℕ, ◌-◌}
use Rattle.std.specs.Prelude.{Option, None, Some}
use Rattle.model.specs.Bytes.{Bytes}
use Rattle.model.specs.Path.{Path, path_of}
use Rattle.model.specs.Rule.{Rule, Rules, no_rules, rule}
use Rattle.model.specs.Sheet.{Sheet}
use Rattle.model.specs.TypeCheck.{Env as ModelEnv, outside, in_lambda, var_types, types_for, types_for_all, accepts, accepts_all}
use Rattle.model.specs.Types.{Types}
use Rattle.rule.specs.Holds.{Holds, HoldsAll}
use Rattle.sheet.specs.Contract.{HoldsSheet}
use Rattle.table.specs.declared.node.Rows.{Rows}
use Rattle.type_set.specs.declared.set.TypeSet.{TypeSet}
use Rattle.type_set.specs.Contract.{set_of}
use Rattle.type_check.specs.declared.env.Env.{Env}
use Rattle.type_check.specs.declared.env.Env.TheVariants.{Outside, Lambda}
use Rattle.type_check.specs.declared.env.Scope.{Scope}
use Rattle.type_check.specs.declared.operation.Operands.{Operands}
use Rattle.type_check.specs.ByRows.{var_by, no_operands, one_more, accepted_as, all_found, found_at}

-- ---- where a rule stands
-- In the model's terms.
pub data Stands (S Z : Bytes) : Env → ModelEnv → Type 0 where
  stands_outside : {s : Sheet} → HoldsSheet S Z s → Stands S Z Outside (outside s)
  stands_in_lambda : {cur acc : Types} {c a : TypeSet} → c ≡ set_of cur → a ≡ set_of acc → Stands S Z (Lambda c a) (in_lambda cur acc)

-- Its operands nest less deep.
abbrev pub inner_of : Scope → Scope
inner_of s = record { env = s.env; deep = s.deep - 1 }

-- ---- variables
-- The types of the variable at a path whose text is p.
pub record VarTypes (S Z p : Bytes) (env : Env) (r : TypeSet) : Type 0 where
  pub by_rows : r ≡ var_by S Z p env
  pub is : (e : ModelEnv) (q : Path) → Stands S Z env e → path_of p ≡ Some q → r ≡ set_of (var_types e q)

-- ---- the types of operands
-- These operands, and after them those with these types.
abbrev pub operands_after : Operands → List Types → Operands
operands_after o [] = o
operands_after o (ts ∷ l) = operands_after (one_more o (set_of ts)) l

-- ---- rules
-- Of a rule that is accepted or not, and has these types.
abbrev pub found_by : Bool → Types → Option TypeSet
found_by ok ts = accepted_as ok (set_of ts)

abbrev pub all_found_by : Bool → Operands → Option Operands
all_found_by true o = Some o
all_found_by false o = None

-- What is found for the rule in a row,
pub record Finds (T A S Z : Bytes) (row : ℕ) (s : Scope) (r : Option TypeSet) : Type 0 where
  pub by_rows : r ≡ found_at T A S Z s.deep s.env row
  pub is : (ρ : Rule) (e : ModelEnv) → Holds T A s.deep row ρ → Stands S Z s.env e → r ≡ found_by (accepts ρ e) (types_for ρ e)

-- for all operands,
pub record FindsAll (T A S Z : Bytes) (q : Rows) (s : Scope) (r : Option Operands) : Type 0 where
  pub by_rows : r ≡ all_found (found_at T A S Z s.deep s.env) T q
  pub is : (rs : Rules) (e : ModelEnv) → HoldsAll T A s.deep q rs → Stands S Z s.env e → r ≡ all_found_by (accepts_all rs e) (operands_after no_operands (types_for_all rs e))

-- and for the rule with these three operands.
pub record FindsThree (make : Rule → Rule → Rule → Rule) (by : (Env → ℕ → Option TypeSet) → Bytes → Env → Rows → Option TypeSet) (T A S Z : Bytes) (q : Rows) (s : Scope) (r : Option TypeSet) : Type 0 where
  pub by_rows : r ≡ by (found_at T A S Z s.deep) T s.env q
  pub is : (r₀ r₁ r₂ : Rule) (e : ModelEnv) → HoldsAll T A s.deep q (rule r₀ (rule r₁ (rule r₂ no_rules))) → Stands S Z s.env e → r ≡ found_by (accepts (make r₀ r₁ r₂) e) (types_for (make r₀ r₁ r₂) e)
