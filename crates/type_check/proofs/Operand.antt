-- Operand: what is found for an operand.
use Rattle.std.specs.Prelude.{Option, None, Some}
use mathlib.Core.Bool.{Bool, true, false}
use mathlib.Core.Path.{◌≡◌, refl, sym, ◌∙◌}
use Prim.Native.Nat.{ℕ}
use Rattle.model.specs.Bytes.{Bytes}
use Rattle.model.proofs.Laws.Logic.{clash}
use Rattle.model.specs.Rule.{Rule}
use Rattle.model.specs.TypeCheck.{Env as ModelEnv, types_for, accepts}
use Rattle.rule.specs.Holds.{Holds}
use Rattle.type_set.specs.declared.set.TypeSet.{TypeSet}
use Rattle.type_set.specs.Contract.{set_of}
use Rattle.type_check.specs.declared.env.Scope.{Scope}
use Rattle.type_check.specs.ByRows.{accepted_as}
use Rattle.type_check.specs.Inner.{Stands, Finds}

-- Types are found: the rule is accepted, and they are its own.
pub record Accepts (ρ : Rule) (e : ModelEnv) (t : TypeSet) : Type 0 where
  pub ok : accepts ρ e ≡ true
  pub is : t ≡ set_of (types_for ρ e)

is_accepted : (b : Bool) (s : TypeSet) {t : TypeSet} → Some t ≡ accepted_as b s → (b ≡ true) × (t ≡ s)
is_accepted true s e = (refl, cc)
is_accepted false s e = clash cc

not_accepted_lem : (b : Bool) (s : TypeSet) → None ≡ accepted_as b s → b ≡ false
not_accepted_lem true s e = clash cc
not_accepted_lem false s e = refl

module _ {T A S Z : Bytes} {row : ℕ} {s : Scope} {x : Option TypeSet} (f : Finds T A S Z row s x) {ρ : Rule} {e : ModelEnv} where
  pub found : {t : TypeSet} → x ≡ Some t → Holds T A s.deep row ρ → Stands S Z s.env e → Accepts ρ e t
  found a k z =
      let (b, c) = is_accepted (accepts ρ e) (set_of (types_for ρ e)) (sym a ∙ f.is ρ e k z) in
      record { ok = b; is = c }

  pub refused : x ≡ None → Holds T A s.deep row ρ → Stands S Z s.env e → accepts ρ e ≡ false
  refused a k z = not_accepted_lem (accepts ρ e) (set_of (types_for ρ e)) (sym a ∙ f.is ρ e k z)
