-- Contract: what stands at a row of a rule's table, and the rule of which that is the outermost part.
use Rattle.std.specs.Prelude.{true, false, ◌≡◌, ℕ, suc, ◌-◌, ◌≤◌, ℤ}
use Rattle.std.specs.Prelude.{Option, None, Some}
use Rattle.std.proofs.Math.Dec as dec
use Rattle.model.specs.Bytes.{Bytes}
use Rattle.model.specs.Option.{◌>>=◌, is_some}
use Rattle.model.specs.Path.{Path, path_of}
use Rattle.model.specs.Rule.{Literal as ModelLiteral, Operation, Rule, literal, var, if, and, reduce, apply, Rules, no_rules, rule}
use Rattle.model.specs.Shape.{shape, rules_of, operands_of}
use Rattle.model.specs.Size.{nesting, items_nesting}
use Rattle.model.specs.Value.{Value, scalar, array, object, Scalar, string, Values, no_members, member, within_limits}
use Rattle.syntax.specs.Layout.{biased}
use Rattle.keywords.specs.declared.Op.{Op}
use Rattle.keywords.specs.Contract.{Stands}
use Rattle.table.specs.declared.node.Node.TheVariants.{Array}
use Rattle.table.specs.declared.node.Rows.{Rows}
use Rattle.table.specs.declared.row.Span.{Span}
use Rattle.table.specs.Denotes.{Denotes, Lies}
use Rattle.table.specs.Strings.{bytes_of}
use Rattle.rule.specs.declared.view.Literal.{Literal}
use Rattle.rule.specs.declared.view.Literal.TheVariants as Literals
use Rattle.rule.specs.declared.view.View.{View}
use Rattle.rule.specs.declared.view.View.TheVariants as Views
use Rattle.rule.specs.Holds.{Holds, HoldsAll, rule_count}
use Rattle.rule.specs.View.{view_at}

-- A literal of the model, its string in the rule's strings B.
pub data Spells (B : Bytes) : Literal → ModelLiteral → Type 0 where
  spells_false : Spells B Literals.False (ModelLiteral.boolean false)
  spells_true : Spells B Literals.True (ModelLiteral.boolean true)
  spells_integer : {n : ℕ} {z : ℤ} → dec.T (within_limits z) → n ≡ biased z → Spells B (Literals.Integer n) (ModelLiteral.integer z)
  spells_string : {p : Span} {s : Bytes} → Lies B p.start p.size s → Spells B (Literals.String p) (ModelLiteral.string s)

-- A view of the rule, which nests no deeper than `deep`: its operands nest less deep.
pub data Viewed (T B : Bytes) (deep : ℕ) : View → Rule → Type 0 where
  viewed_literal : {g : Literal} {l : ModelLiteral} → Spells B g l → Viewed T B deep (Views.Literal g) (literal l)
  viewed_var : {p : Span} {q : Path} → path_of (bytes_of B p) ≡ Some q → Viewed T B deep (Views.Var p) (var q)
  viewed_if : {q : Rows} {r₀ r₁ r₂ : Rule} → HoldsAll T B (deep - 1) q (rule r₀ (rule r₁ (rule r₂ no_rules))) → Viewed T B deep (Views.If q) (if r₀ r₁ r₂)
  viewed_and : {q : Rows} {r : Rule} {rs : Rules} → HoldsAll T B (deep - 1) q (rule r rs) → Viewed T B deep (Views.And q) (and r rs)
  viewed_reduce : {q : Rows} {r₀ r₁ r₂ : Rule} → HoldsAll T B (deep - 1) q (rule r₀ (rule r₁ (rule r₂ no_rules))) → Viewed T B deep (Views.Reduce q) (reduce r₀ r₁ r₂)
  viewed_apply : {op : Op} {o : Operation} {q : Rows} {rs : Rules} → Stands op o q.count → HoldsAll T B (deep - 1) q rs → Viewed T B deep (Views.Apply op q) (apply o rs)

-- How deep the operands of a view nest at least: one less than the rule.
abbrev pub nested : View → ℕ
nested (Views.Literal l) = 0
nested (Views.Var p) = 0
nested (Views.If q) = 1
nested (Views.And q) = 1
nested (Views.Reduce q) = 1
nested (Views.Apply op q) = 1

-- What `view_at` promises: the view of any bytes; what it is of every rule that the row holds; and that operations are seen only where a nesting is left.
pub record ViewsAs (T B : Bytes) (row deep : ℕ) (r : View) : Type 0 where
  pub is : r ≡ view_at T B row deep
  pub viewed : (ρ : Rule) → Holds T B deep row ρ → Viewed T B deep r ρ
  pub bound : nested r ≤ deep

-- ---- any value, be it a rule or not
-- The rule of an operation and the rules that its operands are.
pub data Built : View → Rows → Rules → Rule → Type 0 where
  built_if : {q : Rows} {r₀ r₁ r₂ : Rule} → Built (Views.If q) q (rule r₀ (rule r₁ (rule r₂ no_rules))) (if r₀ r₁ r₂)
  built_and : {q : Rows} {r : Rule} {rs : Rules} → Built (Views.And q) q (rule r rs) (and r rs)
  built_reduce : {q : Rows} {r₀ r₁ r₂ : Rule} → Built (Views.Reduce q) q (rule r₀ (rule r₁ (rule r₂ no_rules))) (reduce r₀ r₁ r₂)
  built_apply : {op : Op} {o : Operation} {q : Rows} {rs : Rules} → Stands op o (rule_count rs) → Built (Views.Apply op q) q rs (apply o rs)

pub record Builds (v : Value) (w : View) (q : Rows) (rs : Rules) : Type 0 where
  pub whole : Rule
  pub shaped : shape v ≡ Some whole
  pub built : Built w q rs whole

-- The operands of a view.
pub data Has : View → Rows → Type 0 where
  has_if : {q : Rows} → Has (Views.If q) q
  has_and : {q : Rows} → Has (Views.And q) q
  has_reduce : {q : Rows} → Has (Views.Reduce q) q
  has_apply : {op : Op} {q : Rows} → Has (Views.Apply op q) q

-- The items of an array, or of the array that is the content of an object's single member.
pub data Lists : Value → Values → Type 0 where
  lists_array : {vs : Values} → Lists (array vs) vs
  lists_content : {n : Bytes} {vs : Values} → Lists (object (member n (array vs) no_members)) vs

-- The value is a rule exactly when its operands, less deep, all are. Its other items are bare: an integer, or an integer and a unit.
pub record Operates (T B : Bytes) (v : Value) (w : View) (q : Rows) : Type 0 where
  pub has : Has w q
  pub operands : Values
  pub denotes : Denotes T B (array operands) (Array q)
  pub listed : Values
  pub lists : Lists v listed
  pub bare : is_some (rules_of (operands_of listed)) ≡ is_some (rules_of (operands_of operands))
  pub nests : suc (items_nesting operands) ≤ nesting v
  pub refused : rules_of (operands_of operands) ≡ None → shape v ≡ None
  pub builds : (rs : Rules) → rules_of (operands_of operands) ≡ Some rs → Builds v w q rs

-- What a value has the shape of (Laws/Objects.antt: object_views).
pub data Shaped (T B : Bytes) (v : Value) : Option View → Type 0 where
  shaped_none : shape v ≡ None → Shaped T B v None
  shaped_literal : {g : Literal} {l : ModelLiteral} {x : Scalar} → v ≡ scalar x → shape v ≡ Some (literal l) → Spells B g l → Shaped T B v (Some (Views.Literal g))
  shaped_var : {p : Span} {n s : Bytes} → v ≡ object (member n (scalar (string s)) no_members) → shape v ≡ (path_of (bytes_of B p) >>= λ q. Some (var q)) → Shaped T B v (Some (Views.Var p))
  shaped_operation : {w : View} {q : Rows} → Operates T B v w q → Shaped T B v (Some w)
