-- Holds: the relation between a read table and the rule that it holds: one of its rows, and the rule that the value in it is.
use Rattle.std.specs.Prelude.{Some}
use Rattle.std.specs.Prelude.{◌≡◌, ℕ, suc, ◌≤◌, ◌<◌}
use Rattle.model.specs.Bytes.{Bytes}
use Rattle.model.specs.Limits.{max_values}
use Rattle.model.specs.Rule.{Rule, Rules, no_rules, rule}
use Rattle.model.specs.Shape.{shape, rules_of, operands_of}
use Rattle.model.specs.Size.{nesting, items_nesting}
use Rattle.model.specs.Value.{Value, array, Values}
use Rattle.table.specs.declared.node.Node.TheVariants.{Array}
use Rattle.table.specs.declared.node.Rows.{Rows}
use Rattle.table.specs.Denotes.{Denotes}
use Rattle.table.specs.Node.{node_at}

-- The rule r, nested no deeper than `deep`.
pub record Holds (T B : Bytes) (deep row : ℕ) (r : Rule) : Type 0 where
  pub within : row < max_values
  pub value : Value
  pub denotes : Denotes T B value (node_at T row)
  pub shaped : shape value ≡ Some r
  pub nests : nesting value ≤ deep

-- The rules of operands in an array, one after the other.
pub record HoldsAll (T B : Bytes) (deep : ℕ) (q : Rows) (rs : Rules) : Type 0 where
  pub values : Values
  pub denotes : Denotes T B (array values) (Array q)
  pub shaped : rules_of (operands_of values) ≡ Some rs
  pub nests : items_nesting values ≤ deep

-- How many rules there are.
abbrev pub rule_count : Rules → ℕ
rule_count no_rules = 0
rule_count (rule r rs) = suc (rule_count rs)
