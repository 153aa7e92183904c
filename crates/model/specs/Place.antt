-- Place: the rules inside a rule and the values that hold them, and another one put in the place of one (01, Evaluation).
-- "An operand rule is a rule that stands as an operand, or as an item of an array rule, at any depth."
use Rattle.std.specs.Prelude.{[], ◌∷◌, ℕ, zero, suc}
use Rattle.std.specs.Prelude.{Option, None, Some}
use Rattle.model.specs.Option.{◌>>=◌}
use Rattle.model.specs.Path.{item_at}
use Rattle.model.specs.Rule.{Rule, literal, var, if, and, reduce, apply, Rules, no_rules, rule}
use Rattle.model.specs.Run.{Place}
use Rattle.model.specs.Value.{Value, scalar, instant, array, object, Values, no_items, item, no_members, member}

-- ---- in a rule
-- The operand rules of a rule by their positions. Paths, bare integers and units are none.
abbrev pub operands_in : Rule → Rules
operands_in (literal l) = no_rules
operands_in (var q) = no_rules
operands_in (if guard second third) = rule guard (rule second (rule third no_rules))
operands_in (and r rs) = rule r rs
operands_in (reduce r lambda initial) = rule r (rule lambda (rule initial no_rules))
operands_in (apply o rs) = rs

abbrev pub rule_at : Rules → ℕ → Option Rule
rule_at no_rules k = None
rule_at (rule r rs) zero = Some r
rule_at (rule r rs) (suc k) = rule_at rs k

-- The rule at a place, if one stands there. The root's place is empty.
abbrev pub subrule : Place → Rule → Option Rule
subrule [] r = Some r
subrule (k ∷ q) r = rule_at (operands_in r) k >>= subrule q

-- A rule with its operand at one position changed.
abbrev pub map_rule : Rules → ℕ → (Rule → Rule) → Rules
map_rule no_rules k f = no_rules
map_rule (rule r rs) zero f = rule (f r) rs
map_rule (rule r rs) (suc k) f = rule r (map_rule rs k f)

abbrev pub map_operand : Rule → ℕ → (Rule → Rule) → Rule
map_operand (literal l) k f = literal l
map_operand (var q) k f = var q
map_operand (if guard second third) zero f = if (f guard) second third
map_operand (if guard second third) (suc zero) f = if guard (f second) third
map_operand (if guard second third) (suc (suc zero)) f = if guard second (f third)
map_operand (if guard second third) (suc (suc (suc k))) f = if guard second third
map_operand (and r rs) zero f = and (f r) rs
map_operand (and r rs) (suc k) f = and r (map_rule rs k f)
map_operand (reduce r lambda initial) zero f = reduce (f r) lambda initial
map_operand (reduce r lambda initial) (suc zero) f = reduce r (f lambda) initial
map_operand (reduce r lambda initial) (suc (suc zero)) f = reduce r lambda (f initial)
map_operand (reduce r lambda initial) (suc (suc (suc k))) f = reduce r lambda initial
map_operand (apply o rs) k f = apply o (map_rule rs k f)

-- Another rule in the place of the one there.
abbrev pub replace : Place → Rule → Rule → Rule
replace [] new r = new
replace (k ∷ q) new r = map_operand r k (replace q new)

-- ---- in a value that is a rule: the operands are the items of an array, or of the array that is the content of an operation's member.
-- Among the items are the bare integers and units too, which are no operand rules: a place is one of a rule where `subrule` has it.
abbrev pub operand_values_in : Value → Values
operand_values_in (scalar x) = no_items
operand_values_in (instant t) = no_items
operand_values_in (array vs) = vs
operand_values_in (object no_members) = no_items
operand_values_in (object (member name (scalar x) ms)) = no_items
operand_values_in (object (member name (instant t) ms)) = no_items
operand_values_in (object (member name (array vs) ms)) = vs
operand_values_in (object (member name (object os) ms)) = no_items

abbrev pub subvalue : Place → Value → Option Value
subvalue [] v = Some v
subvalue (k ∷ q) v = item_at (operand_values_in v) k >>= subvalue q

abbrev pub map_item : Values → ℕ → (Value → Value) → Values
map_item no_items k f = no_items
map_item (item v vs) zero f = item (f v) vs
map_item (item v vs) (suc k) f = item v (map_item vs k f)

abbrev pub map_operand_value : Value → ℕ → (Value → Value) → Value
map_operand_value (scalar x) k f = scalar x
map_operand_value (instant t) k f = instant t
map_operand_value (array vs) k f = array (map_item vs k f)
map_operand_value (object no_members) k f = object no_members
map_operand_value (object (member name (scalar x) ms)) k f = object (member name (scalar x) ms)
map_operand_value (object (member name (instant t) ms)) k f = object (member name (instant t) ms)
map_operand_value (object (member name (array vs) ms)) k f = object (member name (array (map_item vs k f)) ms)
map_operand_value (object (member name (object os) ms)) k f = object (member name (object os) ms)

-- "To put another in its place, the bytes of that one value give way": the same of values.
abbrev pub replace_value : Place → Value → Value → Value
replace_value [] new v = new
replace_value (k ∷ q) new v = map_operand_value v k (replace_value q new)
