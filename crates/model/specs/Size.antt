-- Size: a value's number of values and depth of nesting, and which answers are refused with 11.
use Rattle.std.specs.Prelude.{Bool, ◌||◌, ℕ, suc, ◌+◌, max, ltb, length}
use Rattle.model.specs.Limits.{max_text_bytes, max_values, max_nesting}
use Rattle.model.specs.Value.{Value, scalar, instant, array, object, Values, no_items, item, Members, no_members, member}
use Rattle.model.specs.Writing.{value_text}

-- "Names are not values."
unfoldable mutual
  pub value_count : Value → ℕ
  value_count (scalar x) = 1
  value_count (instant t) = 1
  value_count (array vs) = suc (items_count vs)
  value_count (object ms) = suc (members_count ms)

  pub items_count : Values → ℕ
  items_count no_items = 0
  items_count (item v vs) = value_count v + items_count vs

  pub members_count : Members → ℕ
  members_count no_members = 0
  members_count (member name v ms) = value_count v + members_count ms

-- "arrays and objects nested"
unfoldable mutual
  pub nesting : Value → ℕ
  nesting (scalar x) = 0
  nesting (instant t) = 0
  nesting (array vs) = suc (items_nesting vs)
  nesting (object ms) = suc (members_nesting ms)

  pub items_nesting : Values → ℕ
  items_nesting no_items = 0
  items_nesting (item v vs) = max (nesting v) (items_nesting vs)

  pub members_nesting : Members → ℕ
  members_nesting no_members = 0
  members_nesting (member name v ms) = max (nesting v) (members_nesting ms)

-- 11: "the answer nests more than 32 deep, has over 1,024 values, or its text is over 16,384 bytes".
abbrev pub is_too_large : Value → Bool
is_too_large v = ltb max_nesting (nesting v) || (ltb max_values (value_count v) || ltb max_text_bytes (length (value_text v)))
