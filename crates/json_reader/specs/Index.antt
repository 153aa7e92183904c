-- Index: all objects of a value are indexed in a table in which the value has the row `at`.
use Rattle.std.specs.Prelude.{List, [], ◌∷◌, ℕ, ◌+◌}
use Rattle.model.specs.Bytes.{Bytes}
use Rattle.model.specs.Size.{value_count}
use Rattle.model.specs.Value.{Value, scalar, instant, array, object, Values, no_items, item, Members, no_members, member}
use Rattle.name_index.specs.Contract.{Entry, Indexed}

-- The rows and names of members, the first of which has the row `row`.
unfoldable pub entries_of : ℕ → Members → List Entry
entries_of row no_members = []
entries_of row (member n v ms) = record { row = row; name = n } ∷ entries_of (row + value_count v) ms

-- An object is indexed by its members, and each of them in turn.
unfoldable mutual
  pub IndexedValue : Bytes → ℕ → Value → Type 0
  IndexedValue T at (scalar x) = Unit {0}
  IndexedValue T at (instant t) = Unit {0}
  IndexedValue T at (array vs) = IndexedItems T (at + 1) vs
  IndexedValue T at (object ms) = IndexedMembers T (at + 1) ms × Indexed T (at + 1) (entries_of (at + 1) ms)

  pub IndexedItems : Bytes → ℕ → Values → Type 0
  IndexedItems T at no_items = Unit {0}
  IndexedItems T at (item v vs) = IndexedValue T at v × IndexedItems T (at + value_count v) vs

  pub IndexedMembers : Bytes → ℕ → Members → Type 0
  IndexedMembers T at no_members = Unit {0}
  IndexedMembers T at (member n v ms) = IndexedValue T at v × IndexedMembers T (at + value_count v) ms
