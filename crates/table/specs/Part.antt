-- Part: a value inside another, of any nesting, with the rows in which both begin.
use Rattle.std.specs.Prelude.{◌≡◌, ℕ, ◌+◌}
use Rattle.model.specs.Bytes.{Bytes}
use Rattle.model.specs.Size.{value_count}
use Rattle.model.specs.Value.{Value, array, object, Values, item, Members, member}

-- The value w, at row r, is the value at row i itself, or in an item or member of it.
mutual
  pub data Part (r : ℕ) (w : Value) : ℕ → Value → Type 0 where
    here : {i : ℕ} {v : Value} → r ≡ i → w ≡ v → Part r w i v
    in_array : {i : ℕ} {vs : Values} → PartOfItems r w (i + 1) vs → Part r w i (array vs)
    in_object : {i : ℕ} {ms : Members} → PartOfMembers r w (i + 1) ms → Part r w i (object ms)

  pub data PartOfItems (r : ℕ) (w : Value) : ℕ → Values → Type 0 where
    in_item : {i : ℕ} {v : Value} {vs : Values} → Part r w i v → PartOfItems r w i (item v vs)
    later_item : {i : ℕ} {v : Value} {vs : Values} → PartOfItems r w (i + value_count v) vs → PartOfItems r w i (item v vs)

  pub data PartOfMembers (r : ℕ) (w : Value) : ℕ → Members → Type 0 where
    in_member : {i : ℕ} {n : Bytes} {v : Value} {ms : Members} → Part r w i v → PartOfMembers r w i (member n v ms)
    later_member : {i : ℕ} {n : Bytes} {v : Value} {ms : Members} → PartOfMembers r w (i + value_count v) ms → PartOfMembers r w i (member n v ms)
