-- Unfold: the value that a handle stands for, down to some nesting, whatever the areas hold. Of a handle that means a value (Means.antt)
-- it is that value, if it nests no deeper.
use Rattle.std.specs.Prelude.{true, false, ℕ, zero, suc}
use Rattle.model.specs.Bytes.{Bytes}
use Rattle.model.specs.Instant.{in_range, from_year0}
use Rattle.model.specs.Value.{Value, scalar, instant, array, object, null, boolean, integer, string, Values, no_items, item, Members as ValueMembers, no_members, member}
use Rattle.syntax.specs.Layout.{unbiased}
use Rattle.heap.specs.declared.areas.Areas.{Areas as Lent}
use Rattle.heap.specs.declared.handle.Handle.{Handle}
use Rattle.heap.specs.declared.handle.Handle.TheVariants.{Null, False, True, Integer, Instant, String, Compound}
use Rattle.heap.specs.declared.handle.Form.{Form}
use Rattle.heap.specs.declared.handle.Form.TheVariants.{Items, Members, List, Context}
use Rattle.heap.specs.declared.handle.Parts.{Parts}
use Rattle.heap.specs.Parts.{head_of, tail_of, label_of, label_bytes}
use Rattle.heap.specs.Strings.{span_bytes}

-- The areas that handles refer to: the rule's strings, the record's strings, the record's table, the heap's cells.
pub record Areas : Type 0 where
  pub rule : Bytes
  pub strings : Bytes
  pub table : Bytes
  pub cells : Bytes

abbrev pub areas : Bytes → Bytes → Bytes → Bytes → Areas
areas A B T C = record { rule = A; strings = B; table = T; cells = C }

-- Those that are lent together.
abbrev pub areas_of : Lent → Areas
areas_of l = areas l.rule_strings.now l.record_strings.now l.record_table.now l.cells.now

-- The same areas with other cells.
abbrev pub with_cells : Areas → Bytes → Areas
with_cells a C = areas a.rule a.strings a.table C

-- Milliseconds since 0000-01-01; a number past the latest instant is null.
unfoldable pub instant_at : ℕ → Value
instant_at n = elim (in_range (from_year0 n)) [ true ↦ instant (from_year0 n) | false ↦ scalar null ]

-- So many parts, each unfolded by f.
unfoldable pub items_by : Areas → (Handle → Value) → ℕ → Parts → Values
items_by a f zero p = no_items
items_by a f (suc n) p = item (f (head_of a.table a.cells p)) (items_by a f n (tail_of a.table a.cells p))

unfoldable pub members_by : Areas → (Handle → Value) → ℕ → Parts → ValueMembers
members_by a f zero p = no_members
members_by a f (suc n) p =
    member (label_bytes a.strings (label_of a.table p)) (f (head_of a.table a.cells p)) (members_by a f n (tail_of a.table a.cells p))

-- An array or object whose parts are unfolded by f.
abbrev pub compound_by : Areas → (Handle → Value) → Form → Parts → Value
compound_by a f Items p = array (items_by a f p.count p)
compound_by a f Members p = object (members_by a f p.count p)
compound_by a f List p = array (items_by a f p.count p)
compound_by a f Context p = object (members_by a f p.count p)

abbrev pub opened : Areas → (Handle → Value) → Parts → Value
opened a f p = compound_by a f p.form p

abbrev pub value_by : Areas → (Handle → Value) → Handle → Value
value_by a f Null = scalar null
value_by a f False = scalar (boolean false)
value_by a f True = scalar (boolean true)
value_by a f (Integer n) = scalar (integer (unbiased n))
value_by a f (Instant n) = instant_at n
value_by a f (String s) = scalar (string (span_bytes a.rule a.strings s))
value_by a f (Compound p) = opened a f p

-- At the last nesting an array or object has null for each part.
unfoldable pub unfolded : Areas → ℕ → Handle → Value
unfolded a zero h = value_by a (λ x. scalar null) h
unfolded a (suc deep) h = value_by a (unfolded a deep) h
