-- Inner: what the private functions do.
use Rattle.std.specs.Prelude.{Bool, ◌&&◌, cond, ◌++◌, ◌≡◌, ℕ, leb}
use Rattle.std.specs.Prelude.{Option, None, Some}
use Rattle.model.specs.Bytes.{Bytes}
use Rattle.model.specs.Limits.{max_sheet_members}
use Rattle.model.specs.Lists.{any}
use Rattle.model.specs.Option.{◌>>=◌, is_some, when}
use Rattle.model.specs.Path.{Path, path_of, value_at}
use Rattle.model.specs.Sheet.{Sheet, type_named, types_of, content_types, entry_path, entries_of, fits}
use Rattle.model.specs.TypeCheck.{outside, var_types}
use Rattle.model.specs.Types.{Types, is_in, has_type}
use Rattle.model.specs.declared.Ty.{Ty}
use Rattle.model.specs.Value.{Value, array, object, Values, Members, as_string, member_count}
use Rattle.table.specs.declared.node.Node.{Node}
use Rattle.table.specs.declared.node.Node.TheVariants.{Array, Object}
use Rattle.table.specs.declared.node.Rows.{Rows}
use Rattle.table.specs.Denotes.{Denotes}
use Rattle.table.specs.Node.{node_at, name_at, every_row}
use Rattle.table.specs.Strings.{bytes_of}
use Rattle.type_set.specs.declared.set.TypeSet.{TypeSet}
use Rattle.type_set.specs.Contract.{set_of, types_in}
use Rattle.sheet.specs.ByRows.{type_in, collect_in, words_in, entry_in, entries_in, types_at, types_among, fits_at, members_fit}
use Rattle.sheet.specs.Contract.{content_of}

-- ---- contents
-- The type that a string names.
pub record NamesType (Z : Bytes) (n : Node) (r : Option Ty) : Type 0 where
  pub by_rows : r ≡ type_in Z n
  pub is : (S : Bytes) (v : Value) → Denotes S Z v n → r ≡ (as_string v >>= type_named)

-- The types of a set and others, each there once.
abbrev pub joined : TypeSet → Option Types → Option TypeSet
joined s None = None
joined s (Some ts) = cond (any (is_in (types_in s)) ts) None (Some (set_of (types_in s ++ ts)))

-- The types of a set and of an array's items.
pub record Collects (S Z : Bytes) (s : TypeSet) (q : Rows) (r : Option TypeSet) : Type 0 where
  pub by_rows : r ≡ collect_in S Z s q.first q.count
  pub is : (vs : Values) → Denotes S Z (array vs) (Array q) → r ≡ joined s (types_of vs)

-- "a non-empty array of distinct words"
pub record ListsWords (S Z : Bytes) (q : Rows) (r : Option TypeSet) : Type 0 where
  pub by_rows : r ≡ words_in S Z q
  pub is : (vs : Values) → Denotes S Z (array vs) (Array q) → r ≡ content_of (content_types (array vs))

-- ---- members
-- The types of the member in a row.
pub record ListsTypes (S Z : Bytes) (row : ℕ) (r : TypeSet) : Type 0 where
  pub by_rows : r ≡ types_at S Z row
  pub is : (v : Value) (ts : Types) → Denotes S Z v (node_at S row) → content_types v ≡ Some ts → r ≡ set_of ts

-- Whether the member in a row lists types for a path.
pub record ChecksEntry (S Z : Bytes) (row : ℕ) (r : Bool) : Type 0 where
  pub by_rows : r ≡ entry_in S Z row
  pub is : (v : Value) → Denotes S Z v (node_at S row) → r ≡ is_some (entry_path (bytes_of Z (name_at S row))) && is_some (content_types v)

-- Whether all members do.
pub record ChecksEntries (S Z : Bytes) (q : Rows) (r : Bool) : Type 0 where
  pub by_rows : r ≡ every_row (entry_in S Z) S q.first q.count
  pub is : (ms : Members) → Denotes S Z (object ms) (Object q) → r ≡ is_some (entries_of ms)

-- Whether an object is a sheet: all members do, and they are not too many.
pub record ChecksObject (S Z : Bytes) (q : Rows) (r : Bool) : Type 0 where
  pub by_rows : r ≡ entries_in S Z q
  pub is : (ms : Members) → Denotes S Z (object ms) (Object q) → r ≡ is_some (when (leb (member_count ms) max_sheet_members) (entries_of ms))

-- The types of a path's text t among members.
pub record ListsAmong (S Z t : Bytes) (q : Rows) (r : TypeSet) : Type 0 where
  pub by_rows : r ≡ types_among S Z t q.first q.count
  pub is :
      (ms : Members) → Denotes S Z (object ms) (Object q)
      → (s : Sheet) (p : Path) → entries_of ms ≡ Some s → path_of t ≡ Some p → r ≡ set_of (var_types (outside s) p)

-- ---- what fits: a record in the table R and the strings B
-- The value at a path's text t belongs to one of the types.
pub record FitsEntry (t : Bytes) (listed : TypeSet) (R B : Bytes) (r : Bool) : Type 0 where
  pub by_rows : r ≡ fits_at listed t R B
  pub is : (p : Path) (c : Value) → path_of t ≡ Some p → Denotes R B c (node_at R 0) → r ≡ has_type (types_in listed) (value_at p c)

-- The record fits every entry of the members.
pub record FitsAll (S Z : Bytes) (q : Rows) (R B : Bytes) (r : Bool) : Type 0 where
  pub by_rows : r ≡ members_fit S Z R B q
  pub is :
      (ms : Members) → Denotes S Z (object ms) (Object q)
      → (s : Sheet) (c : Value) → entries_of ms ≡ Some s → Denotes R B c (node_at R 0) → r ≡ fits s c
