-- Contract: what the functions on a sheet promise: their result for any bytes, `byRows`; and what it `is` where a sheet's table S and strings Z, and a record's table R and strings B, are as reading left them.
use Rattle.std.specs.Prelude.{Bool, ◌≡◌}
use Rattle.std.specs.Prelude.{Option, None, Some}
use Rattle.model.specs.Bytes.{Bytes}
use Rattle.model.specs.Option.{is_some}
use Rattle.model.specs.Path.{Path, path_of}
use Rattle.model.specs.Sheet.{Sheet, content_types, sheet_of, fits}
use Rattle.model.specs.TypeCheck.{outside, var_types}
use Rattle.model.specs.Types.{Types, has_type}
use Rattle.model.specs.Value.{Value}
use Rattle.table.specs.declared.node.Node.{Node}
use Rattle.table.specs.Denotes.{Denotes}
use Rattle.table.specs.Node.{node_at}
use Rattle.type_set.specs.declared.set.TypeSet.{TypeSet}
use Rattle.type_set.specs.Contract.{set_of, types_in}
use Rattle.sheet.specs.ByRows.{content_in, sheet_in, listed_for, belongs_in, fits_in}

-- The types of a content, as a set.
abbrev pub content_of : Option Types → Option TypeSet
content_of None = None
content_of (Some ts) = Some (set_of ts)

pub record Contains (S Z : Bytes) (n : Node) (r : Option TypeSet) : Type 0 where
  pub by_rows : r ≡ content_in S Z n
  pub is : (v : Value) → Denotes S Z v n → r ≡ content_of (content_types v)

-- 14: "the text reads, but is not a sheet".
pub record ChecksSheet (S Z : Bytes) (r : Bool) : Type 0 where
  pub by_rows : r ≡ sheet_in S Z (node_at S 0)
  pub is : (v : Value) → Denotes S Z v (node_at S 0) → r ≡ is_some (sheet_of v)

-- The areas hold the sheet.
pub record HoldsSheet (S Z : Bytes) (s : Sheet) : Type 0 where
  pub value : Value
  pub denotes : Denotes S Z value (node_at S 0)
  pub is_sheet_lem : sheet_of value ≡ Some s

-- 01, `var` outside a lambda. The path's text p is one of `var`.
pub record ListsFor (S Z p : Bytes) (r : TypeSet) : Type 0 where
  pub by_rows : r ≡ listed_for S Z p (node_at S 0)
  pub is : (s : Sheet) (q : Path) → HoldsSheet S Z s → path_of p ≡ Some q → r ≡ set_of (var_types (outside s) q)

-- A value of a record belongs to one of the types.
pub record Belongs (t : TypeSet) (R B : Bytes) (n : Node) (r : Bool) : Type 0 where
  pub by_rows : r ≡ belongs_in t R B n
  pub is : (v : Value) → Denotes R B v n → r ≡ has_type (types_in t) v

pub record Fits (S Z R B : Bytes) (r : Bool) : Type 0 where
  pub by_rows : r ≡ fits_in S Z R B (node_at S 0)
  pub is : (s : Sheet) (c : Value) → HoldsSheet S Z s → Denotes R B c (node_at R 0) → r ≡ fits s c
