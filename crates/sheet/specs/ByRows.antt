-- ByRows: what the rows of a sheet's table S with strings Z, and of a record's table R with strings B, list, hold and fit, whatever these bytes are.
-- Contract says what it is where they denote values.
use Rattle.std.specs.Prelude.{Bool, true, false, ◌&&◌, ◌||◌, cond, [], ◌∷◌, ◌++◌, ℕ, zero, suc, eqb, leb}
use Rattle.std.specs.Prelude.{Option, None, Some}
use Rattle.model.specs.Bytes.{Bytes, same_bytes}
use Rattle.model.specs.DateText.{is_date, is_day}
use Rattle.model.specs.Limits.{max_sheet_members}
use Rattle.model.specs.Option.{◌>>=◌, is_some}
use Rattle.model.specs.Sheet.{type_named, entry_path}
use Rattle.model.specs.Types.{is_in, any_of_record}
use Rattle.model.specs.declared.Ty.{Ty}
use Rattle.paths.specs.Contract.{node_along, fragments}
use Rattle.table.specs.declared.node.Node.{Node}
use Rattle.table.specs.declared.node.Node.TheVariants.{Null, False, True, Integer, String, Array, Object}
use Rattle.table.specs.declared.node.Rows.{Rows}
use Rattle.table.specs.Node.{node_at, next_row, name_at, every_row}
use Rattle.table.specs.Strings.{bytes_of}
use Rattle.type_set.specs.declared.set.TypeSet.{TypeSet}
use Rattle.type_set.specs.Contract.{set_of, types_in}

-- The name of the member in a row.
abbrev pub name_in : Bytes → Bytes → ℕ → Bytes
name_in S Z row = bytes_of Z (name_at S row)

-- By the rows of an object's members, and what else it is.
abbrev pub of_object : {A : Type 0} → A → (Rows → A) → Node → A
of_object other f Null = other
of_object other f False = other
of_object other f True = other
of_object other f (Integer n) = other
of_object other f (String s) = other
of_object other f (Array q) = other
of_object other f (Object q) = f q

-- ---- the types of a content
-- The type that a string names.
abbrev pub type_in : Bytes → Node → Option Ty
type_in Z Null = None
type_in Z False = None
type_in Z True = None
type_in Z (Integer n) = None
type_in Z (String s) = type_named (bytes_of Z s)
type_in Z (Array q) = None
type_in Z (Object q) = None

-- "distinct words": a type more, unless it is there.
abbrev pub with_type : TypeSet → Ty → Option TypeSet
with_type s k = cond (is_in (types_in s) k) None (Some (set_of (types_in s ++ types_in (set_of (k ∷ [])))))

-- The types of a set, and those that so many rows name from a row on.
abbrev pub collect_in : Bytes → Bytes → TypeSet → ℕ → ℕ → Option TypeSet
collect_in S Z s row zero = Some s
collect_in S Z s row (suc n) = do
  k ← type_in Z (node_at S row)
  t ← with_type s k
  collect_in S Z t (next_row S row) n

-- "a non-empty array of distinct words"
abbrev pub words_in : Bytes → Bytes → Rows → Option TypeSet
words_in S Z q = cond (eqb q.count 0) None (collect_in S Z (set_of []) q.first q.count)

abbrev pub content_in : Bytes → Bytes → Node → Option TypeSet
content_in S Z Null = None
content_in S Z False = None
content_in S Z True = None
content_in S Z (Integer n) = None
content_in S Z (String s) = None
content_in S Z (Array q) = words_in S Z q
content_in S Z (Object q) = None

-- The types that there are.
abbrev pub types_listed : Option TypeSet → TypeSet
types_listed None = set_of []
types_listed (Some s) = s

-- ---- a sheet
-- The member in a row lists types for a path.
abbrev pub entry_in : Bytes → Bytes → ℕ → Bool
entry_in S Z row = is_some (entry_path (name_in S Z row)) && is_some (content_in S Z (node_at S row))

-- All members do, and they are not too many.
abbrev pub entries_in : Bytes → Bytes → Rows → Bool
entries_in S Z q = leb q.count max_sheet_members && every_row (entry_in S Z) S q.first q.count

abbrev pub sheet_in : Bytes → Bytes → Node → Bool
sheet_in S Z n = of_object false (entries_in S Z) n

-- The types of the member in a row; none where its content lists none.
abbrev pub types_at : Bytes → Bytes → ℕ → TypeSet
types_at S Z row = types_listed (content_in S Z (node_at S row))

-- Of so many members, those of the first whose name is the path's text p, else the six.
abbrev pub types_among : Bytes → Bytes → Bytes → ℕ → ℕ → TypeSet
types_among S Z p row zero = set_of any_of_record
types_among S Z p row (suc n) = cond (same_bytes p (name_in S Z row)) (types_at S Z row) (types_among S Z p (next_row S row) n)

abbrev pub listed_for : Bytes → Bytes → Bytes → Node → TypeSet
listed_for S Z p n = of_object (set_of any_of_record) (λ q. types_among S Z p q.first q.count) n

-- ---- what belongs to one of the types t
abbrev pub is_integer : Node → Bool
is_integer Null = false
is_integer False = false
is_integer True = false
is_integer (Integer n) = true
is_integer (String s) = false
is_integer (Array q) = false
is_integer (Object q) = false

abbrev pub is_string : Node → Bool
is_string Null = false
is_string False = false
is_string True = false
is_string (Integer n) = false
is_string (String s) = true
is_string (Array q) = false
is_string (Object q) = false

-- "arrays of nothing else"
abbrev pub every_item : (Node → Bool) → Bytes → Rows → Bool
every_item is R q = every_row (λ row. is (node_at R row)) R q.first q.count

-- Of a string's types the widest one in the set decides.
abbrev pub string_belongs : TypeSet → Bytes → Bool
string_belongs t s = cond t.string true (cond t.date (is_date s) (cond t.day (is_day s) false))

abbrev pub array_belongs : TypeSet → Bytes → Rows → Bool
array_belongs t R q = t.array || ((t.integers && every_item is_integer R q) || (t.strings && every_item is_string R q))

abbrev pub belongs_in : TypeSet → Bytes → Bytes → Node → Bool
belongs_in t R B Null = t.null
belongs_in t R B False = t.boolean
belongs_in t R B True = t.boolean
belongs_in t R B (Integer n) = t.integer
belongs_in t R B (String s) = string_belongs t (bytes_of B s)
belongs_in t R B (Array q) = array_belongs t R q
belongs_in t R B (Object q) = t.object

-- ---- what fits
-- The value at a path's text p, null where missing, belongs to one of the types.
abbrev pub fits_at : TypeSet → Bytes → Bytes → Bytes → Bool
fits_at t p R B = belongs_in t R B (node_along R B (fragments p) (node_at R 0))

-- It does for every member of the sheet; what is no object has none.
abbrev pub member_fits : Bytes → Bytes → Bytes → Bytes → ℕ → Bool
member_fits S Z R B row = fits_at (types_at S Z row) (name_in S Z row) R B

abbrev pub members_fit : Bytes → Bytes → Bytes → Bytes → Rows → Bool
members_fit S Z R B q = every_row (member_fits S Z R B) S q.first q.count

abbrev pub fits_in : Bytes → Bytes → Bytes → Bytes → Node → Bool
fits_in S Z R B n = of_object true (members_fit S Z R B) n
