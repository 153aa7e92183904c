-- Sheet: the types that a site states for the paths of its records; which values are sheets (none is refusal 14); which records fit.
use Rattle.std.specs.Prelude.{Bool, not, List, [], ◌∷◌, leb}
use Rattle.std.specs.Prelude.{Option, None, Some}
use Rattle.model.specs.Bytes.{Bytes, ascii, same_bytes}
use Rattle.model.specs.Limits.{max_sheet_members}
use Rattle.model.specs.Lists.{find, all}
use Rattle.model.specs.Option.{◌>>=◌, when}
use Rattle.model.specs.Path.{Path, path_of, value_at}
use Rattle.model.specs.Types.{Types, is_in, has_type}
use Rattle.model.specs.Value.{Value, scalar, instant, array, object, Values, no_items, item, Members, no_members, member, as_string, as_array, member_count}
use Rattle.model.specs.declared.Ty.{Ty}

-- For each path listed, its types.
abbrev pub Sheet : Type 0
Sheet = List (Path × Types)

-- The words as they are written.
abbrev pub words : List (Bytes × Ty)
words =
    (ascii "null", Ty.Null)
    ∷ (ascii "boolean", Ty.Boolean)
    ∷ (ascii "integer", Ty.Integer)
    ∷ (ascii "string", Ty.String)
    ∷ (ascii "date", Ty.Date)
    ∷ (ascii "day", Ty.Day)
    ∷ (ascii "integers", Ty.Integers)
    ∷ (ascii "strings", Ty.Strings)
    ∷ (ascii "array", Ty.Array)
    ∷ (ascii "object", Ty.Object)
    ∷ []

-- A string that is none of these is no word.
abbrev pub type_named : Bytes → Option Ty
type_named s = find (same_bytes s) words

-- "each content a non-empty array of distinct words"
abbrev pub types_of : Values → Option Types
types_of no_items = Some []
types_of (item v vs) = do
  s ← as_string v
  a ← type_named s
  ts ← types_of vs
  when (not (is_in ts a)) (Some (a ∷ ts))

-- A list, if it has an element.
abbrev pub non_empty : {A : Type 0} → List A → Option (List A)
non_empty [] = None
non_empty (a ∷ l) = Some (a ∷ l)

-- The types of a content.
abbrev pub content_types : Value → Option Types
content_types v = do
  vs ← as_array v
  ts ← types_of vs
  non_empty ts

-- "Each name is a non-empty `var` path"
abbrev pub entry_path : Bytes → Option Path
entry_path s = path_of s >>= non_empty

-- All members as entries, or none.
abbrev pub entries_of : Members → Option Sheet
entries_of no_members = Some []
entries_of (member name v ms) = do
  q ← entry_path name
  ts ← content_types v
  entries ← entries_of ms
  Some ((q, ts) ∷ entries)

-- "A sheet is an object of at most 256 members."
unfoldable pub sheet_of : Value → Option Sheet
sheet_of (scalar x) = None
sheet_of (instant t) = None
sheet_of (array vs) = None
sheet_of (object ms) = when (leb (member_count ms) max_sheet_members) (entries_of ms)

-- "A record fits if at each path its value, null where missing, belongs to a listed word."
abbrev pub fits : Sheet → Value → Bool
fits sheet c = all (λ entry. has_type entry.1 (value_at entry.0 c)) sheet
