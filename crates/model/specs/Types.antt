-- Types: document 01's words (Sheets and kinds): what belongs to each, and which passes where another is allowed.
use Rattle.std.specs.Prelude.{Bool, cond, List, [], ◌∷◌, ℕ, ◌+◌, ◌^◌, eqb}
use Rattle.model.specs.DateText.{is_date, is_day}
use Rattle.model.specs.Lists.{any, all}
use Rattle.model.specs.Option.{is_some, holds}
use Rattle.model.specs.Value.{Value, as_string, as_instant, as_array, all_items, is_null, is_boolean, is_integer, is_string, is_object}
use Rattle.model.specs.declared.Ty.{Ty}

-- A set of types, the paper's "words" (declared in src/lib.rt: Ty), which may list one twice.
abbrev pub Types : Type 0
Types = List Ty

-- ---- what belongs to a type
-- "null, boolean, integer, string, date (a string in one of the nineteen forms, instant in range), day (one of the first three),
-- integers, strings (arrays of nothing else), array, object"; "to instant exactly when it is one".
abbrev pub belongs : Value → Ty → Bool
belongs v Ty.Null = is_null v
belongs v Ty.Boolean = is_boolean v
belongs v Ty.Integer = is_integer v
belongs v Ty.String = is_string v
belongs v Ty.Date = holds is_date (as_string v)
belongs v Ty.Day = holds is_day (as_string v)
belongs v Ty.Integers = holds (all_items is_integer) (as_array v)
belongs v Ty.Strings = holds (all_items is_string) (as_array v)
belongs v Ty.Array = is_some (as_array v)
belongs v Ty.Object = is_object v
belongs v Ty.Instant = is_some (as_instant v)

-- The value belongs to one of the types.
abbrev pub has_type : Types → Value → Bool
has_type ts v = any (belongs v) ts

-- ---- what passes
-- A number for each type, in the paper's order.
abbrev pub ty_number : Ty → ℕ
ty_number Ty.Null = 0
ty_number Ty.Boolean = 1
ty_number Ty.Integer = 2
ty_number Ty.String = 3
ty_number Ty.Date = 4
ty_number Ty.Day = 5
ty_number Ty.Integers = 6
ty_number Ty.Strings = 7
ty_number Ty.Array = 8
ty_number Ty.Object = 9
ty_number Ty.Instant = 10

abbrev pub same_ty : Ty → Ty → Bool
same_ty a b = eqb (ty_number a) (ty_number b)

-- A type and the wider ones: "A day is also a date and a string; a date a string; integers and strings are arrays."
abbrev pub supertypes : Ty → Types
supertypes Ty.Null = Ty.Null ∷ []
supertypes Ty.Boolean = Ty.Boolean ∷ []
supertypes Ty.Integer = Ty.Integer ∷ []
supertypes Ty.String = Ty.String ∷ []
supertypes Ty.Date = Ty.Date ∷ Ty.String ∷ []
supertypes Ty.Day = Ty.Day ∷ Ty.Date ∷ Ty.String ∷ []
supertypes Ty.Integers = Ty.Integers ∷ Ty.Array ∷ []
supertypes Ty.Strings = Ty.Strings ∷ Ty.Array ∷ []
supertypes Ty.Array = Ty.Array ∷ []
supertypes Ty.Object = Ty.Object ∷ []
supertypes Ty.Instant = Ty.Instant ∷ []

abbrev pub is_in : Types → Ty → Bool
is_in ts a = any (same_ty a) ts

-- "A word passes where it or a wider one is allowed."
abbrev pub passes : Types → Types → Bool
passes ts allowed = all (λ a. any (is_in allowed) (supertypes a)) ts

-- ---- sets that the paper names
-- "null, boolean, integer, string, array, object": whatever a record holds belongs to one of them.
abbrev pub any_of_record : Types
any_of_record = Ty.Null ∷ Ty.Boolean ∷ Ty.Integer ∷ Ty.String ∷ Ty.Array ∷ Ty.Object ∷ []

-- "those six and instant": every value belongs to one of them.
abbrev pub any_value : Types
any_value = Ty.Null ∷ Ty.Boolean ∷ Ty.Integer ∷ Ty.String ∷ Ty.Array ∷ Ty.Object ∷ Ty.Instant ∷ []

-- "null, boolean, integer or string (a scalar)"
abbrev pub scalars : Types
scalars = Ty.Null ∷ Ty.Boolean ∷ Ty.Integer ∷ Ty.String ∷ []

-- ---- a set of types as a number: bit k stands for the type with the number k
abbrev pub all_types : Types
all_types = Ty.Null ∷ Ty.Boolean ∷ Ty.Integer ∷ Ty.String ∷ Ty.Date ∷ Ty.Day ∷ Ty.Integers ∷ Ty.Strings ∷ Ty.Array ∷ Ty.Object ∷ Ty.Instant ∷ []

abbrev sum_bits : Types → Types → ℕ
sum_bits ts [] = 0
sum_bits ts (a ∷ l) = cond (is_in ts a) (2 ^ ty_number a) 0 + sum_bits ts l

abbrev pub type_bits : Types → ℕ
type_bits ts = sum_bits ts all_types
