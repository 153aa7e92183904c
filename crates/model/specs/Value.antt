-- Value: what a text reads as and what evaluation gives. A value is equal to another exactly when it is `≡` to it: the same kind and content,
-- strings byte by byte, instants by their milliseconds, arrays and objects part by part in order (01, Evaluation).
use Rattle.std.specs.Prelude.{Bool, true, false, ◌&&◌, ℕ, suc, eqb, ℤ, pos, negsuc, neg_ℤ}
use Rattle.std.specs.Bool.{beq}
use Rattle.std.specs.Prelude.{Option, None, Some}
use Rattle.std.specs.Int.Signed.{le_z}
use Rattle.model.specs.Bytes.{Bytes, same_bytes}
use Rattle.model.specs.Limits.{max_integer}
use Rattle.model.specs.Option.{is_some}

-- 01, Evaluation, `===`: "null, boolean, integer or string (a scalar)".
pub data Scalar : Type 0 where
  null : Scalar
  boolean : Bool → Scalar
  integer : ℤ → Scalar
  string : Bytes → Scalar

-- An instant is in milliseconds from 1970-01-01. Only evaluation gives one; that no text reads as one is proved in the crate syntax (`read-well-formed`).
mutual
  pub data Value : Type 0 where
    scalar : Scalar → Value
    instant : ℤ → Value
    array : Values → Value
    object : Members → Value

  -- The items of an array, in order.
  pub data Values : Type 0 where
    no_items : Values
    item : Value → Values → Values

  -- The members of an object, in the order of the text: a name and its content.
  pub data Members : Type 0 where
    no_members : Members
    member : Bytes → Value → Members → Members

-- ---- a value as one of a kind, or none where it is of another
abbrev pub as_scalar : Value → Option Scalar
as_scalar (scalar x) = Some x
as_scalar (instant t) = None
as_scalar (array vs) = None
as_scalar (object ms) = None

abbrev pub as_instant : Value → Option ℤ
as_instant (scalar x) = None
as_instant (instant t) = Some t
as_instant (array vs) = None
as_instant (object ms) = None

abbrev pub as_array : Value → Option Values
as_array (scalar x) = None
as_array (instant t) = None
as_array (array vs) = Some vs
as_array (object ms) = None

abbrev pub as_integer : Value → Option ℤ
as_integer (scalar null) = None
as_integer (scalar (boolean b)) = None
as_integer (scalar (integer z)) = Some z
as_integer (scalar (string s)) = None
as_integer (instant t) = None
as_integer (array vs) = None
as_integer (object ms) = None

abbrev pub as_string : Value → Option Bytes
as_string (scalar null) = None
as_string (scalar (boolean b)) = None
as_string (scalar (integer z)) = None
as_string (scalar (string s)) = Some s
as_string (instant t) = None
as_string (array vs) = None
as_string (object ms) = None

-- ---- kinds
abbrev pub is_null : Value → Bool
is_null (scalar null) = true
is_null (scalar (boolean b)) = false
is_null (scalar (integer z)) = false
is_null (scalar (string s)) = false
is_null (instant t) = false
is_null (array vs) = false
is_null (object ms) = false

abbrev pub is_boolean : Value → Bool
is_boolean (scalar null) = false
is_boolean (scalar (boolean b)) = true
is_boolean (scalar (integer z)) = false
is_boolean (scalar (string s)) = false
is_boolean (instant t) = false
is_boolean (array vs) = false
is_boolean (object ms) = false

abbrev pub is_object : Value → Bool
is_object (scalar x) = false
is_object (instant t) = false
is_object (array vs) = false
is_object (object ms) = true

abbrev pub is_integer : Value → Bool
is_integer v = is_some (as_integer v)

abbrev pub is_string : Value → Bool
is_string v = is_some (as_string v)

-- ---- scalars are equal when kind and content are
abbrev pub same_integer : ℤ → ℤ → Bool
same_integer (pos m) (pos n) = eqb m n
same_integer (pos m) (negsuc n) = false
same_integer (negsuc m) (pos n) = false
same_integer (negsuc m) (negsuc n) = eqb m n

abbrev pub same_scalar : Scalar → Scalar → Bool
same_scalar null null = true
same_scalar null (boolean b) = false
same_scalar null (integer z) = false
same_scalar null (string s) = false
same_scalar (boolean a) null = false
same_scalar (boolean a) (boolean b) = beq a b
same_scalar (boolean a) (integer z) = false
same_scalar (boolean a) (string s) = false
same_scalar (integer y) null = false
same_scalar (integer y) (boolean b) = false
same_scalar (integer y) (integer z) = same_integer y z
same_scalar (integer y) (string s) = false
same_scalar (string r) null = false
same_scalar (string r) (boolean b) = false
same_scalar (string r) (integer z) = false
same_scalar (string r) (string s) = same_bytes r s

-- ---- what holds of values
-- A test holds of every item.
abbrev pub all_items : (Value → Bool) → Values → Bool
all_items f no_items = true
all_items f (item v vs) = f v && all_items f vs

abbrev pub member_count : Members → ℕ
member_count no_members = 0
member_count (member name v ms) = suc (member_count ms)

-- 01, refusal 4: an integer not "beyond 9007199254740991 either way".
abbrev pub within_limits : ℤ → Bool
within_limits z = le_z (neg_ℤ (pos max_integer)) z && le_z z (pos max_integer)

-- No instant in it, at any depth. Whatever a text reads as is such (`read-well-formed` of the crate syntax).
unfoldable mutual
  pub instant_free : Value → Bool
  instant_free (scalar x) = true
  instant_free (instant t) = false
  instant_free (array vs) = instant_free_items vs
  instant_free (object ms) = instant_free_members ms

  pub instant_free_items : Values → Bool
  instant_free_items no_items = true
  instant_free_items (item v vs) = instant_free v && instant_free_items vs

  pub instant_free_members : Members → Bool
  instant_free_members no_members = true
  instant_free_members (member name v ms) = instant_free v && instant_free_members ms
