-- Operations: what each operation gives on the values of its operands (01, Evaluation), or 7, 8 or 9.
-- The number of operands is fixed by the shape of a rule; what is given for another number is never seen.
use Rattle.std.specs.Prelude.{Bool, true, false, ◌&&◌, ◌||◌, cond, List, [], ◌∷◌, ℕ, zero, suc, eqb, ℤ, pos, negsuc, ◌+ℤ◌}
use Rattle.std.specs.Prelude.{Option}
use Rattle.std.specs.Int.Signed.{le_z, lt_z}
use Rattle.model.specs.Bytes.{Bytes, ascii, byte, same_bytes, split_on}
use Rattle.model.specs.DateText.{date_text, day_text}
use Rattle.model.specs.Option.{holds}
use Rattle.model.specs.declared.refusal.Fault.TheVariants.{WrongKind, OutOfRange}
use Rattle.model.specs.Result.{Result, ok, refuse, ◌>>=◌, required, provided}
use Rattle.model.specs.Rule.{Operation}
use Rattle.model.specs.Shift.{shift}
use Rattle.model.specs.Truth.{Truth, truthy, falsy, neither, truth}
use Rattle.model.specs.Value.{Value, scalar, instant, array, object, Scalar, null, boolean, integer, string, Values, no_items, item, as_scalar, as_integer, as_instant, as_array, as_string, same_scalar, within_limits}
use Rattle.model.specs.declared.Comparison.{Comparison}
use Rattle.model.specs.declared.Comparison.TheVariants.{Greater, Less, GreaterOrEqual, LessOrEqual}
use Rattle.model.specs.declared.TimeUnit.{TimeUnit}
use Rattle.model.specs.declared.Domain.{Domain}
use Rattle.model.specs.declared.Domain.TheVariants.{OnIntegers, OnInstants}

-- The value of the one operand, of the two.
abbrev pub unary : (Value → Result Value) → Values → Result Value
unary f no_items = refuse WrongKind
unary f (item a no_items) = f a
unary f (item a (item b vs)) = refuse WrongKind

abbrev pub binary : (Value → Value → Result Value) → Values → Result Value
binary f no_items = refuse WrongKind
binary f (item a no_items) = refuse WrongKind
binary f (item a (item b no_items)) = f a b
binary f (item a (item b (item c vs))) = refuse WrongKind

abbrev pub bool : Bool → Value
bool b = scalar (boolean b)

-- ---- scalars
-- "`===`: both sides null, boolean, integer or string (a scalar), else 7; true when kind and content are equal."
abbrev pub equality : Value → Value → Result Value
equality a b = do
  x ← required WrongKind (as_scalar a)
  y ← required WrongKind (as_scalar b)
  ok (bool (same_scalar x y))

-- "`in`: a scalar, then an array, else 7; items that are no scalar equal nothing."
abbrev pub among : Scalar → Values → Bool
among x no_items = false
among x (item v vs) = holds (same_scalar x) (as_scalar v) || among x vs

abbrev pub membership : Value → Value → Result Value
membership a b = do
  x ← required WrongKind (as_scalar a)
  vs ← required WrongKind (as_array b)
  ok (bool (among x vs))

-- "`!`: an instant is 7."
abbrev pub negated : Truth → Result Value
negated truthy = ok (bool false)
negated falsy = ok (bool true)
negated neither = refuse WrongKind

-- ---- numbers
-- The numbers of a comparison's domain: integers, or the milliseconds of instants.
abbrev pub as_number : Domain → Value → Option ℤ
as_number OnIntegers v = as_integer v
as_number OnInstants v = as_instant v

-- All of them, or 7 where one is of another kind.
abbrev pub numbers : Domain → Values → Result (List ℤ)
numbers d no_items = ok []
numbers d (item v vs) = do
  n ← required WrongKind (as_number d v)
  ns ← numbers d vs
  ok (n ∷ ns)

abbrev pub compares : Comparison → ℤ → ℤ → Bool
compares Greater a b = lt_z b a
compares Less a b = lt_z a b
compares GreaterOrEqual a b = le_z b a
compares LessOrEqual a b = le_z a b

-- "With three operands: both neighbouring pairs hold."
abbrev pub chain : (ℤ → ℤ → Bool) → List ℤ → Bool
chain f [] = true
chain f (a ∷ []) = true
chain f (a ∷ b ∷ l) = f a b && chain f (b ∷ l)

-- Every kind is tested before any pair is compared.
abbrev pub comparison : Domain → Comparison → Values → Result Value
comparison d c vs = do
  ns ← numbers d vs
  ok (bool (chain (compares c) ns))

-- "`+` and the four signs need integers." Refusal 9: "a sum beyond the limits of 4".
abbrev pub sum : Value → Value → Result Value
sum a b = do
  m ← required WrongKind (as_integer a)
  n ← required WrongKind (as_integer b)
  provided (within_limits (m +ℤ n)) OutOfRange (ok (scalar (integer (m +ℤ n))))

-- ---- dates
-- "A non-string is 7, a bad text 8." "The text's own instant and the shifted one must both lie between, else 9."
abbrev pub plus_time : ℤ → TimeUnit → Value → Result Value
plus_time amount unit v = do
  s ← required WrongKind (as_string v)
  t ← date_text s
  r ← shift t amount unit
  ok (instant r)

-- "`dccDateOfBirth` takes the first three only"
abbrev pub date_of_birth : Value → Result Value
date_of_birth v = do
  s ← required WrongKind (as_string v)
  t ← day_text s
  ok (instant t)

-- ---- `extractFromUVCI`
-- "Split on / # :, drop the first two fragments if they are URN and UVCI".
abbrev pub is_uvci_separator : ℕ → Bool
is_uvci_separator x = eqb x (byte "/") || eqb x (byte "#") || eqb x (byte ":")

abbrev pub drop_prefix : List Bytes → List Bytes
drop_prefix [] = []
drop_prefix (a ∷ []) = a ∷ []
drop_prefix (a ∷ b ∷ l) = cond (same_bytes a (ascii "URN") && same_bytes b (ascii "UVCI")) l (a ∷ b ∷ l)

-- "the numbered one, or null"
abbrev pub nth_string : List Bytes → ℕ → Value
nth_string [] k = scalar null
nth_string (f ∷ l) zero = scalar (string f)
nth_string (f ∷ l) (suc k) = nth_string l k

abbrev pub fragment : List Bytes → ℤ → Value
fragment l (pos k) = nth_string l k
fragment l (negsuc k) = scalar null

-- "null gives null; a non-string is 7."
abbrev pub extract_from_uvci : ℤ → Value → Result Value
extract_from_uvci k (scalar null) = ok (scalar null)
extract_from_uvci k (scalar (boolean b)) = refuse WrongKind
extract_from_uvci k (scalar (integer z)) = refuse WrongKind
extract_from_uvci k (scalar (string s)) = ok (fragment (drop_prefix (split_on is_uvci_separator s)) k)
extract_from_uvci k (instant t) = refuse WrongKind
extract_from_uvci k (array vs) = refuse WrongKind
extract_from_uvci k (object ms) = refuse WrongKind

-- ---- all of them
-- "An array gives the list of its items' values."
abbrev pub operate : Operation → Values → Result Value
operate Operation.array vs = ok (array vs)
operate Operation.equal vs = binary equality vs
operate Operation.member_of vs = binary membership vs
operate Operation.plus vs = binary sum vs
operate Operation.not vs = unary (λ v. negated (truth v)) vs
operate Operation.date_of_birth vs = unary date_of_birth vs
operate (Operation.compare d c) vs = comparison d c vs
operate (Operation.plus_time amount unit) vs = unary (plus_time amount unit) vs
operate (Operation.extract_from_uvci k) vs = unary (extract_from_uvci k) vs
