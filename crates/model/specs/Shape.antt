-- Shape: which values are rules, and the rule that each is (01, Shape of a rule). None is refusal 6.
-- The steps of each `do` stand in text order: the operation's name, the number of its operands, then these from left to right.
use Rattle.std.specs.Prelude.{◌&&◌, List, [], ◌∷◌, ℕ, leb, length}
use Rattle.std.specs.Prelude.{Option, None, Some}
use Rattle.model.specs.Bytes.{Bytes, ascii, same_bytes}
use Rattle.model.specs.Lists.{find}
use Rattle.model.specs.Option.{◌>>=◌, when}
use Rattle.model.specs.Path.{path_of}
use Rattle.model.specs.Rule.{Literal, Operation, Rule, literal, apply, Rules, no_rules, rule}
use Rattle.model.specs.Value.{Value, scalar, instant, array, object, Scalar, null, boolean, integer, string, Values, no_items, item, Members, no_members, member, as_integer, as_string}
use Rattle.model.specs.declared.Comparison.TheVariants.{Greater, Less, GreaterOrEqual, LessOrEqual}
use Rattle.model.specs.declared.TimeUnit.{TimeUnit}
use Rattle.model.specs.declared.TimeUnit.TheVariants.{Year, Month, Day, Hour}
use Rattle.model.specs.declared.Domain.TheVariants.{OnIntegers, OnInstants}

-- ---- names
-- How an operation is written. `counted least most o` has from `least` to `most` rules as operands.
pub data Keyword : Type 0 where
  var if reduce and plus_time extract_from_uvci : Keyword
  counted : ℕ → ℕ → Operation → Keyword

-- 01's table of operations. "The four date words, in the table's order, mean >, <, <=, >= on instants."
abbrev pub keywords : List (Bytes × Keyword)
keywords =
    (ascii "var", var)
    ∷ (ascii "if", if)
    ∷ (ascii "reduce", reduce)
    ∷ (ascii "===", counted 2 2 Operation.equal)
    ∷ (ascii "in", counted 2 2 Operation.member_of)
    ∷ (ascii "+", counted 2 2 Operation.plus)
    ∷ (ascii "and", and)
    ∷ (ascii ">", counted 2 3 (Operation.compare OnIntegers Greater))
    ∷ (ascii "<", counted 2 3 (Operation.compare OnIntegers Less))
    ∷ (ascii ">=", counted 2 3 (Operation.compare OnIntegers GreaterOrEqual))
    ∷ (ascii "<=", counted 2 3 (Operation.compare OnIntegers LessOrEqual))
    ∷ (ascii "after", counted 2 3 (Operation.compare OnInstants Greater))
    ∷ (ascii "before", counted 2 3 (Operation.compare OnInstants Less))
    ∷ (ascii "not-after", counted 2 3 (Operation.compare OnInstants LessOrEqual))
    ∷ (ascii "not-before", counted 2 3 (Operation.compare OnInstants GreaterOrEqual))
    ∷ (ascii "!", counted 1 1 Operation.not)
    ∷ (ascii "dccDateOfBirth", counted 1 1 Operation.date_of_birth)
    ∷ (ascii "plusTime", plus_time)
    ∷ (ascii "extractFromUVCI", extract_from_uvci)
    ∷ []

-- A name that is none of these is no operation.
abbrev pub keyword_named : Bytes → Option Keyword
keyword_named s = find (same_bytes s) keywords

-- "one of "year" "month" "day" "hour""
abbrev pub units : List (Bytes × TimeUnit)
units = (ascii "year", Year) ∷ (ascii "month", Month) ∷ (ascii "day", Day) ∷ (ascii "hour", Hour) ∷ []

abbrev pub unit_named : Bytes → Option TimeUnit
unit_named s = find (same_bytes s) units

-- ---- operands
-- An item of an array, with the rule that it is, if it is one.
pub record Operand : Type 0 where
  pub value : Value
  pub as_rule : Option Rule

-- The rules that all operands are.
abbrev pub rules_of : List Operand → Option Rules
rules_of [] = Some no_rules
rules_of (a ∷ l) = do
  r ← a.as_rule
  rs ← rules_of l
  Some (rule r rs)

-- What a function gives on exactly two elements, on exactly three; none for any other number.
abbrev pub exactly2 : {A B : Type 0} → List A → (A → A → Option B) → Option B
exactly2 [] f = None
exactly2 (a ∷ []) f = None
exactly2 (a ∷ b ∷ []) f = f a b
exactly2 (a ∷ b ∷ c ∷ l) f = None

abbrev pub exactly3 : {A B : Type 0} → List A → (A → A → A → Option B) → Option B
exactly3 [] f = None
exactly3 (a ∷ []) f = None
exactly3 (a ∷ b ∷ []) f = None
exactly3 (a ∷ b ∷ c ∷ []) f = f a b c
exactly3 (a ∷ b ∷ c ∷ d ∷ l) f = None

-- `and` of two or more rules.
abbrev pub and_of : Rules → Option Rule
and_of no_rules = None
and_of (rule r rs) = Some (Rule.and r rs)

-- The rule of a keyword and its operands; `var` has none.
abbrev pub with_operands : Keyword → List Operand → Option Rule
with_operands var l = None
with_operands if l =
    exactly3 l λ guard yes no. do
      g ← guard.as_rule
      a ← yes.as_rule
      b ← no.as_rule
      Some (Rule.if g a b)
with_operands reduce l =
    exactly3 l λ operand lambda initial. do
      a ← operand.as_rule
      f ← lambda.as_rule
      i ← initial.as_rule
      Some (Rule.reduce a f i)
with_operands and l = when (leb 2 (length l)) (rules_of l >>= and_of)
with_operands plus_time l =
    exactly3 l λ operand amount unit. do
      r ← operand.as_rule
      n ← as_integer amount.value
      s ← as_string unit.value
      u ← unit_named s
      Some (apply (Operation.plus_time n u) (rule r no_rules))
with_operands extract_from_uvci l =
    exactly2 l λ operand index. do
      r ← operand.as_rule
      n ← as_integer index.value
      Some (apply (Operation.extract_from_uvci n) (rule r no_rules))
with_operands (counted least most o) l =
    when (leb least (length l) && leb (length l) most) (do
      rs ← rules_of l
      Some (apply o rs))

-- 01: `var` takes "a string itself, not an array".
abbrev pub with_string : Keyword → Bytes → Option Rule
with_string var s = do
  q ← path_of s
  Some (Rule.var q)
with_string if s = None
with_string reduce s = None
with_string and s = None
with_string plus_time s = None
with_string extract_from_uvci s = None
with_string (counted least most o) s = None

-- ---- values
-- What stands as the content of an operation's member.
pub data Content : Type 0 where
  text : Bytes → Content
  list : List Operand → Content
  other : Content

-- A string is the operand of `var`; no other scalar stands as content.
abbrev pub scalar_content : Scalar → Content
scalar_content null = other
scalar_content (boolean b) = other
scalar_content (integer z) = other
scalar_content (string s) = text s

-- `var` wants a string, every other keyword operands in an array.
abbrev pub build : Content → Keyword → Option Rule
build (text s) o = with_string o s
build (list l) o = with_operands o l
build other o = None

-- "A boolean, integer or string"; "Null is no rule."
abbrev pub literal_shape : Scalar → Option Rule
literal_shape null = None
literal_shape (boolean b) = Some (literal (Literal.boolean b))
literal_shape (integer z) = Some (literal (Literal.integer z))
literal_shape (string s) = Some (literal (Literal.string s))

-- 01: "A boolean, integer or string; an array of rules (possibly empty); or an object with exactly one member, named for an operation,
-- with these operands in an array." "Null is no rule."
unfoldable mutual
  pub shape : Value → Option Rule
  shape (scalar x) = literal_shape x
  shape (instant t) = None
  shape (array vs) = do
    rs ← rules_of (operands_of vs)
    Some (apply Operation.array rs)
  shape (object ms) = object_shape ms

  -- Each item of an array as an operand.
  pub operands_of : Values → List Operand
  operands_of no_items = []
  operands_of (item v vs) = record { value = v; as_rule = shape v } ∷ operands_of vs

  -- "An object must yield its single member, or else it is refused with 6."
  pub object_shape : Members → Option Rule
  object_shape no_members = None
  object_shape (member name v no_members) = keyword_named name >>= build (content_of v)
  object_shape (member name v (member name₂ v₂ ms)) = None

  -- A string, or operands in an array.
  pub content_of : Value → Content
  content_of (scalar x) = scalar_content x
  content_of (instant t) = other
  content_of (array vs) = list (operands_of vs)
  content_of (object ms) = other
