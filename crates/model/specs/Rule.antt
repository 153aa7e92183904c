-- Rule: the syntax tree of a rule.
use Rattle.std.specs.Prelude.{Bool, ℤ}
use Rattle.model.specs.Bytes.{Bytes}
use Rattle.model.specs.Path.{Path}
use Rattle.model.specs.Value.{Value, scalar, Scalar}
use Rattle.model.specs.declared.Comparison.{Comparison}
use Rattle.model.specs.declared.Domain.{Domain}
use Rattle.model.specs.declared.TimeUnit.{TimeUnit}

-- 01, Shape: "A boolean, integer or string". Null is no rule.
pub data Literal : Type 0 where
  boolean : Bool → Literal
  integer : ℤ → Literal
  string : Bytes → Literal

-- The operations that evaluate all their operands, left to right, before anything else. An array is one of them.
-- The bare integers and units of the last two operations are no operands.
pub data Operation : Type 0 where
  array : Operation
  equal : Operation  -- ===
  member_of : Operation  -- in
  plus : Operation  -- +
  not : Operation  -- !
  date_of_birth : Operation  -- dccDateOfBirth
  compare : Domain → Comparison → Operation
  plus_time : ℤ → TimeUnit → Operation
  extract_from_uvci : ℤ → Operation

mutual
  pub data Rule : Type 0 where
    literal : Literal → Rule
    var : Path → Rule
    if : Rule → Rule → Rule → Rule  -- guard, then, else
    and : Rule → Rules → Rule  -- the first operand and the others
    reduce : Rule → Rule → Rule → Rule  -- operand, lambda, initial
    apply : Operation → Rules → Rule

  pub data Rules : Type 0 where
    no_rules : Rules
    rule : Rule → Rules → Rules

-- The value of a literal.
abbrev pub literal_value : Literal → Value
literal_value (boolean b) = scalar (Scalar.boolean b)
literal_value (integer z) = scalar (Scalar.integer z)
literal_value (string s) = scalar (Scalar.string s)
