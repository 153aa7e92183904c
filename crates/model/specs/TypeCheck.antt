-- TypeCheck: the kind check (01, Sheets and kinds): the types found for a rule, and whether it is accepted. A rule not accepted is refusal 13.
use Rattle.std.specs.Prelude.{Bool, true, false, ◌&&◌, cond, List, [], ◌∷◌, ◌++◌}
use Rattle.std.specs.Prelude.{Option, Some}
use Rattle.model.specs.Bytes.{same_bytes}
use Rattle.model.specs.DateText.{is_date, is_day}
use Rattle.model.specs.Eval.{current, accumulator}
use Rattle.model.specs.Lists.{find, all}
use Rattle.model.specs.Option.{when, or_else}
use Rattle.model.specs.Path.{Path, same_path}
use Rattle.model.specs.Rule.{Literal, Operation, Rule, literal, var, if, and, reduce, apply, Rules, no_rules, rule}
use Rattle.model.specs.Sheet.{Sheet}
use Rattle.model.specs.Types.{Types, passes, scalars, any_of_record, any_value}
use Rattle.model.specs.declared.Domain.{Domain}
use Rattle.model.specs.declared.Domain.TheVariants.{OnIntegers, OnInstants}
use Rattle.model.specs.declared.Ty.{Ty}

-- ---- variables
-- Where a rule stands: outside every lambda, under a sheet; or in a lambda, with the types of `current` and `accumulator`.
pub data Env : Type 0 where
  outside : Sheet → Env
  in_lambda : Types → Types → Env

-- "`current` and `accumulator` have their sets"; "a longer path from either has those six and instant".
abbrev pub part_types : Types → Path → Types
part_types ts [] = ts
part_types ts (f ∷ q) = any_value

-- "the empty path is object"; "any other is null"
abbrev pub lambda_types : Types → Types → Path → Types
lambda_types cur acc [] = Ty.Object ∷ []
lambda_types cur acc (f ∷ q) =
    cond (same_bytes f current) (part_types cur q)
    (cond (same_bytes f accumulator) (part_types acc q)
    (Ty.Null ∷ []))

-- "`var` outside a lambda: the sheet's words, else null, boolean, integer, string, array, object."
abbrev pub var_types : Env → Path → Types
var_types (outside sheet) q = or_else (find (same_path q) sheet) any_of_record
var_types (in_lambda cur acc) q = lambda_types cur acc q

-- "A string literal is day, else date, else string."
abbrev pub literal_types : Literal → Types
literal_types (Literal.boolean b) = Ty.Boolean ∷ []
literal_types (Literal.integer z) = Ty.Integer ∷ []
literal_types (Literal.string s) = cond (is_day s) (Ty.Day ∷ []) (cond (is_date s) (Ty.Date ∷ []) (Ty.String ∷ []))

-- ---- operations that evaluate all their operands: the types that the operands may have
abbrev pub one_operand : Types → List Types → Bool
one_operand a [] = false
one_operand a (x ∷ []) = passes x a
one_operand a (x ∷ y ∷ l) = false

abbrev pub two_operands : Types → Types → List Types → Bool
two_operands a b [] = false
two_operands a b (x ∷ []) = false
two_operands a b (x ∷ y ∷ []) = passes x a && passes y b
two_operands a b (x ∷ y ∷ z ∷ l) = false

abbrev pub every_operand : Types → List Types → Bool
every_operand a l = all (λ x. passes x a) l

abbrev pub domain_type : Domain → Ty
domain_type OnIntegers = Ty.Integer
domain_type OnInstants = Ty.Instant

-- "The other operations allow and give what evaluation does; `plusTime` needs date, `dccDateOfBirth` day. `extractFromUVCI` takes null or string".
-- "`and` and `!` take no instant."
abbrev pub allowed : Operation → List Types → Bool
allowed Operation.array l = true
allowed Operation.equal l = two_operands scalars scalars l
allowed Operation.member_of l = two_operands scalars (Ty.Array ∷ []) l
allowed Operation.plus l = two_operands (Ty.Integer ∷ []) (Ty.Integer ∷ []) l
allowed Operation.not l = one_operand any_of_record l
allowed Operation.date_of_birth l = one_operand (Ty.Day ∷ []) l
allowed (Operation.compare d c) l = every_operand (domain_type d ∷ []) l
allowed (Operation.plus_time amount unit) l = one_operand (Ty.Date ∷ []) l
allowed (Operation.extract_from_uvci k) l = one_operand (Ty.Null ∷ Ty.String ∷ []) l

-- "An array is integers if every item's only word is integer (the empty one too), else strings if all item words pass as string, else array."
abbrev pub array_types : List Types → Types
array_types l =
    cond (every_operand (Ty.Integer ∷ []) l) (Ty.Integers ∷ [])
    (cond (every_operand (Ty.String ∷ []) l) (Ty.Strings ∷ [])
    (Ty.Array ∷ []))

-- "The other operations allow and give what evaluation does"; `extractFromUVCI` "gives null and string".
abbrev pub given : Operation → List Types → Types
given Operation.array l = array_types l
given Operation.equal l = Ty.Boolean ∷ []
given Operation.member_of l = Ty.Boolean ∷ []
given Operation.plus l = Ty.Integer ∷ []
given Operation.not l = Ty.Boolean ∷ []
given Operation.date_of_birth l = Ty.Instant ∷ []
given (Operation.compare d c) l = Ty.Boolean ∷ []
given (Operation.plus_time amount unit) l = Ty.Instant ∷ []
given (Operation.extract_from_uvci k) l = Ty.Null ∷ Ty.String ∷ []

-- ---- `reduce`: "items of integers are integer, of strings string, of array those seven". What is no array has no items; `accepts` refuses it.
abbrev pub item_types : Ty → Types
item_types Ty.Null = []
item_types Ty.Boolean = []
item_types Ty.Integer = []
item_types Ty.String = []
item_types Ty.Date = []
item_types Ty.Day = []
item_types Ty.Integers = Ty.Integer ∷ []
item_types Ty.Strings = Ty.String ∷ []
item_types Ty.Array = any_value
item_types Ty.Object = []
item_types Ty.Instant = []

abbrev pub items_types : Types → Types
items_types [] = []
items_types (a ∷ ts) = item_types a ++ items_types ts

-- ---- the types found for a rule
abbrev pub union : List Types → Types
union [] = []
union (ts ∷ l) = ts ++ union l

-- "`if` and `and` give the union of their results' words (`if` both branches, `and` all operands)"; of `reduce` "the initial's words are the result".
unfoldable mutual
  pub types_for : Rule → Env → Types
  types_for (literal l) e = literal_types l
  types_for (var q) e = var_types e q
  types_for (if guard second third) e = types_for second e ++ types_for third e
  types_for (and r rs) e = types_for r e ++ union (types_for_all rs e)
  types_for (reduce r lambda initial) e = types_for initial e
  types_for (apply o rs) e = given o (types_for_all rs e)

  pub types_for_all : Rules → Env → List Types
  types_for_all no_rules e = []
  types_for_all (rule r rs) e = types_for r e ∷ types_for_all rs e

-- "the lambda is checked once with the initial's words as accumulator"
abbrev pub lambda_env : Rule → Rule → Env → Env
lambda_env r initial e = in_lambda (items_types (types_for r e)) (types_for initial e)

-- "Guards may have any words"; "`and` and `!` take no instant"; of a lambda "its words must pass there".
unfoldable mutual
  pub accepts : Rule → Env → Bool
  accepts (literal l) e = true
  accepts (var q) e = true
  accepts (if guard second third) e = accepts guard e && (accepts second e && accepts third e)
  accepts (and r rs) e =
      accepts r e
      && (passes (types_for r e) any_of_record
      && (accepts_all rs e
      && every_operand any_of_record (types_for_all rs e)))
  accepts (reduce r lambda initial) e =
      accepts r e
      && (accepts initial e
      && (passes (types_for r e) (Ty.Array ∷ [])
      && (accepts lambda (lambda_env r initial e)
      && passes (types_for lambda (lambda_env r initial e)) (types_for initial e))))
  accepts (apply o rs) e = accepts_all rs e && allowed o (types_for_all rs e)

  pub accepts_all : Rules → Env → Bool
  accepts_all no_rules e = true
  accepts_all (rule r rs) e = accepts r e && accepts_all rs e

-- The types found for a whole rule under a sheet; none where the check does not pass.
abbrev pub check : Rule → Sheet → Option Types
check r sheet = when (accepts r (outside sheet)) (Some (types_for r (outside sheet)))
