-- ByRows: what is found for the rows of a rule's table T with strings A, under a sheet's table S with strings Z, whatever these bytes are.
-- Contract says what it is where they hold a rule and a sheet.
use Rattle.std.specs.Prelude.{Option, None, Some}
use Rattle.std.specs.Prelude.{Bool, true, false, ◌&&◌, cond, [], ◌∷◌, ◌++◌, ℕ, zero, suc, eqb, length, take}
use Rattle.model.specs.Bytes.{Bytes, ascii, same_bytes}
use Rattle.model.specs.Option.{◌>>=◌}
use Rattle.model.specs.Eval.{current, accumulator}
use Rattle.model.specs.Rule.{Literal as ModelLiteral}
use Rattle.model.specs.TypeCheck.{literal_types, domain_type, items_types}
use Rattle.model.specs.Types.{Types, passes, scalars, any_of_record, any_value}
use Rattle.model.specs.declared.Ty.TheVariants as Ty
use Rattle.octets.specs.Fragment.{fragment_length}
use Rattle.keywords.specs.declared.Op.{Op}
use Rattle.keywords.specs.declared.Op.TheVariants as Ops
use Rattle.rule.specs.declared.view.Literal.{Literal}
use Rattle.rule.specs.declared.view.Literal.TheVariants as Literals
use Rattle.rule.specs.declared.view.View.{View}
use Rattle.rule.specs.declared.view.View.TheVariants as Views
use Rattle.rule.specs.View.{view_at}
use Rattle.sheet.specs.ByRows.{listed_for}
use Rattle.table.specs.declared.node.Rows.{Rows}
use Rattle.table.specs.Node.{node_at, next_row, tail_of}
use Rattle.table.specs.Strings.{bytes_of}
use Rattle.type_set.specs.declared.set.TypeSet.{TypeSet}
use Rattle.type_set.specs.Contract.{set_of, types_in}
use Rattle.type_check.specs.declared.env.Env.{Env}
use Rattle.type_check.specs.declared.env.Env.TheVariants.{Outside, Lambda}
use Rattle.type_check.specs.declared.operation.Operands.{Operands}

-- ---- variables
-- In a lambda, of a path that ends with its first fragment, or goes on.
abbrev pub part_by : Bool → TypeSet → TypeSet
part_by whole s = cond whole s (set_of any_value)

-- By the first fragment: "any other is null".
abbrev pub first_by : Bytes → Bool → TypeSet → TypeSet → TypeSet
first_by f whole cur acc =
    cond (same_bytes f current) (part_by whole cur)
    (cond (same_bytes f accumulator) (part_by whole acc)
    (set_of (Ty.Null ∷ [])))

-- By the path's text: "the empty path is object".
abbrev pub lambda_by : Bytes → TypeSet → TypeSet → TypeSet
lambda_by p cur acc =
    cond (eqb (length p) 0) (set_of (Ty.Object ∷ []))
    (let size = fragment_length (ascii ".") p in first_by (take size p) (eqb size (length p)) cur acc)

-- Outside every lambda what the sheet lists.
abbrev pub var_by : Bytes → Bytes → Bytes → Env → TypeSet
var_by S Z p Outside = listed_for S Z p (node_at S 0)
var_by S Z p (Lambda cur acc) = lambda_by p cur acc

-- ---- literals
abbrev pub literal_by : Bytes → Literal → TypeSet
literal_by A Literals.False = set_of (Ty.Boolean ∷ [])
literal_by A Literals.True = set_of (Ty.Boolean ∷ [])
literal_by A (Literals.Integer n) = set_of (Ty.Integer ∷ [])
literal_by A (Literals.String s) = set_of (literal_types (ModelLiteral.string (bytes_of A s)))

-- ---- the types of operands
abbrev pub no_operands : Operands
no_operands = record { before = set_of []; last = set_of [] }

-- The types that any operand has.
abbrev pub all_of : Operands → TypeSet
all_of o = set_of (types_in o.before ++ types_in o.last)

abbrev pub one_more : Operands → TypeSet → Operands
one_more o t = record { before = all_of o; last = t }

-- ---- operations by the types of their operands
-- These types, if the rule is accepted.
abbrev pub accepted_as : Bool → TypeSet → Option TypeSet
accepted_as true s = Some s
accepted_as false s = None

-- All types of a set pass where those of another are allowed.
abbrev pub passes_as : TypeSet → TypeSet → Bool
passes_as s allowed = passes (types_in s) (types_in allowed)

abbrev pub pass_as : TypeSet → Types → Bool
pass_as s allowed = passes_as s (set_of allowed)

-- What is given, if all types pass.
abbrev pub passing_as : TypeSet → Types → Types → Option TypeSet
passing_as s allowed given = accepted_as (pass_as s allowed) (set_of given)

-- An array by the types that any of its items has.
abbrev pub array_by : TypeSet → TypeSet
array_by s =
    cond (pass_as s (Ty.Integer ∷ [])) (set_of (Ty.Integers ∷ []))
    (cond (pass_as s (Ty.String ∷ [])) (set_of (Ty.Strings ∷ []))
    (set_of (Ty.Array ∷ [])))

-- `in`, by the types of each operand.
abbrev pub member_by : TypeSet → TypeSet → Option TypeSet
member_by element items = accepted_as (pass_as element scalars && pass_as items (Ty.Array ∷ [])) (set_of (Ty.Boolean ∷ []))

-- If all operands are accepted.
abbrev pub branches_by : Option Operands → Option TypeSet
branches_by None = None
branches_by (Some o) = Some (all_of o)

abbrev pub and_by : Option Operands → Option TypeSet
and_by None = None
and_by (Some o) = accepted_as (pass_as (all_of o) any_of_record) (all_of o)

abbrev pub operation_on : Op → Operands → Option TypeSet
operation_on Ops.Array o = Some (array_by (all_of o))
operation_on Ops.Equal o = passing_as (all_of o) scalars (Ty.Boolean ∷ [])
operation_on Ops.MemberOf o = member_by o.before o.last
operation_on Ops.Plus o = passing_as (all_of o) (Ty.Integer ∷ []) (Ty.Integer ∷ [])
operation_on Ops.Not o = passing_as (all_of o) any_of_record (Ty.Boolean ∷ [])
operation_on Ops.DateOfBirth o = passing_as (all_of o) (Ty.Day ∷ []) (Ty.Instant ∷ [])
operation_on (Ops.Compare d c) o = passing_as (all_of o) (domain_type d ∷ []) (Ty.Boolean ∷ [])
operation_on (Ops.PlusTime n u) o = passing_as (all_of o) (Ty.Date ∷ []) (Ty.Instant ∷ [])
operation_on (Ops.ExtractFromUvci n) o = passing_as (all_of o) (Ty.Null ∷ Ty.String ∷ []) (Ty.Null ∷ Ty.String ∷ [])

abbrev pub operation_by : Op → Option Operands → Option TypeSet
operation_by op None = None
operation_by op (Some o) = operation_on op o

-- ---- rows, by what is found for a row somewhere
-- These operands, and those in so many rows from a row on.
abbrev pub rows_found : (ℕ → Option TypeSet) → Bytes → Operands → ℕ → ℕ → Option Operands
rows_found f T o row zero = Some o
rows_found f T o row (suc n) = do
  t ← f row
  rows_found f T (one_more o t) (next_row T row) n

abbrev pub all_found : (ℕ → Option TypeSet) → Bytes → Rows → Option Operands
all_found f T q = rows_found f T no_operands q.first q.count

-- "Guards may have any words".
abbrev pub if_by : (Env → ℕ → Option TypeSet) → Bytes → Env → Rows → Option TypeSet
if_by f T env q = do
  t ← f env q.first
  branches_by (all_found (f env) T (tail_of T q))

-- A lambda, by the types of the operand and of the initial: "its words must pass there".
abbrev pub lambda_found : (Env → ℕ → Option TypeSet) → ℕ → TypeSet → TypeSet → Option TypeSet
lambda_found f row operand initial =
    cond (pass_as operand (Ty.Array ∷ []))
    (f (Lambda (set_of (items_types (types_in operand))) initial) row >>= (λ t. accepted_as (passes_as t initial) initial))
    None

abbrev pub reduce_by : (Env → ℕ → Option TypeSet) → Bytes → Env → Rows → Option TypeSet
reduce_by f T env q = do
  operand ← f env q.first
  initial ← f env (next_row T (next_row T q.first))
  lambda_found f (next_row T q.first) operand initial

-- ---- a row
-- By its view, and by what is found for the rows below.
abbrev pub view_found : Bytes → Bytes → Bytes → Bytes → (Env → ℕ → Option TypeSet) → Env → View → Option TypeSet
view_found T A S Z f env (Views.Literal l) = Some (literal_by A l)
view_found T A S Z f env (Views.Var p) = Some (var_by S Z (bytes_of A p) env)
view_found T A S Z f env (Views.If q) = if_by f T env q
view_found T A S Z f env (Views.And q) = and_by (all_found (f env) T q)
view_found T A S Z f env (Views.Reduce q) = reduce_by f T env q
view_found T A S Z f env (Views.Apply op q) = operation_by op (all_found (f env) T q)

-- For a row that nests less deep than `deep`. With no nesting left no operation is seen, so that none is asked for.
unfoldable pub found_below : Bytes → Bytes → Bytes → Bytes → ℕ → Env → ℕ → Option TypeSet
found_below T A S Z zero env row = None
found_below T A S Z (suc deep) env row = view_found T A S Z (found_below T A S Z deep) env (view_at T A row deep)

-- For one that nests no deeper.
abbrev pub found_at : Bytes → Bytes → Bytes → Bytes → ℕ → Env → ℕ → Option TypeSet
found_at T A S Z deep = found_below T A S Z (suc deep)
