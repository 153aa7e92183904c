-- Contract: the code's names for keywords, units and operations, in the terms of the model.
use Rattle.std.specs.Prelude.{Option, None, Some}
use Rattle.std.specs.Prelude.{◌≡◌, ℕ, ◌≤◌, T, ℤ}
use Rattle.model.specs.Rule.{Operation}
use Rattle.model.specs.Shape.{Keyword as ModelKeyword, var, if, reduce, and, plus_time, extract_from_uvci, counted}
use Rattle.model.specs.Value.{within_limits}
use Rattle.model.specs.declared.Comparison.{Comparison}
use Rattle.model.specs.declared.Domain.{Domain}
use Rattle.model.specs.declared.TimeUnit.{TimeUnit}
use Rattle.syntax.specs.Layout.{biased, unbiased}
use Rattle.keywords.specs.declared.Keyword.{Keyword}
use Rattle.keywords.specs.declared.Keyword.TheVariants as Keywords
use Rattle.keywords.specs.declared.Op.{Op}
use Rattle.keywords.specs.declared.Op.TheVariants as Ops

-- The operation in the model's terms. 2^53 was added to an amount or index.
abbrev pub operation_of : Op → Operation
operation_of Ops.Array = Operation.array
operation_of Ops.Equal = Operation.equal
operation_of Ops.MemberOf = Operation.member_of
operation_of Ops.Plus = Operation.plus
operation_of Ops.Not = Operation.not
operation_of Ops.DateOfBirth = Operation.date_of_birth
operation_of (Ops.Compare d c) = Operation.compare d c
operation_of (Ops.PlusTime n u) = Operation.plus_time (unbiased n) u
operation_of (Ops.ExtractFromUvci n) = Operation.extract_from_uvci (unbiased n)

-- The keyword in the model's terms; none where no name fits.
abbrev pub keyword_of : Option Keyword → Option ModelKeyword
keyword_of None = None
keyword_of (Some Keywords.Var) = Some var
keyword_of (Some Keywords.If) = Some if
keyword_of (Some Keywords.Reduce) = Some reduce
keyword_of (Some Keywords.And) = Some and
keyword_of (Some Keywords.PlusTime) = Some plus_time
keyword_of (Some Keywords.ExtractFromUvci) = Some extract_from_uvci
keyword_of (Some (Keywords.Counted least most op)) = Some (counted least most (operation_of op))

-- And back: the code's operation, and its keyword.
abbrev pub op_for : Operation → Op
op_for Operation.array = Ops.Array
op_for Operation.equal = Ops.Equal
op_for Operation.member_of = Ops.MemberOf
op_for Operation.plus = Ops.Plus
op_for Operation.not = Ops.Not
op_for Operation.date_of_birth = Ops.DateOfBirth
op_for (Operation.compare d c) = Ops.Compare d c
op_for (Operation.plus_time z u) = Ops.PlusTime (biased z) u
op_for (Operation.extract_from_uvci z) = Ops.ExtractFromUvci (biased z)

abbrev pub keyword_for : Option ModelKeyword → Option Keyword
keyword_for None = None
keyword_for (Some var) = Some Keywords.Var
keyword_for (Some if) = Some Keywords.If
keyword_for (Some reduce) = Some Keywords.Reduce
keyword_for (Some and) = Some Keywords.And
keyword_for (Some plus_time) = Some Keywords.PlusTime
keyword_for (Some extract_from_uvci) = Some Keywords.ExtractFromUvci
keyword_for (Some (counted least most o)) = Some (Keywords.Counted least most (op_for o))

-- The operation, with its number of operands as 01's table has it. 2^53 was added to an amount or index.
pub data Stands : Op → Operation → ℕ → Type 0 where
  stands_array : {n : ℕ} → Stands Ops.Array Operation.array n
  stands_equal : {n : ℕ} → n ≡ 2 → Stands Ops.Equal Operation.equal n
  stands_member_of : {n : ℕ} → n ≡ 2 → Stands Ops.MemberOf Operation.member_of n
  stands_plus : {n : ℕ} → n ≡ 2 → Stands Ops.Plus Operation.plus n
  stands_not : {n : ℕ} → n ≡ 1 → Stands Ops.Not Operation.not n
  stands_date_of_birth : {n : ℕ} → n ≡ 1 → Stands Ops.DateOfBirth Operation.date_of_birth n
  stands_compare : {n : ℕ} {d : Domain} {c : Comparison} → 2 ≤ n → n ≤ 3 → Stands (Ops.Compare d c) (Operation.compare d c) n
  stands_plus_time : {n m : ℕ} {k : ℤ} {u : TimeUnit} → n ≡ 1 → T (within_limits k) → m ≡ biased k → Stands (Ops.PlusTime m u) (Operation.plus_time k u) n
  stands_extract : {n m : ℕ} {k : ℤ} → n ≡ 1 → T (within_limits k) → m ≡ biased k → Stands (Ops.ExtractFromUvci m) (Operation.extract_from_uvci k) n
