-- Table: how many operands an operation of 01's table has.
use Rattle.std.specs.Prelude.{◌≡◌, refl, ℕ, ◌≤◌}
use Rattle.std.specs.Prelude.{Some}
use Rattle.std.proofs.Common.{arith}
use Rattle.model.specs.Bytes.{Bytes, same_bytes}
use Rattle.model.proofs.Laws.Option.{All, all_some}
use Rattle.model.specs.Rule.{Operation}
use Rattle.model.specs.Shape.{Keyword, var, if, reduce, and, plus_time, extract_from_uvci, counted, keywords, keyword_named}
use Rattle.keywords.specs.declared.Op.{Op}
use Rattle.keywords.specs.declared.Op.TheVariants as Ops
use Rattle.keywords.specs.Contract.{operation_of, Stands, stands_equal, stands_member_of, stands_plus, stands_not, stands_date_of_birth, stands_compare}
use Rattle.keywords.specs.Laws.Keyword.{each_found}

-- The numbers that the table has for an operation; an array is not in it.
abbrev pub Allowed : ℕ → ℕ → Operation → Type 0
Allowed least most Operation.array = ⊥
Allowed least most Operation.equal = (least ≡ 2) × (most ≡ 2)
Allowed least most Operation.member_of = (least ≡ 2) × (most ≡ 2)
Allowed least most Operation.plus = (least ≡ 2) × (most ≡ 2)
Allowed least most Operation.not = (least ≡ 1) × (most ≡ 1)
Allowed least most Operation.date_of_birth = (least ≡ 1) × (most ≡ 1)
Allowed least most (Operation.compare d c) = (least ≡ 2) × (most ≡ 3)
Allowed least most (Operation.plus_time k u) = ⊥
Allowed least most (Operation.extract_from_uvci k) = ⊥

abbrev pub Listed : Keyword → Type 0
Listed var = Unit {0}
Listed if = Unit {0}
Listed reduce = Unit {0}
Listed and = Unit {0}
Listed plus_time = Unit {0}
Listed extract_from_uvci = Unit {0}
Listed (counted least most o) = Allowed least most o

pub listed : (s : Bytes) → All Listed (keyword_named s)
listed s =
    each_found Listed (same_bytes s) keywords
    (tt, (tt, (tt, ((refl, refl), ((refl, refl), ((refl, refl), (tt, ((refl, refl), ((refl, refl), ((refl, refl), ((refl, refl), ((refl, refl), ((refl, refl), ((refl, refl), ((refl, refl), ((refl, refl), ((refl, refl), (tt, (tt, tt)))))))))))))))))))

stands_of : (least most n : ℕ) (op : Op) → Allowed least most (operation_of op) → least ≤ n → n ≤ most → Stands op (operation_of op) n
stands_of least most n Ops.Array a l m = absurd a
stands_of least most n Ops.Equal a l m = stands_equal {n = n} (omega arith)
stands_of least most n Ops.MemberOf a l m = stands_member_of {n = n} (omega arith)
stands_of least most n Ops.Plus a l m = stands_plus {n = n} (omega arith)
stands_of least most n Ops.Not a l m = stands_not {n = n} (omega arith)
stands_of least most n Ops.DateOfBirth a l m = stands_date_of_birth {n = n} (omega arith)
stands_of least most n (Ops.Compare d c) a l m = stands_compare {n = n} (omega arith) (omega arith)
stands_of least most n (Ops.PlusTime k u) a l m = absurd a
stands_of least most n (Ops.ExtractFromUvci k) a l m = absurd a

-- An operation that is named, with a right number of operands, stands for the model's.
pub named_stands : (least most n : ℕ) (op : Op) (s : Bytes) → keyword_named s ≡ Some (counted least most (operation_of op)) → least ≤ n → n ≤ most → Stands op (operation_of op) n
named_stands least most n op s k = stands_of least most n op (all_some Listed (listed s) k)
