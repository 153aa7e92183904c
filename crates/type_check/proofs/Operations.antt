-- Operations: what an operation allows and gives depends only on the types that any of its operands has; `in` asks more.
use Rattle.std.specs.Prelude.{Some}
use mathlib.Core.Bool.{Bool, true, false, ◌&&◌, cond, and_assoc, and-true, and-false}
use mathlib.Core.List.{List, [], ◌∷◌, ◌++◌, append-nil, append_assoc}
use mathlib.Core.Path.{◌≡◌, refl, sym, ap, ap₂, ◌∙◌}
use Prim.Native.Nat.{ℕ}
use native.Mathlib.Omega.{arith}
use lib.ListN.{length}
use Rattle.model.proofs.Laws.Logic.{clash}
use Rattle.model.specs.Lists.{any}
use Rattle.model.specs.Rule.{Operation}
use Rattle.model.specs.TypeCheck.{one_operand, two_operands, every_operand, domain_type, allowed, array_types, given, union}
use Rattle.model.specs.Types.{Types, passes, supertypes, is_in, scalars, any_of_record}
use Rattle.model.specs.declared.Ty.TheVariants as Ty
use Rattle.keywords.specs.declared.Op.{Op}
use Rattle.keywords.specs.Contract.{Stands, stands_array, stands_equal, stands_member_of, stands_plus, stands_not, stands_date_of_birth, stands_compare, stands_plus_time, stands_extract}
use Rattle.type_set.specs.declared.set.TypeSet.{TypeSet}
use Rattle.type_set.specs.Contract.{set_of, types_in}
use Rattle.type_set.specs.Laws.Set.{union_set, passes_set}
use Rattle.type_check.specs.declared.operation.Operands.{Operands}
use Rattle.type_check.specs.ByRows.{accepted_as, pass_as, passing_as, array_by, member_by, all_of, no_operands, one_more, branches_by, and_by, operation_on, operation_by}
use Rattle.type_check.specs.Inner.{found_by, all_found_by, operands_after}

-- ---- the types of operands
-- The operands with these types.
abbrev pub operands : List Types → Operands
operands = operands_after no_operands

all_after : (o : Operands) (ts : Types) (l : List Types) → all_of o ≡ set_of ts → all_of (operands_after o l) ≡ set_of (ts ++ union l)
all_after o ts [] e = rw (append-nil ts) e
all_after o ts (us ∷ l) e =
    rw (← append_assoc ts us (union l))
    (all_after (one_more o (set_of us)) (ts ++ us) l (ap (λ s. set_of (types_in s ++ types_in (set_of us))) e ∙ union_set ts us))

-- The types that any operand has.
pub all_is : (l : List Types) → all_of (operands l) ≡ set_of (union l)
all_is l = all_after no_operands [] l (union_set [] [])

-- Of two operands the first.
first_is : (ts us : Types) → (operands (ts ∷ us ∷ [])).before ≡ set_of ts
first_is ts us = all_is (ts ∷ []) ∙ ap set_of (append-nil ts)

-- ---- passing
passes_append : (ts us a : Types) → passes (ts ++ us) a ≡ (passes ts a && passes us a)
passes_append [] us a = refl
passes_append (t ∷ ts) us a = ap (λ b. any (is_in a) (supertypes t) && b) (passes_append ts us a) ∙ sym (and_assoc (any (is_in a) (supertypes t)) (passes ts a) (passes us a))

-- Every operand's types pass when those of any do.
every : (a : Types) (l : List Types) → passes (union l) a ≡ every_operand a l
every a [] = refl
every a (x ∷ l) = passes_append x (union l) a ∙ ap (λ b. passes x a && b) (every a l)

one : (a : Types) (l : List Types) → length l ≡ 1 → every_operand a l ≡ one_operand a l
one a [] n = clash n
one a (x ∷ []) n = and-true (passes x a)
one a (x ∷ y ∷ l) n = absurd (omega arith)

two : (a : Types) (l : List Types) → length l ≡ 2 → every_operand a l ≡ two_operands a a l
two a [] n = absurd (omega arith)
two a (x ∷ []) n = absurd (omega arith)
two a (x ∷ y ∷ []) n = ap (λ b. passes x a && b) (and-true (passes y a))
two a (x ∷ y ∷ z ∷ l) n = absurd (omega arith)

-- The code asks whether a set passes where another is allowed.
pub passed : (a : Types) (s : TypeSet) {u : TypeSet} {b : Bool} → u ≡ set_of a → b ≡ passes (types_in s) (types_in u) → pass_as s a ≡ b
passed a s e f = sym (rw e at f)

pass_every : (a : Types) (l : List Types) → pass_as (all_of (operands l)) a ≡ every_operand a l
pass_every a l = ap (λ s. pass_as s a) (all_is l) ∙ (passes_set (union l) a ∙ every a l)

-- ---- an array
by_tests : (b c : Bool) → cond b (set_of (Ty.Integers ∷ [])) (cond c (set_of (Ty.Strings ∷ [])) (set_of (Ty.Array ∷ []))) ≡ set_of (cond b (Ty.Integers ∷ []) (cond c (Ty.Strings ∷ []) (Ty.Array ∷ [])))
by_tests true c = refl
by_tests false true = refl
by_tests false false = refl

array_is : (l : List Types) → array_by (all_of (operands l)) ≡ set_of (array_types l)
array_is l = rw (pass_every (Ty.Integer ∷ []) l, pass_every (Ty.String ∷ []) l) (by_tests (every_operand (Ty.Integer ∷ []) l) (every_operand (Ty.String ∷ []) l))

-- ---- `in`
member_is : (l : List Types) → length l ≡ 2 → member_by (operands l).before (operands l).last ≡ found_by (two_operands scalars (Ty.Array ∷ []) l) (Ty.Boolean ∷ [])
member_is [] n = absurd (omega arith)
member_is (x ∷ []) n = absurd (omega arith)
member_is (x ∷ y ∷ []) n =
    ap (λ b. found_by b (Ty.Boolean ∷ []))
    (ap₂ ◌&&◌ (ap (λ s. pass_as s scalars) (first_is x y) ∙ passes_set x scalars) (passes_set y (Ty.Array ∷ [])))
member_is (x ∷ y ∷ z ∷ l) n = absurd (omega arith)

-- ---- operations
-- Every operand passes where these are allowed.
passing_is : (a g : Types) (l : List Types) {b : Bool} → every_operand a l ≡ b → passing_as (all_of (operands l)) a g ≡ found_by b g
passing_is a g l e = ap (λ b. found_by b g) (pass_every a l ∙ e)

operation_is : {op : Op} {o : Operation} {n : ℕ} (l : List Types) → Stands op o n → length l ≡ n → operation_on op (operands l) ≡ found_by (allowed o l) (given o l)
operation_is l stands_array n = ap Some (array_is l)
operation_is l (stands_equal e) n = passing_is scalars (Ty.Boolean ∷ []) l (two scalars l (n ∙ e))
operation_is l (stands_member_of e) n = member_is l (n ∙ e)
operation_is l (stands_plus e) n = passing_is (Ty.Integer ∷ []) (Ty.Integer ∷ []) l (two (Ty.Integer ∷ []) l (n ∙ e))
operation_is l (stands_not e) n = passing_is any_of_record (Ty.Boolean ∷ []) l (one any_of_record l (n ∙ e))
operation_is l (stands_date_of_birth e) n = passing_is (Ty.Day ∷ []) (Ty.Instant ∷ []) l (one (Ty.Day ∷ []) l (n ∙ e))
operation_is l (stands_compare {d = d} x y) n = passing_is (domain_type d ∷ []) (Ty.Boolean ∷ []) l refl
operation_is l (stands_plus_time e x y) n = passing_is (Ty.Date ∷ []) (Ty.Instant ∷ []) l (one (Ty.Date ∷ []) l (n ∙ e))
operation_is l (stands_extract e x y) n = passing_is (Ty.Null ∷ Ty.String ∷ []) (Ty.Null ∷ Ty.String ∷ []) l (one (Ty.Null ∷ Ty.String ∷ []) l (n ∙ e))

-- ---- whether all operands are accepted
pub operation_by_lem : {op : Op} {o : Operation} {n : ℕ} (b : Bool) (l : List Types) → Stands op o n → length l ≡ n → operation_by op (all_found_by b (operands l)) ≡ found_by (b && allowed o l) (given o l)
operation_by_lem true l s n = operation_is l s n
operation_by_lem false l s n = refl

-- `and` asks the operands one by one.
pub and_by_lem : (b c : Bool) (ts : Types) (l : List Types) → and_by (all_found_by (b && c) (operands (ts ∷ l))) ≡ found_by (b && (passes ts any_of_record && (c && every_operand any_of_record l))) (ts ++ union l)
and_by_lem false c ts l = refl
and_by_lem true false ts l = rw (and-false (passes ts any_of_record))
and_by_lem true true ts l = ap₂ accepted_as (pass_every any_of_record (ts ∷ l)) (all_is (ts ∷ l))

-- The branches of `if`.
pub branches_by_lem : (b c : Bool) (ts us : Types) → branches_by (all_found_by (b && (c && true)) (operands (ts ∷ us ∷ []))) ≡ found_by (b && c) (ts ++ us)
branches_by_lem false c ts us = refl
branches_by_lem true false ts us = refl
branches_by_lem true true ts us = ap Some (all_is (ts ∷ us ∷ []) ∙ ap (λ l. set_of (ts ++ l)) (append-nil us))
