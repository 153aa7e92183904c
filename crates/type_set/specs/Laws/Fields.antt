-- Fields: a set of types as the tests of its fields; what the model asks of the types of a set, field by field.
use Rattle.std.specs.Prelude.{Bool, true, false, ◌&&◌, ◌||◌, not, cond, [], ◌∷◌, ◌++◌, ◌≡◌, refl, ℕ, ◌+◌, T}
use Rattle.std.proofs.Math.Bool.{and-true, and-false, and-or_distrib_left}
use Rattle.std.proofs.Common.{sym, ap, ap₂, ◌∙◌}
use Rattle.std.proofs.Math.Path.{fun_ext}
use Rattle.model.proofs.Laws.Types.{is_in_++, same_ty→≡}
use Rattle.model.specs.Lists.{any, all}
use Rattle.model.specs.TypeCheck.{item_types, items_types}
use Rattle.model.specs.Types.{Types, is_in, same_ty, supertypes, passes, all_types, type_bits}
use Rattle.model.specs.declared.Ty.{Ty}
use Rattle.type_set.specs.declared.set.TypeSet.{TypeSet}
use Rattle.type_set.specs.Contract.{set_of, listed, types_in}

-- ---- a set is a test of types
-- The field of a type.
abbrev pub field : TypeSet → Ty → Bool
field s Ty.Null = s.null
field s Ty.Boolean = s.boolean
field s Ty.Integer = s.integer
field s Ty.String = s.string
field s Ty.Date = s.date
field s Ty.Day = s.day
field s Ty.Integers = s.integers
field s Ty.Strings = s.strings
field s Ty.Array = s.array
field s Ty.Object = s.object
field s Ty.Instant = s.instant

-- The set of the types of which a test holds.
abbrev pub set_by : (Ty → Bool) → TypeSet
set_by f = record {
  null = f Ty.Null;
  boolean = f Ty.Boolean;
  integer = f Ty.Integer;
  string = f Ty.String;
  date = f Ty.Date;
  day = f Ty.Day;
  integers = f Ty.Integers;
  strings = f Ty.Strings;
  array = f Ty.Array;
  object = f Ty.Object;
  instant = f Ty.Instant;
}

pub field_set_by : (f : Ty → Bool) (k : Ty) → field (set_by f) k ≡ f k
field_set_by f Ty.Null = refl
field_set_by f Ty.Boolean = refl
field_set_by f Ty.Integer = refl
field_set_by f Ty.String = refl
field_set_by f Ty.Date = refl
field_set_by f Ty.Day = refl
field_set_by f Ty.Integers = refl
field_set_by f Ty.Strings = refl
field_set_by f Ty.Array = refl
field_set_by f Ty.Object = refl
field_set_by f Ty.Instant = refl

pub set_by_same : (f g : Ty → Bool) → ((k : Ty) → f k ≡ g k) → set_by f ≡ set_by g
set_by_same f g h = ap set_by (fun_ext h)

-- ---- the types of a list of which a test holds
kept : (Ty → Bool) → Types → Types
kept f [] = []
kept f (k ∷ l) = listed (f k) k (kept f l)

any_listed : (p : Ty → Bool) (b : Bool) (k : Ty) (ts : Types) → any p (listed b k ts) ≡ ((b && p k) || any p ts)
any_listed p true k ts = refl
any_listed p false k ts = refl

all_listed : (p : Ty → Bool) (b : Bool) (k : Ty) (ts : Types) → all p (listed b k ts) ≡ ((not b || p k) && all p ts)
all_listed p true k ts = refl
all_listed p false k ts = refl

any_kept : (p f : Ty → Bool) (l : Types) → any p (kept f l) ≡ any (λ k. f k && p k) l
unfolding kept
any_kept p f [] = refl
any_kept p f (k ∷ l) = any_listed p (f k) k (kept f l) ∙ ap (λ x. (f k && p k) || x) (any_kept p f l)

all_kept : (p f : Ty → Bool) (l : Types) → all p (kept f l) ≡ all (λ k. not (f k) || p k) l
unfolding kept
all_kept p f [] = refl
all_kept p f (k ∷ l) = all_listed p (f k) k (kept f l) ∙ ap (λ x. (not (f k) || p k) && x) (all_kept p f l)

-- Some type of a set, every type of a set.
pub any_types_in : (p : Ty → Bool) (s : TypeSet) → any p (types_in s) ≡ any (λ k. field s k && p k) all_types
unfolding kept
any_types_in p s = any_kept p (field s) all_types

pub all_types_in : (p : Ty → Bool) (s : TypeSet) → all p (types_in s) ≡ all (λ k. not (field s k) || p k) all_types
unfolding kept
all_types_in p s = all_kept p (field s) all_types

-- ---- in a set
guarded : (a b e : Bool) → (T e → a ≡ b) → a && e ≡ b && e
guarded a b true h = ap (λ x. x && true) (h tt)
guarded a b false h = and-false a ∙ sym (and-false b)

is_in_kept : (f : Ty → Bool) (l : Types) (j : Ty) → is_in (kept f l) j ≡ (f j && is_in l j)
unfolding kept
is_in_kept f [] j = sym (and-false (f j))
is_in_kept f (k ∷ l) j =
    any_listed (same_ty j) (f k) k (kept f l)
    ∙ (ap₂ ◌||◌ (guarded (f k) (f j) (same_ty j k) (λ h. ap f (sym (same_ty→≡ j k h)))) (is_in_kept f l j)
    ∙ sym (and-or_distrib_left (f j) (same_ty j k) (is_in l j)))

is_in_all : (k : Ty) → is_in all_types k ≡ true
is_in_all Ty.Null = refl
is_in_all Ty.Boolean = refl
is_in_all Ty.Integer = refl
is_in_all Ty.String = refl
is_in_all Ty.Date = refl
is_in_all Ty.Day = refl
is_in_all Ty.Integers = refl
is_in_all Ty.Strings = refl
is_in_all Ty.Array = refl
is_in_all Ty.Object = refl
is_in_all Ty.Instant = refl

pub is_in_types_in : (s : TypeSet) (k : Ty) → is_in (types_in s) k ≡ field s k
unfolding kept
is_in_types_in s k = is_in_kept (field s) all_types k ∙ (ap (λ x. field s k && x) (is_in_all k) ∙ and-true (field s k))

-- ---- unions, passing, items, bits
pub union_fields : (a b : TypeSet) → set_of (types_in a ++ types_in b) ≡ set_by (λ k. field a k || field b k)
union_fields a b =
    set_by_same (is_in (types_in a ++ types_in b)) (λ k. field a k || field b k)
    (λ k. is_in_++ (types_in a) (types_in b) k ∙ ap₂ ◌||◌ (is_in_types_in a k) (is_in_types_in b k))

pub passes_fields : (a b : TypeSet) → passes (types_in a) (types_in b) ≡ all (λ k. not (field a k) || any (field b) (supertypes k)) all_types
passes_fields a b =
    all_types_in (λ k. any (is_in (types_in b)) (supertypes k)) a
    ∙ ap (λ (f : Ty → Bool). all (λ k. not (field a k) || any f (supertypes k)) all_types) (fun_ext (is_in_types_in b))

-- A type of the items of some types is one of the items of one of them.
pub is_in_items : (ts : Types) (k : Ty) → is_in (items_types ts) k ≡ any (λ a. is_in (item_types a) k) ts
is_in_items [] k = refl
is_in_items (a ∷ ts) k = is_in_++ (item_types a) (items_types ts) k ∙ ap (λ x. is_in (item_types a) k || x) (is_in_items ts k)

pub items_fields : (s : TypeSet) → set_of (items_types (types_in s)) ≡ set_by (λ k. any (λ a. field s a && is_in (item_types a) k) all_types)
items_fields s =
    set_by_same (is_in (items_types (types_in s))) (λ k. any (λ a. field s a && is_in (item_types a) k) all_types)
    (λ k. is_in_items (types_in s) k ∙ any_types_in (λ a. is_in (item_types a) k) s)

-- The bits of the types of which a test holds.
abbrev pub bits_by : (Ty → Bool) → ℕ
bits_by f =
    cond (f Ty.Null) 1 0
    + (cond (f Ty.Boolean) 2 0
    + (cond (f Ty.Integer) 4 0
    + (cond (f Ty.String) 8 0
    + (cond (f Ty.Date) 16 0
    + (cond (f Ty.Day) 32 0
    + (cond (f Ty.Integers) 64 0
    + (cond (f Ty.Strings) 128 0
    + (cond (f Ty.Array) 256 0
    + (cond (f Ty.Object) 512 0
    + (cond (f Ty.Instant) 1024 0
    + 0))))))))))

pub bits_fields : (s : TypeSet) → type_bits (types_in s) ≡ bits_by (field s)
bits_fields s = ap bits_by (fun_ext (is_in_types_in s))
