-- Types: what passes is sound; which values belong to the sets that the paper names; items of an array; sets of types as numbers.
use Rattle.std.specs.Prelude.{◌≡◌, refl, Bool, true, false, ◌||◌, cond, [], ◌∷◌, ◌++◌, ℕ, zero, suc, ◌+◌, ◌*◌, ◌/◌, ◌%◌, max, T, pos, negsuc}
use Rattle.std.proofs.Common.{sym, subst, ap, ap₂, ◌∙◌, mul-one, mul-zero, arith, eqb→eq}
use Rattle.std.proofs.Math.Path.{fun_ext}
use Rattle.std.proofs.Math.Bool.{or_assoc}
use Rattle.std.specs.Prelude.{Option, None, Some}
use Rattle.std.specs.Int.Bits.{bit_or, or_step}
use Rattle.std.proofs.Math.Dec.{eqb_refl}
use Rattle.model.specs.DateText.{is_date, is_day}
use Rattle.model.specs.Lists.{any, all}
use Rattle.model.specs.Option.{is_some, holds}
use Rattle.model.specs.Truth.{Truth, truthy, falsy, neither, truth}
use Rattle.model.specs.TypeCheck.{item_types, items_types}
use Rattle.model.specs.Types.{Types, belongs, has_type, ty_number, same_ty, supertypes, is_in, passes, any_of_record, any_value, all_types, type_bits}
use Rattle.model.specs.Value.{Value, scalar, instant, array, object, null, boolean, integer, string, Values, no_items, item, no_members, member, as_string, as_array, all_items, is_integer, is_string, instant_free}
use Rattle.model.proofs.Laws.DateText.{is_day→is_date}
use Rattle.model.proofs.Laws.Logic.{and_l, and_r, and_i, or_e, or_l, or_r}
use Rattle.model.specs.declared.Ty.{Ty}

-- A truth that is not neither.
abbrev pub decided : Truth → Bool
decided truthy = true
decided falsy = true
decided neither = false

-- ---- equality of types
-- The type with a number.
type_at : ℕ → Ty
type_at zero = Ty.Null
type_at (suc zero) = Ty.Boolean
type_at (suc (suc zero)) = Ty.Integer
type_at (suc (suc (suc zero))) = Ty.String
type_at (suc (suc (suc (suc zero)))) = Ty.Date
type_at (suc (suc (suc (suc (suc zero))))) = Ty.Day
type_at (suc (suc (suc (suc (suc (suc zero)))))) = Ty.Integers
type_at (suc (suc (suc (suc (suc (suc (suc zero))))))) = Ty.Strings
type_at (suc (suc (suc (suc (suc (suc (suc (suc zero)))))))) = Ty.Array
type_at (suc (suc (suc (suc (suc (suc (suc (suc (suc zero))))))))) = Ty.Object
type_at (suc (suc (suc (suc (suc (suc (suc (suc (suc (suc n)))))))))) = Ty.Instant

type_at_number : (a : Ty) → type_at (ty_number a) ≡ a
unfolding type_at
type_at_number Ty.Null = refl
type_at_number Ty.Boolean = refl
type_at_number Ty.Integer = refl
type_at_number Ty.String = refl
type_at_number Ty.Date = refl
type_at_number Ty.Day = refl
type_at_number Ty.Integers = refl
type_at_number Ty.Strings = refl
type_at_number Ty.Array = refl
type_at_number Ty.Object = refl
type_at_number Ty.Instant = refl

pub same_ty→≡ : (a b : Ty) → T (same_ty a b) → a ≡ b
same_ty→≡ a b h = sym (type_at_number a) ∙ (ap type_at (eqb→eq (ty_number a) (ty_number b) h) ∙ type_at_number b)

pub same_ty_refl : (a : Ty) → T (same_ty a a)
same_ty_refl a = eqb_refl (ty_number a)

-- ---- wider types
holds_mono : {A : Type 0} (f g : A → Bool) → ((a : A) → T (f a) → T (g a)) → (o : Option A) → T (holds f o) → T (holds g o)
holds_mono f g m None h = h
holds_mono f g m (Some a) h = m a h

holds_some : {A : Type 0} (f : A → Bool) (o : Option A) → T (holds f o) → T (is_some o)
holds_some f None h = h
holds_some f (Some a) h = tt

cons_all : (v : Value) (a : Ty) (ts : Types) → T (belongs v a) → T (all (belongs v) ts) → T (all (belongs v) (a ∷ ts))
cons_all v a ts h k = and_i (belongs v a) (all (belongs v) ts) h k

-- A value of a type belongs to each wider one.
pub supertypes_sound : (a : Ty) (v : Value) → T (belongs v a) → T (all (belongs v) (supertypes a))
supertypes_sound Ty.Null v h = cons_all v Ty.Null [] h tt
supertypes_sound Ty.Boolean v h = cons_all v Ty.Boolean [] h tt
supertypes_sound Ty.Integer v h = cons_all v Ty.Integer [] h tt
supertypes_sound Ty.String v h = cons_all v Ty.String [] h tt
supertypes_sound Ty.Date v h = cons_all v Ty.Date (Ty.String ∷ []) h (cons_all v Ty.String [] (holds_some is_date (as_string v) h) tt)
supertypes_sound Ty.Day v h =
    cons_all v Ty.Day (Ty.Date ∷ Ty.String ∷ []) h
    (cons_all v Ty.Date (Ty.String ∷ []) (holds_mono is_day is_date is_day→is_date (as_string v) h)
    (cons_all v Ty.String [] (holds_some is_day (as_string v) h) tt))
supertypes_sound Ty.Integers v h = cons_all v Ty.Integers (Ty.Array ∷ []) h (cons_all v Ty.Array [] (holds_some (all_items is_integer) (as_array v) h) tt)
supertypes_sound Ty.Strings v h = cons_all v Ty.Strings (Ty.Array ∷ []) h (cons_all v Ty.Array [] (holds_some (all_items is_string) (as_array v) h) tt)
supertypes_sound Ty.Array v h = cons_all v Ty.Array [] h tt
supertypes_sound Ty.Object v h = cons_all v Ty.Object [] h tt
supertypes_sound Ty.Instant v h = cons_all v Ty.Instant [] h tt

is_in_sound : (v : Value) (a : Ty) (allowed : Types) → T (belongs v a) → T (is_in allowed a) → T (has_type allowed v)
is_in_sound v a [] h k = k
is_in_sound v a (b ∷ allowed) h k =
    or_e (same_ty a b) (is_in allowed a)
    (λ e. or_l (belongs v b) (has_type allowed v) (subst (λ x. T (belongs v x)) (same_ty→≡ a b e) h))
    (λ r. or_r (belongs v b) (has_type allowed v) (is_in_sound v a allowed h r))
    k

any_in_sound : (v : Value) (ts allowed : Types) → T (all (belongs v) ts) → T (any (is_in allowed) ts) → T (has_type allowed v)
any_in_sound v [] allowed h k = absurd k
any_in_sound v (a ∷ ts) allowed h k =
    or_e (is_in allowed a) (any (is_in allowed) ts)
    (λ e. is_in_sound v a allowed (and_l (belongs v a) _ h) e)
    (λ r. any_in_sound v ts allowed (and_r (belongs v a) _ h) r)
    k

-- A value of types that pass where others are allowed is of one of those.
pub passes_sound : (v : Value) (ts allowed : Types) → T (has_type ts v) → T (passes ts allowed) → T (has_type allowed v)
passes_sound v [] allowed h k = absurd h
passes_sound v (a ∷ ts) allowed h k =
    or_e (belongs v a) (has_type ts v)
    (λ b. any_in_sound v (supertypes a) allowed (supertypes_sound a v b) (and_l (any (is_in allowed) (supertypes a)) _ k))
    (λ r. passes_sound v ts allowed r (and_r (any (is_in allowed) (supertypes a)) _ k))
    h

-- ---- unions of sets
pub has_type_l : (v : Value) (ts us : Types) → T (has_type ts v) → T (has_type (ts ++ us) v)
has_type_l v [] us h = absurd h
has_type_l v (a ∷ ts) us h = or_e (belongs v a) (has_type ts v) (λ b. or_l (belongs v a) _ b) (λ r. or_r (belongs v a) _ (has_type_l v ts us r)) h

pub has_type_r : (v : Value) (ts us : Types) → T (has_type us v) → T (has_type (ts ++ us) v)
has_type_r v [] us h = h
has_type_r v (a ∷ ts) us h = or_r (belongs v a) _ (has_type_r v ts us h)

-- ---- the sets that the paper names
-- Every value belongs to one of the seven types,
pub any_value_all : (v : Value) → T (has_type any_value v)
any_value_all (scalar null) = tt
any_value_all (scalar (boolean b)) = tt
any_value_all (scalar (integer z)) = tt
any_value_all (scalar (string s)) = tt
any_value_all (instant t) = tt
any_value_all (array vs) = tt
any_value_all (object ms) = tt

-- whatever a record holds to one of the six,
pub any_of_record_all : (v : Value) → T (instant_free v) → T (has_type any_of_record v)
unfolding instant_free
any_of_record_all (scalar null) h = tt
any_of_record_all (scalar (boolean b)) h = tt
any_of_record_all (scalar (integer z)) h = tt
any_of_record_all (scalar (string s)) h = tt
any_of_record_all (instant t) h = h
any_of_record_all (array vs) h = tt
any_of_record_all (object ms) h = tt

-- and a value of one of the six is truthy or falsy.
pub any_of_record_decided : (v : Value) → T (has_type any_of_record v) → T (decided (truth v))
any_of_record_decided (scalar null) h = tt
any_of_record_decided (scalar (boolean false)) h = tt
any_of_record_decided (scalar (boolean true)) h = tt
any_of_record_decided (scalar (integer (pos zero))) h = tt
any_of_record_decided (scalar (integer (pos (suc n)))) h = tt
any_of_record_decided (scalar (integer (negsuc n))) h = tt
any_of_record_decided (scalar (string [])) h = tt
any_of_record_decided (scalar (string (x ∷ s))) h = tt
any_of_record_decided (instant t) h = h
any_of_record_decided (array no_items) h = tt
any_of_record_decided (array (item v vs)) h = tt
any_of_record_decided (object no_members) h = tt
any_of_record_decided (object (member name v ms)) h = tt

-- ---- items of an array
all_items_mono : (f g : Value → Bool) → ((v : Value) → T (f v) → T (g v)) → (vs : Values) → T (all_items f vs) → T (all_items g vs)
all_items_mono f g m no_items h = tt
all_items_mono f g m (item v vs) h = and_i (g v) _ (m v (and_l (f v) _ h)) (all_items_mono f g m vs (and_r (f v) _ h))

all_items_any : (f : Value → Bool) → ((v : Value) → T (f v)) → (vs : Values) → T (all_items f vs)
all_items_any f m no_items = tt
all_items_any f m (item v vs) = and_i (f v) _ (m v) (all_items_any f m vs)

item_types_sound : (a : Ty) (vs : Values) → T (belongs (array vs) a) → T (all_items (has_type (item_types a)) vs)
item_types_sound Ty.Null vs h = absurd h
item_types_sound Ty.Boolean vs h = absurd h
item_types_sound Ty.Integer vs h = absurd h
item_types_sound Ty.String vs h = absurd h
item_types_sound Ty.Date vs h = absurd h
item_types_sound Ty.Day vs h = absurd h
item_types_sound Ty.Integers vs h = all_items_mono is_integer (has_type (Ty.Integer ∷ [])) (λ v. or_l (is_integer v) false) vs h
item_types_sound Ty.Strings vs h = all_items_mono is_string (has_type (Ty.String ∷ [])) (λ v. or_l (is_string v) false) vs h
item_types_sound Ty.Array vs h = all_items_any (has_type any_value) any_value_all vs
item_types_sound Ty.Object vs h = absurd h
item_types_sound Ty.Instant vs h = absurd h

-- The items of an array of some types have the types of items of those.
pub items_types_sound : (ts : Types) (vs : Values) → T (has_type ts (array vs)) → T (all_items (has_type (items_types ts)) vs)
items_types_sound [] vs h = absurd h
items_types_sound (a ∷ ts) vs h =
    or_e (belongs (array vs) a) (has_type ts (array vs))
    (λ b. all_items_mono (has_type (item_types a)) (has_type (items_types (a ∷ ts))) (λ v. has_type_l v (item_types a) (items_types ts)) vs (item_types_sound a vs b))
    (λ r. all_items_mono (has_type (items_types ts)) (has_type (items_types (a ∷ ts))) (λ v. has_type_r v (item_types a) (items_types ts)) vs (items_types_sound ts vs r))
    h

-- ---- sets of types as numbers
-- Sets with the same types have the same number.
pub type_bits_same : (ts us : Types) → ((a : Ty) → is_in ts a ≡ is_in us a) → type_bits ts ≡ type_bits us
type_bits_same ts us h = simp h

-- What is in one of two sets is in their union, and nothing else.
pub is_in_++ : (ts us : Types) (a : Ty) → is_in (ts ++ us) a ≡ (is_in ts a || is_in us a)
is_in_++ [] us a = refl
is_in_++ (b ∷ ts) us a = ap (λ x. same_ty a b || x) (is_in_++ ts us a) ∙ sym (or_assoc (same_ty a b) (is_in ts a) (is_in us a))

-- The number whose binary digits, the lowest first, tell of which types a test holds.
digits : (Ty → Bool) → Types → ℕ
digits f [] = 0
digits f (a ∷ l) = digits f l * 2 + cond (f a) 1 0

-- A digit times its weight.
scaled : (b : Bool) (k : ℕ) → cond b k 0 ≡ k * cond b 1 0
scaled true k = sym (mul-one k)
scaled false k = sym (mul-zero k)

type_bits_digits : (ts : Types) → type_bits ts ≡ digits (is_in ts) all_types
unfolding digits
type_bits_digits ts =
    omega (arith, scaled (is_in ts Ty.Boolean) 2, scaled (is_in ts Ty.Integer) 4, scaled (is_in ts Ty.String) 8, scaled (is_in ts Ty.Date) 16, scaled (is_in ts Ty.Day) 32, scaled (is_in ts Ty.Integers) 64, scaled (is_in ts Ty.Strings) 128, scaled (is_in ts Ty.Array) 256, scaled (is_in ts Ty.Object) 512, scaled (is_in ts Ty.Instant) 1024)

-- `|` on the lowest digits.
or_digits : (m n : ℕ) (a b : Bool) → bit_or (m * 2 + cond a 1 0) (n * 2 + cond b 1 0) ≡ bit_or m n * 2 + cond (a || b) 1 0
or_digits m n a b = rw (or_step (m * 2 + cond a 1 0) (n * 2 + cond b 1 0), upper m a, upper n b, lowest m a, lowest n b, max_or a b)
  where
    upper : (m : ℕ) (b : Bool) → (m * 2 + cond b 1 0) / 2 ≡ m
    upper m true = omega arith
    upper m false = omega arith

    lowest : (m : ℕ) (b : Bool) → (m * 2 + cond b 1 0) % 2 ≡ cond b 1 0
    lowest m true = omega arith
    lowest m false = omega arith

    max_or : (a b : Bool) → max (cond a 1 0) (cond b 1 0) ≡ cond (a || b) 1 0
    max_or true true = refl
    max_or true false = refl
    max_or false true = refl
    max_or false false = refl

digits_or : (f g : Ty → Bool) (l : Types) → bit_or (digits f l) (digits g l) ≡ digits (λ a. f a || g a) l
unfolding digits
digits_or f g [] = refl
digits_or f g (a ∷ l) = or_digits (digits f l) (digits g l) (f a) (g a) ∙ ap (λ x. x * 2 + cond (f a || g a) 1 0) (digits_or f g l)

-- The number of a union.
pub type_bits_++ : (ts us : Types) → type_bits (ts ++ us) ≡ bit_or (type_bits ts) (type_bits us)
type_bits_++ ts us =
    type_bits_digits (ts ++ us)
    ∙ (ap (λ f. digits f all_types) (fun_ext (is_in_++ ts us))
    ∙ (sym (digits_or (is_in ts) (is_in us) all_types)
    ∙ ap₂ bit_or (sym (type_bits_digits ts)) (sym (type_bits_digits us))))
