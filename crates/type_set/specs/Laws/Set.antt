-- Set: a set of types by value is the model's set. Whatever the model asks of a list of types depends on its set only.
use Rattle.std.specs.Prelude.{Bool, true, false, ◌||◌, ◌&&◌, not, [], ◌∷◌, ◌++◌, ◌≡◌, refl, T}
use Rattle.std.proofs.Common.{sym, ap, ap₂, ◌∙◌, subst}
use Rattle.std.proofs.Math.Path.{fun_ext}
use Rattle.model.proofs.Laws.Logic.{or_e, or_l, or_r, T→true}
use Rattle.model.proofs.Laws.Types.{is_in_++, same_ty→≡, same_ty_refl, type_bits_same}
use Rattle.model.specs.Lists.{any, all}
use Rattle.model.specs.TypeCheck.{item_types, items_types}
use Rattle.model.specs.Types.{Types, is_in, same_ty, supertypes, passes, belongs, has_type, type_bits}
use Rattle.model.specs.Value.{Value}
use Rattle.model.specs.declared.Ty.{Ty}
use Rattle.type_set.specs.declared.set.TypeSet.{TypeSet}
use Rattle.type_set.specs.Contract.{set_of, types_in}
use Rattle.type_set.specs.Laws.Fields.{field, set_by_same, field_set_by, is_in_types_in, is_in_items}

-- ---- lists of the same types
-- Two lists of the same types.
pub record Same (ts us : Types) : Type 0 where
  pub is : (k : Ty) → is_in ts k ≡ is_in us k

pub same_set : (ts us : Types) → Same ts us → set_of ts ≡ set_of us
same_set ts us s = set_by_same (is_in ts) (is_in us) s.is

pub set_same : (ts us : Types) → set_of ts ≡ set_of us → Same ts us
set_same ts us e = record { is = λ k. sym (field_set_by (is_in ts) k) ∙ (ap (λ (s : TypeSet). field s k) e ∙ field_set_by (is_in us) k) }

-- A set is that of its types; a list has the types of its set.
pub set_of_types : (s : TypeSet) → set_of (types_in s) ≡ s
set_of_types s = set_by_same (is_in (types_in s)) (field s) (is_in_types_in s)

pub types_of_set : (ts : Types) → Same (types_in (set_of ts)) ts
types_of_set ts = record { is = λ k. is_in_types_in (set_of ts) k ∙ field_set_by (is_in ts) k }

-- ---- tests of some type and of every type
tests_equal : (a b : Bool) → (T a → T b) → (T b → T a) → a ≡ b
tests_equal true b f g = sym (T→true b (f tt))
tests_equal false true f g = absurd (g tt)
tests_equal false false f g = refl

any_in : (p : Ty → Bool) (k : Ty) (us : Types) → T (p k) → T (is_in us k) → T (any p us)
any_in p k [] h i = i
any_in p k (a ∷ us) h i =
    or_e (same_ty k a) (is_in us k)
    (λ e. or_l (p a) (any p us) (subst (λ x. T (p x)) (same_ty→≡ k a e) h))
    (λ r. or_r (p a) (any p us) (any_in p k us h r))
    i

any_within : (p : Ty → Bool) (ts us : Types) → ((k : Ty) → T (is_in ts k) → T (is_in us k)) → T (any p ts) → T (any p us)
any_within p [] us m h = absurd h
any_within p (a ∷ ts) us m h =
    or_e (p a) (any p ts)
    (λ x. any_in p a us x (m a (or_l (same_ty a a) (is_in ts a) (same_ty_refl a))))
    (λ r. any_within p ts us (λ k x. m k (or_r (same_ty k a) (is_in ts k) x)) r)
    h

any_same : (p : Ty → Bool) (ts us : Types) → Same ts us → any p ts ≡ any p us
any_same p ts us s =
    tests_equal (any p ts) (any p us)
    (any_within p ts us (λ k. subst T (s.is k)))
    (any_within p us ts (λ k. subst T (sym (s.is k))))

-- Every one is: not some one is not.
all_any : (p : Ty → Bool) (ts : Types) → all p ts ≡ not (any (λ k. not (p k)) ts)
all_any p [] = refl
all_any p (a ∷ ts) = ap (λ x. p a && x) (all_any p ts) ∙ both (p a) (any (λ k. not (p k)) ts)
  where
    both : (a b : Bool) → a && not b ≡ not (not a || b)
    both true b = refl
    both false b = refl

all_same : (p : Ty → Bool) (ts us : Types) → Same ts us → all p ts ≡ all p us
all_same p ts us s = all_any p ts ∙ (ap not (any_same (λ k. not (p k)) ts us s) ∙ sym (all_any p us))

-- ---- unions
pub is_in_append : (ts us : Types) (k : Ty) → is_in (ts ++ us) k ≡ (is_in ts k || is_in us k)
is_in_append ts us k = is_in_++ ts us k

append_same : (ts us vs ws : Types) → Same ts vs → Same us ws → Same (ts ++ us) (vs ++ ws)
append_same ts us vs ws s t = record { is = λ k. is_in_++ ts us k ∙ (ap₂ ◌||◌ (s.is k) (t.is k) ∙ sym (is_in_++ vs ws k)) }

-- Of sets as of lists: union, passing, items, belonging, bits.
pub union_set : (ts us : Types) → set_of (types_in (set_of ts) ++ types_in (set_of us)) ≡ set_of (ts ++ us)
union_set ts us =
    same_set (types_in (set_of ts) ++ types_in (set_of us)) (ts ++ us)
    (append_same (types_in (set_of ts)) (types_in (set_of us)) ts us (types_of_set ts) (types_of_set us))

pub passes_set : (ts us : Types) → passes (types_in (set_of ts)) (types_in (set_of us)) ≡ passes ts us
passes_set ts us =
    all_same (λ a. any (is_in (types_in (set_of us))) (supertypes a)) (types_in (set_of ts)) ts (types_of_set ts)
    ∙ ap (λ (f : Ty → Bool). all (λ a. any f (supertypes a)) ts) (fun_ext (types_of_set us).is)

pub items_set : (ts : Types) → set_of (items_types (types_in (set_of ts))) ≡ set_of (items_types ts)
items_set ts =
    same_set (items_types (types_in (set_of ts))) (items_types ts)
    (record { is = λ k. is_in_items (types_in (set_of ts)) k ∙ (any_same (λ a. is_in (item_types a) k) (types_in (set_of ts)) ts (types_of_set ts) ∙ sym (is_in_items ts k)) })

pub has_type_set : (ts : Types) (v : Value) → has_type (types_in (set_of ts)) v ≡ has_type ts v
has_type_set ts v = any_same (belongs v) (types_in (set_of ts)) ts (types_of_set ts)

pub bits_set : (ts : Types) → type_bits (types_in (set_of ts)) ≡ type_bits ts
bits_set ts = type_bits_same (types_in (set_of ts)) ts (types_of_set ts).is
