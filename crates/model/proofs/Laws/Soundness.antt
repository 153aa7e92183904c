-- Soundness: an accepted rule, on a record that fits the sheet, ends in a value of a type that the check found, or in refusal 9 or 10.
use Rattle.std.specs.Prelude.{◌≡◌, refl, Bool, true, false, ◌&&◌, cond, List, [], ◌∷◌, ◌++◌, ◌⊎◌, ℕ, zero, suc, T, ltb, ℤ, pos, negsuc, ◌+ℤ◌}
use Rattle.std.proofs.Common.{sym, subst, ap, ap₂, inl, inr}
use Rattle.std.specs.Prelude.{Option, None, Some}
use Rattle.model.specs.Bytes.{Bytes, same_bytes, split_on}
use Rattle.model.specs.DateText.{is_date, is_day, date_text, day_text}
use Rattle.model.specs.Eval.{go_on, current, accumulator, context, body, body_all, body_and, eval, run, Outcome, value, refusal, outcome}
use Rattle.model.specs.Operations.{unary, binary, equality, membership, negated, as_number, numbers, sum, plus_time, date_of_birth, is_uvci_separator, drop_prefix, nth_string, fragment, extract_from_uvci, operate}
use Rattle.model.specs.Lists.{find}
use Rattle.model.specs.Option.{is_some, or_else, when, holds}
use Rattle.model.specs.Path.{Path, same_path, lookup, value_at}
use Rattle.model.specs.Refusal.{eval_number}
use Rattle.model.specs.declared.refusal.Fault.{Fault}
use Rattle.model.specs.declared.refusal.Fault.TheVariants.{WrongKind, BadDate, OutOfRange}
use Rattle.model.specs.declared.refusal.EvalFault.{EvalFault}
use Rattle.model.specs.declared.refusal.EvalFault.TheVariants.{Operation as fault, OutOfSteps}
use Rattle.model.specs.Result.{Result, ok, refuse, required, is_ok}
use Rattle.model.specs.Rule.{Literal, Operation, Rule, literal, var, if, and, reduce, apply, Rules, no_rules, rule, literal_value}
use Rattle.model.specs.Run.{Name, Ended, got, failed, Run, return, lift}
use Rattle.model.specs.Sheet.{Sheet, fits}
use Rattle.model.specs.Shift.{shift}
use Rattle.model.specs.Truth.{Truth, truthy, falsy, neither, truth}
use Rattle.model.specs.TypeCheck.{Env, outside, in_lambda, part_types, var_types, literal_types, one_operand, two_operands, every_operand, domain_type, allowed, array_types, given, items_types, union, types_for, types_for_all, lambda_env, accepts, accepts_all, check}
use Rattle.model.specs.Types.{Types, has_type, passes, scalars, any_of_record}
use Rattle.model.specs.Value.{Value, scalar, instant, array, object, null, boolean, integer, string, Values, no_items, item, as_scalar, as_integer, as_instant, as_array, as_string, all_items, is_integer, is_string, instant_free, within_limits}
use Rattle.model.proofs.Laws.Logic.{and_l, and_r, and_i, or_l, or_f, bytes→≡}
use Rattle.model.proofs.Laws.Lookup.{value_at_instant_free}
use Rattle.model.proofs.Laws.Result.{Any, Yields, yields_intro, yields_bind, yields_provided}
use Rattle.model.proofs.Laws.Runs.{EndsIn, Always, always_lift, always_begin, always_bind, always_map, always_branch, always_go_on, always_fold}
use Rattle.model.proofs.Laws.Shift.{shift_never_bad}
use Rattle.model.proofs.Laws.Types.{decided, passes_sound, has_type_l, has_type_r, any_value_all, any_of_record_all, any_of_record_decided, items_types_sound}
use Rattle.model.specs.declared.TimeUnit.{TimeUnit}
use Rattle.model.specs.declared.Domain.{Domain}
use Rattle.model.specs.declared.Domain.TheVariants.{OnIntegers, OnInstants}
use Rattle.model.specs.declared.Ty.{Ty}

-- A value of one of the types.
abbrev pub Has : Types → Value → Type 0
Has ts v = T (has_type ts v)

-- ---- contexts
-- A context has the types of an environment: the value at each path is of the types that the check gives the path.
abbrev pub Typed : Env → Value → Type 0
Typed e c = (q : Path) → Has (var_types e q) (value_at q c)

path→≡ : (q r : Path) → T (same_path q r) → q ≡ r
path→≡ [] [] h = refl
path→≡ [] (g ∷ r) h = absurd h
path→≡ (f ∷ q) [] h = absurd h
path→≡ (f ∷ q) (g ∷ r) h = ap₂ ◌∷◌ (bytes→≡ f g (and_l (same_bytes f g) _ h)) (path→≡ q r (and_r (same_bytes f g) _ h))

-- The first entry of a sheet for a path, or what later entries say of it.
first_entry : (v : Value) (b : Bool) (ts : Types) (later : Option Types) → (T b → Has ts v) → Has (or_else later any_of_record) v → Has (or_else (cond b (Some ts) later) any_of_record) v
first_entry v true ts later h k = h tt
first_entry v false ts later h k = k

-- A record that fits a sheet has its types.
pub outside_typed : (sheet : Sheet) (c : Value) → T (instant_free c) → T (fits sheet c) → Typed (outside sheet) c
outside_typed [] c h k q = any_of_record_all (value_at q c) (value_at_instant_free q c h)
outside_typed (entry ∷ sheet) c h k q =
    let here = has_type entry.1 (value_at entry.0 c) in
    first_entry (value_at q c) (same_path q entry.0) entry.1 (find (same_path q) sheet)
    (λ e. subst (λ x. Has entry.1 (value_at x c)) (sym (path→≡ q entry.0 e)) (and_l here _ k))
    (outside_typed sheet c h (and_r here _ k) q)

part_typed : (ts : Types) (v : Value) → Has ts v → (q : Path) → Has (part_types ts q) (value_at q v)
part_typed ts v h [] = h
part_typed ts v h (f ∷ q) = any_value_all (value_at (f ∷ q) v)

-- The context of a lambda has the types of its two members.
pub lambda_typed : (cur acc : Types) (v w : Value) → Has cur v → Has acc w → Typed (in_lambda cur acc) (context v w)
lambda_typed cur acc v w h k [] = tt
lambda_typed cur acc v w h k (f ∷ q) = go (same_bytes f current) (same_bytes f accumulator)
  where
    go : (a b : Bool) → Has (cond a (part_types cur q) (cond b (part_types acc q) (Ty.Null ∷ []))) (or_else (Rattle.model.specs.Option.◌>>=◌ (cond a (Some v) (cond b (Some w) None)) (lookup q)) (scalar null))
    go true b = part_typed cur v h q
    go false true = part_typed acc w k q
    go false false = tt

-- ---- results
-- Refusal 9.
abbrev Out : Fault → Type 0
Out e = e ≡ OutOfRange

-- A value of which P holds, or refusal 9.
abbrev pub Gives : {A : Type 0} → (A → Type 0) → Result A → Type 0
Gives P r = Yields Out P r

gives_required : {A : Type 0} (f : A → Bool) (e : Fault) (o : Option A) → T (holds f o) → Gives (λ a. T (f a)) (required e o)
gives_required f e None h = absurd h
gives_required f e (Some a) h = h

gives_ok : {A : Type 0} (r : Result A) → T (is_ok r) → Gives Any r
gives_ok (ok a) h = tt
gives_ok (refuse e) h = absurd h

gives_some : {A : Type 0} (e : Fault) (o : Option A) → T (is_some o) → Gives Any (required e o)
gives_some e None h = absurd h
gives_some e (Some a) h = tt

gives_shift : (t amount : ℤ) (unit : TimeUnit) → Gives Any (shift t amount unit)
gives_shift t amount unit = yields_intro Out Any (shift t amount unit) (λ r e. tt) (shift_never_bad t amount unit)

-- ---- operations
-- Values of operands, each of the types found for it.
abbrev pub Operands : List Types → Values → Type 0
Operands [] no_items = Unit {0}
Operands [] (item v vs) = ⊥
Operands (ts ∷ l) no_items = ⊥
Operands (ts ∷ l) (item v vs) = Has ts v × Operands l vs

unary_sound : (f : Value → Result Value) (ts us : Types) → ((v : Value) → Has ts v → Gives (Has us) (f v)) → (l : List Types) (vs : Values) → Operands l vs → T (one_operand ts l) → Gives (Has us) (unary f vs)
unary_sound f ts us m [] vs h k = absurd k
unary_sound f ts us m (x ∷ []) no_items h k = absurd h
unary_sound f ts us m (x ∷ []) (item a no_items) h k = m a (passes_sound a x ts h.0 k)
unary_sound f ts us m (x ∷ []) (item a (item b vs)) h k = absurd h.1
unary_sound f ts us m (x ∷ y ∷ l) vs h k = absurd k

binary_sound : (f : Value → Value → Result Value) (ts us ws : Types) → ((v w : Value) → Has ts v → Has us w → Gives (Has ws) (f v w)) → (l : List Types) (vs : Values) → Operands l vs → T (two_operands ts us l) → Gives (Has ws) (binary f vs)
binary_sound f ts us ws m [] vs h k = absurd k
binary_sound f ts us ws m (x ∷ []) vs h k = absurd k
binary_sound f ts us ws m (x ∷ y ∷ []) no_items h k = absurd h
binary_sound f ts us ws m (x ∷ y ∷ []) (item a no_items) h k = absurd h.1
binary_sound f ts us ws m (x ∷ y ∷ []) (item a (item b no_items)) h k =
    m a b (passes_sound a x ts h.0 (and_l (passes x ts) _ k)) (passes_sound b y us h.1.0 (and_r (passes x ts) _ k))
binary_sound f ts us ws m (x ∷ y ∷ []) (item a (item b (item c vs))) h k = absurd h.1.1
binary_sound f ts us ws m (x ∷ y ∷ z ∷ l) vs h k = absurd k

-- Operands that all pass as some types have what values of those types have.
every_sound : (ts : Types) (f : Value → Bool) → ((v : Value) → Has ts v → T (f v)) → (l : List Types) (vs : Values) → Operands l vs → T (every_operand ts l) → T (all_items f vs)
every_sound ts f m [] no_items h k = tt
every_sound ts f m [] (item v vs) h k = absurd h
every_sound ts f m (x ∷ l) no_items h k = absurd h
every_sound ts f m (x ∷ l) (item v vs) h k =
    and_i (f v) (all_items f vs) (m v (passes_sound v x ts h.0 (and_l (passes x ts) _ k))) (every_sound ts f m l vs h.1 (and_r (passes x ts) _ k))

array_sound : (l : List Types) (vs : Values) → Operands l vs → Has (array_types l) (array vs)
array_sound l vs h =
    go (every_operand (Ty.Integer ∷ []) l) (every_operand (Ty.String ∷ []) l)
    (every_sound (Ty.Integer ∷ []) is_integer (λ v. or_f (is_integer v)) l vs h)
    (every_sound (Ty.String ∷ []) is_string (λ v. or_f (is_string v)) l vs h)
  where
    go : (a b : Bool) → (T a → T (all_items is_integer vs)) → (T b → T (all_items is_string vs)) → Has (cond a (Ty.Integers ∷ []) (cond b (Ty.Strings ∷ []) (Ty.Array ∷ []))) (array vs)
    go true b f g = or_l (all_items is_integer vs) false (f tt)
    go false true f g = or_l (all_items is_string vs) false (g tt)
    go false false f g = tt

scalar_some : (v : Value) → Has scalars v → T (is_some (as_scalar v))
scalar_some (scalar x) h = tt
scalar_some (instant t) h = h
scalar_some (array vs) h = h
scalar_some (object ms) h = h

equal_sound : (a b : Value) → Has scalars a → Has scalars b → Gives (Has (Ty.Boolean ∷ [])) (equality a b)
equal_sound a b h k =
    yields_bind Out Any _ (required WrongKind (as_scalar a)) _ (gives_some WrongKind (as_scalar a) (scalar_some a h))
    (λ x e. yields_bind Out Any _ (required WrongKind (as_scalar b)) _ (gives_some WrongKind (as_scalar b) (scalar_some b k)) (λ y f. tt))

member_sound : (a b : Value) → Has scalars a → Has (Ty.Array ∷ []) b → Gives (Has (Ty.Boolean ∷ [])) (membership a b)
member_sound a b h k =
    yields_bind Out Any _ (required WrongKind (as_scalar a)) _ (gives_some WrongKind (as_scalar a) (scalar_some a h))
    (λ x e. yields_bind Out Any _ (required WrongKind (as_array b)) _ (gives_some WrongKind (as_array b) (or_f (is_some (as_array b)) k)) (λ vs f. tt))

sum_sound : (a b : Value) → Has (Ty.Integer ∷ []) a → Has (Ty.Integer ∷ []) b → Gives (Has (Ty.Integer ∷ [])) (sum a b)
sum_sound a b h k =
    yields_bind Out Any _ (required WrongKind (as_integer a)) _ (gives_some WrongKind (as_integer a) (or_f (is_integer a) h))
    (λ m e. yields_bind Out Any _ (required WrongKind (as_integer b)) _ (gives_some WrongKind (as_integer b) (or_f (is_integer b) k))
    (λ n f. yields_provided Out _ (within_limits (m +ℤ n)) OutOfRange (ok (scalar (integer (m +ℤ n)))) refl (λ x. tt)))

negated_sound : (t : Truth) → T (decided t) → Gives (Has (Ty.Boolean ∷ [])) (negated t)
negated_sound truthy h = tt
negated_sound falsy h = tt
negated_sound neither h = absurd h

number_some : (d : Domain) (v : Value) → Has (domain_type d ∷ []) v → T (is_some (as_number d v))
number_some OnIntegers v h = or_f (is_some (as_integer v)) h
number_some OnInstants v h = or_f (is_some (as_instant v)) h

numbers_sound : (d : Domain) (vs : Values) → T (all_items (λ v. is_some (as_number d v)) vs) → Gives Any (numbers d vs)
numbers_sound d no_items h = tt
numbers_sound d (item v vs) h =
    yields_bind Out Any _ (required WrongKind (as_number d v)) _ (gives_some WrongKind (as_number d v) (and_l (is_some (as_number d v)) _ h))
    (λ n e. yields_bind Out Any _ (numbers d vs) _ (numbers_sound d vs (and_r (is_some (as_number d v)) _ h)) (λ ns f. tt))

-- Operands that are all numbers of a domain.
every_number : (d : Domain) (l : List Types) (vs : Values) → Operands l vs → T (every_operand (domain_type d ∷ []) l) → Gives Any (numbers d vs)
every_number d l vs h k = numbers_sound d vs (every_sound (domain_type d ∷ []) (λ v. is_some (as_number d v)) (number_some d) l vs h k)

birth_sound : (v : Value) → Has (Ty.Day ∷ []) v → Gives (Has (Ty.Instant ∷ [])) (date_of_birth v)
birth_sound v h =
    yields_bind Out _ _ (required WrongKind (as_string v)) _ (gives_required is_day WrongKind (as_string v) (or_f (holds is_day (as_string v)) h))
    (λ s k. yields_bind Out Any _ (day_text s) _ (gives_ok (day_text s) k) (λ t e. tt))

plus_time_sound : (amount : ℤ) (unit : TimeUnit) (v : Value) → Has (Ty.Date ∷ []) v → Gives (Has (Ty.Instant ∷ [])) (plus_time amount unit v)
plus_time_sound amount unit v h =
    yields_bind Out _ _ (required WrongKind (as_string v)) _ (gives_required is_date WrongKind (as_string v) (or_f (holds is_date (as_string v)) h))
    (λ s k. yields_bind Out Any _ (date_text s) _ (gives_ok (date_text s) k) (λ t e. yields_bind Out Any _ (shift t amount unit) _ (gives_shift t amount unit) (λ r f. tt)))

fragment_sound : (l : List Bytes) (k : ℤ) → Has (Ty.Null ∷ Ty.String ∷ []) (fragment l k)
fragment_sound l (pos k) = go l k
  where
    go : (l : List Bytes) (k : ℕ) → Has (Ty.Null ∷ Ty.String ∷ []) (nth_string l k)
    go [] k = tt
    go (f ∷ l) zero = tt
    go (f ∷ l) (suc k) = go l k
fragment_sound l (negsuc k) = tt

extract_sound : (k : ℤ) (v : Value) → Has (Ty.Null ∷ Ty.String ∷ []) v → Gives (Has (Ty.Null ∷ Ty.String ∷ [])) (extract_from_uvci k v)
extract_sound k (scalar null) h = tt
extract_sound k (scalar (boolean b)) h = absurd h
extract_sound k (scalar (integer z)) h = absurd h
extract_sound k (scalar (string s)) h = fragment_sound (drop_prefix (split_on is_uvci_separator s)) k
extract_sound k (instant t) h = absurd h
extract_sound k (array vs) h = absurd h
extract_sound k (object ms) h = absurd h

-- An operation on operands of allowed types gives a value of the types given, or refusal 9.
pub operate_sound : (o : Operation) (l : List Types) (vs : Values) → Operands l vs → T (allowed o l) → Gives (Has (given o l)) (operate o vs)
operate_sound Operation.array l vs h k = array_sound l vs h
operate_sound Operation.equal l vs h k = binary_sound equality scalars scalars (Ty.Boolean ∷ []) equal_sound l vs h k
operate_sound Operation.member_of l vs h k = binary_sound membership scalars (Ty.Array ∷ []) (Ty.Boolean ∷ []) member_sound l vs h k
operate_sound Operation.plus l vs h k = binary_sound sum (Ty.Integer ∷ []) (Ty.Integer ∷ []) (Ty.Integer ∷ []) sum_sound l vs h k
operate_sound Operation.not l vs h k = unary_sound (λ v. negated (truth v)) any_of_record (Ty.Boolean ∷ []) (λ v x. negated_sound (truth v) (any_of_record_decided v x)) l vs h k
operate_sound Operation.date_of_birth l vs h k = unary_sound date_of_birth (Ty.Day ∷ []) (Ty.Instant ∷ []) birth_sound l vs h k
operate_sound (Operation.compare d c) l vs h k = yields_bind Out Any _ (numbers d vs) _ (every_number d l vs h k) (λ ns e. tt)
operate_sound (Operation.plus_time amount unit) l vs h k = unary_sound (plus_time amount unit) (Ty.Date ∷ []) (Ty.Instant ∷ []) (plus_time_sound amount unit) l vs h k
operate_sound (Operation.extract_from_uvci i) l vs h k = unary_sound (extract_from_uvci i) (Ty.Null ∷ Ty.String ∷ []) (Ty.Null ∷ Ty.String ∷ []) (extract_sound i) l vs h k

-- ---- runs
-- The refusals that an accepted rule may end in: 9 and 10.
abbrev pub Late : EvalFault → Type 0
Late e = (e ≡ fault OutOfRange) ⊎ (e ≡ OutOfSteps)

-- A run ends in a value of which P holds, or in one of these.
abbrev pub Ends : {A : Type 0} → (A → Type 0) → Ended A → Type 0
Ends P r = EndsIn Late P r

-- From every number of steps.
abbrev pub Runs : {A : Type 0} → (A → Type 0) → Run A → Type 0
Runs P m = Always Late P m

runs_lift : {A : Type 0} (P : A → Type 0) (r : Result A) → Gives P r → Runs P (lift r)
runs_lift P r h = always_lift Late Out P r (λ e x. inl (ap fault x)) h

-- The items of an operand that is an array.
items_sound : (ts : Types) (v : Value) → Has ts v → Has (Ty.Array ∷ []) v → Gives (λ vs. T (all_items (has_type (items_types ts)) vs)) (required WrongKind (as_array v))
items_sound ts (scalar x) h k = absurd k
items_sound ts (instant t) h k = absurd k
items_sound ts (array vs) h k = items_types_sound ts vs h
items_sound ts (object ms) h k = absurd k

has_cond : (v : Value) (b : Bool) (ts us : Types) → (T b → Has ts v) → Has us v → Has (cond b ts us) v
has_cond v true ts us f h = f tt
has_cond v false ts us f h = h

-- The types are met apart from the texts' tests, which so are compared with nothing but themselves.
literal_sound : (l : Literal) → Has (literal_types l) (literal_value l)
literal_sound (Literal.boolean b) = tt
literal_sound (Literal.integer z) = tt
literal_sound (Literal.string s) = has_cond (scalar (string s)) (is_day s) _ _ (day _ refl) (has_cond (scalar (string s)) (is_date s) _ _ (date _ refl) tt)
  where
    day : (ts : Types) → Ty.Day ∷ [] ≡ ts → T (is_day s) → Has ts (scalar (string s))
    day ts e h = subst (λ us. Has us (scalar (string s))) e (or_l (is_day s) false h)

    date : (ts : Types) → Ty.Date ∷ [] ≡ ts → T (is_date s) → Has ts (scalar (string s))
    date ts e h = subst (λ us. Has us (scalar (string s))) e (or_l (is_date s) false h)

-- ---- the induction
-- A rule's own step.
eval_sound : (r : Rule) (ts : Types) (p : Name) (c : Value) → Runs (Has ts) (body r p c) → Runs (Has ts) (eval r p c)
eval_sound r ts p c h = always_begin Late (Has ts) p (body r p c) (inr refl) h

-- `and` ends with a value that it has met, or goes on: the value is no instant.
met_sound : (v : Value) (ts us : Types) (m : Run Value) → Has ts v → T (passes ts any_of_record) → Runs (Has (ts ++ us)) m → Runs (Has (ts ++ us)) (go_on (truth v) v m)
met_sound v ts us m x y h = always_go_on Late (Has (ts ++ us)) (truth v) v m (λ k. absurd (k (any_of_record_decided v (passes_sound v ts any_of_record x y)))) (has_type_l v ts us x) h

-- A rule, its operands, and an `and` under way, in a context of the environment's types.
mutual
  unfolding body body_all body_and types_for types_for_all accepts accepts_all

  pub body_sound : (r : Rule) (e : Env) (p : Name) (c : Value) → T (accepts r e) → Typed e c → Runs (Has (types_for r e)) (body r p c)
  body_sound (literal l) e p c h F = λ n. literal_sound l
  body_sound (var q) e p c h F = λ n. F q
  body_sound (if guard second third) e p c h F =
      let h₁ = and_r (accepts guard e) (accepts second e && accepts third e) h in
      let ts = types_for second e in
      let us = types_for third e in
      always_bind Late (Has (types_for guard e)) (Has (ts ++ us)) (eval guard (0 ∷ p) c) _
      (eval_sound guard (types_for guard e) (0 ∷ p) c (body_sound guard e (0 ∷ p) c (and_l (accepts guard e) _ h) F))
      (λ v x. always_branch Late (Has (ts ++ us)) (truth v) (eval second (1 ∷ p) c) (eval third (2 ∷ p) c)
      (always_map Late (Has ts) (Has (ts ++ us)) (eval second (1 ∷ p) c) (λ w. has_type_l w ts us) (eval_sound second ts (1 ∷ p) c (body_sound second e (1 ∷ p) c (and_l (accepts second e) _ h₁) F)))
      (always_map Late (Has us) (Has (ts ++ us)) (eval third (2 ∷ p) c) (λ w. has_type_r w ts us) (eval_sound third us (2 ∷ p) c (body_sound third e (2 ∷ p) c (and_r (accepts second e) _ h₁) F))))
  body_sound (and r rs) e p c h F =
      let ts = types_for r e in
      let us = types_for_all rs e in
      let h₁ = and_r (accepts r e) (passes ts any_of_record && (accepts_all rs e && every_operand any_of_record us)) h in
      let h₂ = and_r (passes ts any_of_record) (accepts_all rs e && every_operand any_of_record us) h₁ in
      always_bind Late (Has ts) (Has (ts ++ union us)) (eval r (0 ∷ p) c) _
      (eval_sound r ts (0 ∷ p) c (body_sound r e (0 ∷ p) c (and_l (accepts r e) _ h) F))
      (λ v x. body_and_sound rs e 1 p c v ts (and_l (accepts_all rs e) _ h₂) (and_r (accepts_all rs e) _ h₂) F x (and_l (passes ts any_of_record) _ h₁))
  body_sound (reduce r lambda initial) e p c h F =
      let ts = types_for r e in
      let us = types_for initial e in
      let inner = lambda_env r initial e in
      let ws = types_for lambda inner in
      let h₁ = and_r (accepts r e) (accepts initial e && (passes ts (Ty.Array ∷ []) && (accepts lambda inner && passes ws us))) h in
      let h₂ = and_r (accepts initial e) (passes ts (Ty.Array ∷ []) && (accepts lambda inner && passes ws us)) h₁ in
      let h₃ = and_r (passes ts (Ty.Array ∷ [])) (accepts lambda inner && passes ws us) h₂ in
      always_bind Late (Has ts) (Has us) (eval r (0 ∷ p) c) _
      (eval_sound r ts (0 ∷ p) c (body_sound r e (0 ∷ p) c (and_l (accepts r e) _ h) F))
      (λ v x. always_bind Late (Has us) (Has us) (eval initial (2 ∷ p) c) _
      (eval_sound initial us (2 ∷ p) c (body_sound initial e (2 ∷ p) c (and_l (accepts initial e) _ h₁) F))
      (λ i y. always_bind Late (λ vs. T (all_items (has_type (items_types ts)) vs)) (Has us) (lift (required WrongKind (as_array v))) _
      (runs_lift _ (required WrongKind (as_array v)) (items_sound ts v x (passes_sound v ts (Ty.Array ∷ []) x (and_l (passes ts (Ty.Array ∷ [])) _ h₂))))
      (λ vs z. always_fold Late (Has us) (Has (items_types ts)) (λ ws. T (all_items (has_type (items_types ts)) ws)) (λ w ws k. (and_l (has_type (items_types ts) w) _ k, and_r (has_type (items_types ts) w) _ k))
      (λ cur acc. eval lambda (1 ∷ p) (context cur acc))
      (λ cur acc a b. always_map Late (Has ws) (Has us) (eval lambda (1 ∷ p) (context cur acc)) (λ w k. passes_sound w ws us k (and_r (accepts lambda inner) _ h₃))
      (eval_sound lambda ws (1 ∷ p) (context cur acc) (body_sound lambda inner (1 ∷ p) (context cur acc) (and_l (accepts lambda inner) _ h₃) (lambda_typed (items_types ts) us cur acc a b))))
      vs z i y)))
  body_sound (apply o rs) e p c h F =
      let l = types_for_all rs e in
      always_bind Late (Operands l) (Has (given o l)) (body_all rs 0 p c) _ (body_all_sound rs e 0 p c (and_l (accepts_all rs e) _ h) F)
      (λ vs x. runs_lift (Has (given o l)) (operate o vs) (operate_sound o l vs x (and_r (accepts_all rs e) _ h)))

  pub body_all_sound : (rs : Rules) (e : Env) (k : ℕ) (p : Name) (c : Value) → T (accepts_all rs e) → Typed e c → Runs (Operands (types_for_all rs e)) (body_all rs k p c)
  body_all_sound no_rules e k p c h F = λ n. tt
  body_all_sound (rule r rs) e k p c h F =
      let ts = types_for r e in
      let l = types_for_all rs e in
      always_bind Late (Has ts) (Operands (ts ∷ l)) (eval r (k ∷ p) c) _
      (eval_sound r ts (k ∷ p) c (body_sound r e (k ∷ p) c (and_l (accepts r e) _ h) F))
      (λ v x. always_bind Late (Operands l) (Operands (ts ∷ l)) (body_all rs (suc k) p c) _ (body_all_sound rs e (suc k) p c (and_r (accepts r e) _ h) F) (λ vs y n. (x, y)))

  pub body_and_sound : (rs : Rules) (e : Env) (k : ℕ) (p : Name) (c v : Value) (ts : Types) → T (accepts_all rs e) → T (every_operand any_of_record (types_for_all rs e)) → Typed e c → Has ts v → T (passes ts any_of_record) → Runs (Has (ts ++ union (types_for_all rs e))) (body_and rs k p c v)
  body_and_sound no_rules e k p c v ts h g F x y = met_sound v ts [] (return v) x y (λ n. has_type_l v ts [] x)
  body_and_sound (rule r rs) e k p c v ts h g F x y =
      let us = types_for r e in
      let ws = us ++ union (types_for_all rs e) in
      met_sound v ts ws _ x y
      (always_bind Late (Has us) (Has (ts ++ ws)) (eval r (k ∷ p) c) _
      (eval_sound r us (k ∷ p) c (body_sound r e (k ∷ p) c (and_l (accepts r e) _ h) F))
      (λ w z. always_map Late (Has ws) (Has (ts ++ ws)) (body_and rs (suc k) p c w) (λ u. has_type_r u ts ws)
      (body_and_sound rs e (suc k) p c w us (and_r (accepts r e) _ h) (and_r (passes us any_of_record) _ g) F z (and_l (passes us any_of_record) _ g))))

-- ---- a whole rule
-- The value is of one of the types, or the refusal is 9 or 10.
abbrev pub Sound : Types → Outcome → Type 0
Sound ts (value v) = T (has_type ts v)
Sound ts (refusal e) = (e ≡ fault OutOfRange) ⊎ (e ≡ OutOfSteps)

-- An accepted rule, on a record that fits the sheet, ends so under every step limit.
pub sound : (r : Rule) (sheet : Sheet) (c : Value) (n : ℕ) → T (accepts r (outside sheet)) → T (instant_free c) → T (fits sheet c) → Sound (types_for r (outside sheet)) (outcome (run r c n))
sound r sheet c n h k f = go (run r c n) (eval_sound r ts [] c (body_sound r (outside sheet) [] c h (outside_typed sheet c k f)) n)
  where
    ts : Types
    ts = types_for r (outside sheet)

    go : (m : Ended Value) → Ends (Has ts) m → Sound ts (outcome m)
    go (got v j t) h = h
    go (failed e t) h = h

-- The same of the types that a whole check gives.
pub check_sound : (r : Rule) (sheet : Sheet) (ts : Types) (c : Value) (n : ℕ) → check r sheet ≡ Some ts → T (instant_free c) → T (fits sheet c) → Sound ts (outcome (run r c n))
check_sound r sheet ts c n e k f = go (accepts r (outside sheet)) e (λ h. sound r sheet c n h k f)
  where
    us : Types
    us = types_for r (outside sheet)

    go : (b : Bool) → when b (Some us) ≡ Some ts → (T b → Sound us (outcome (run r c n))) → Sound ts (outcome (run r c n))
    go true e h = subst (λ x. Sound (or_else x us) (outcome (run r c n))) e (h tt)
    go false e h = absurd (subst (λ x. T (is_some x)) (sym e) tt)

-- Such a run never ends in refusal 7 or 8.
pub never_7_or_8 : (r : Rule) (sheet : Sheet) (ts : Types) (c : Value) (n : ℕ) → check r sheet ≡ Some ts → T (instant_free c) → T (fits sheet c) → ¬ (outcome (run r c n) ≡ refusal (fault WrongKind)) × ¬ (outcome (run r c n) ≡ refusal (fault BadDate))
never_7_or_8 r sheet ts c n e k f = (λ x. none_of WrongKind tt (subst (Sound ts) x s), λ x. none_of BadDate tt (subst (Sound ts) x s))
  where
    s : Sound ts (outcome (run r c n))
    s = check_sound r sheet ts c n e k f

    below_9 : EvalFault → Bool
    below_9 x = ltb (eval_number x) 9

    none_of : (x : Fault) → T (below_9 (fault x)) → Late (fault x) → ⊥
    none_of x h (inl p) = subst (λ y. T (below_9 y)) p h
    none_of x h (inr p) = subst (λ y. T (below_9 y)) p h
