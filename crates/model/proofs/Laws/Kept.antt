-- Kept: what evaluation keeps. A property of values that the steps of evaluation keep, and that holds of the rule and of the record, holds of the answer.
use Rattle.std.specs.Prelude.{◌≡◌, Bool, true, false, ◌&&◌, cond, ℕ, zero, suc, T, ℤ, pos, negsuc, ◌+ℤ◌, length}
use mathlib.Core.List.{List, [], ◌∷◌}
use Rattle.std.specs.Prelude.{Option, Some}
use Rattle.std.proofs.Math.Dec.{leb}
use Rattle.model.specs.Bytes.{Bytes, ascii, same_bytes, split_on}
use Rattle.model.specs.DateText.{date_text, day_text}
use Rattle.model.specs.Eval.{context, body, body_all, body_and, eval, run, value, outcome}
use Rattle.model.specs.Instant.{in_range}
use Rattle.model.specs.Operations.{unary, binary, equality, membership, negated, numbers, sum, plus_time, date_of_birth, is_uvci_separator, drop_prefix, nth_string, fragment, extract_from_uvci, operate}
use Rattle.model.specs.Option.{◌>>=◌}
use Rattle.model.specs.Path.{path_of}
use Rattle.model.specs.declared.refusal.Fault.TheVariants.{WrongKind, OutOfRange}
use Rattle.model.specs.Result
use Rattle.model.specs.Result.{Result, ok, required}
use Rattle.model.specs.Rule.{Operation, Rule, literal, var, if, and, reduce, apply, Rules, no_rules, rule, literal_value}
use Rattle.model.specs.Run
use Rattle.model.specs.Run.{Name, Run, return, lift}
use Rattle.model.specs.Shape.{Keyword, Operand, keyword_named, unit_named, rules_of, exactly2, exactly3, and_of, with_operands, with_string, Content, text, list, other, scalar_content, build, literal_shape, shape, operands_of, object_shape, content_of}
use Rattle.model.specs.Shift.{shift}
use Rattle.model.specs.Truth.{Truth, truthy, falsy, neither, truth}
use Rattle.model.specs.Value.{Value, scalar, instant, array, object, Scalar, null, boolean, integer, string, Values, no_items, item, Members, no_members, member, as_scalar, as_array, as_integer, as_string, within_limits}
use Rattle.model.proofs.Laws.DateText.{day_in_range}
use Rattle.model.proofs.Laws.Lookup.{Inherited, value_at_inherits}
use Rattle.model.proofs.Laws.Option.{All, all_some, all_bind, all_then, all_when}
use Rattle.model.proofs.Laws.Result.{Any, Yields, yields_intro, yields_bind, yields_provided}
use Rattle.model.proofs.Laws.Runs.{Always, always_lift, always_begin, always_bind, always_branch, always_go_on, always_fold, always_value}
use Rattle.model.proofs.Laws.Shift.{shift_in_range}
use Rattle.model.specs.declared.TimeUnit.{TimeUnit}

-- P holds of every element of a list.
abbrev pub Each : {A : Type 0} → (A → Type 0) → List A → Type 0
Each P [] = Unit {0}
Each P (a ∷ l) = P a × Each P l

pub each_of : {A : Type 0} (P : A → Type 0) → ((a : A) → P a) → (l : List A) → Each P l
each_of P h [] = tt
each_of P h (a ∷ l) = (h a, each_of P h l)

-- Every step of evaluation keeps P: it holds of the parts of what has it, of what operations give by themselves,
-- and of the arrays, the contexts of lambdas and the fragments of strings that are made of what has it.
pub record Kept (P : Value → Type 0) : Type 0 where
  pub inherited : Inherited P
  pub of_null : P (scalar null)
  pub of_boolean : (b : Bool) → P (scalar (boolean b))
  pub of_integer : (z : ℤ) → T (within_limits z) → P (scalar (integer z))
  pub of_instant : (t : ℤ) → T (in_range t) → P (instant t)
  pub of_no_items : P (array no_items)
  pub of_item : (v : Value) (vs : Values) → P v → P (array vs) → P (array (item v vs))
  pub of_context : (cur acc : Value) → P cur → P acc → P (context cur acc)
  pub of_fragments : (s : Bytes) → P (scalar (string s)) → Each (λ f. P (scalar (string f))) (split_on is_uvci_separator s)

-- ---- literals
-- P holds of the value of every literal in a rule. The bare integers of `plusTime` and `extractFromUVCI` are no literals.
unfoldable mutual
  pub Literals : (Value → Type 0) → Rule → Type 0
  Literals P (literal l) = P (literal_value l)
  Literals P (var q) = Unit {0}
  Literals P (if guard second third) = Literals P guard × Literals P second × Literals P third
  Literals P (and r rs) = Literals P r × LiteralsAll P rs
  Literals P (reduce r lambda initial) = Literals P r × Literals P lambda × Literals P initial
  Literals P (apply o rs) = LiteralsAll P rs

  pub LiteralsAll : (Value → Type 0) → Rules → Type 0
  LiteralsAll P no_rules = Unit {0}
  LiteralsAll P (rule r rs) = Literals P r × LiteralsAll P rs

-- ---- the shape of a rule
module _ (P : Value → Type 0) (inherited : Inherited P) where
  abbrev OfOperand : Operand → Type 0
  OfOperand a = All (Literals P) a.as_rule

  abbrev OfOperands : List Operand → Type 0
  OfOperands l = Each OfOperand l

  rules_of_kept : (l : List Operand) → OfOperands l → All (LiteralsAll P) (rules_of l)
  unfolding Literals
  rules_of_kept [] h = tt
  rules_of_kept (a ∷ l) h =
      all_bind (Literals P) _ a.as_rule _ h.0 λ r x.
      all_bind (LiteralsAll P) _ (rules_of l) _ (rules_of_kept l h.1) λ rs y.
      (x, y)

  exactly2_kept : (f : Operand → Operand → Option Rule) → ((a b : Operand) → OfOperand a → All (Literals P) (f a b)) → (l : List Operand) → OfOperands l → All (Literals P) (exactly2 l f)
  exactly2_kept f m [] h = tt
  exactly2_kept f m (a ∷ []) h = tt
  exactly2_kept f m (a ∷ b ∷ []) h = m a b h.0
  exactly2_kept f m (a ∷ b ∷ c ∷ l) h = tt

  exactly3_kept : (f : Operand → Operand → Operand → Option Rule) → ((a b c : Operand) → OfOperand a → OfOperand b → OfOperand c → All (Literals P) (f a b c)) → (l : List Operand) → OfOperands l → All (Literals P) (exactly3 l f)
  exactly3_kept f m [] h = tt
  exactly3_kept f m (a ∷ []) h = tt
  exactly3_kept f m (a ∷ b ∷ []) h = tt
  exactly3_kept f m (a ∷ b ∷ c ∷ []) h = m a b c h.0 h.1.0 h.1.1.0
  exactly3_kept f m (a ∷ b ∷ c ∷ d ∷ l) h = tt

  -- A rule of three rules: `if` and `reduce`.
  three_kept : (make : Rule → Rule → Rule → Rule) → ((x y z : Rule) → Literals P x × Literals P y × Literals P z → Literals P (make x y z))
      → (a b c : Operand) → OfOperand a → OfOperand b → OfOperand c → All (Literals P) (a.as_rule >>= λ x. b.as_rule >>= λ y. c.as_rule >>= λ z. Some (make x y z))
  three_kept make m a b c h k j =
      all_bind (Literals P) (Literals P) a.as_rule _ h λ x p.
      all_bind (Literals P) (Literals P) b.as_rule _ k λ y q.
      all_bind (Literals P) (Literals P) c.as_rule _ j λ z r.
      m x y z (p, q, r)

  and_of_kept : (rs : Rules) → LiteralsAll P rs → All (Literals P) (and_of rs)
  unfolding Literals
  and_of_kept no_rules h = tt
  and_of_kept (rule r rs) h = h

  with_operands_kept : (o : Keyword) (l : List Operand) → OfOperands l → All (Literals P) (with_operands o l)
  unfolding Literals
  with_operands_kept Keyword.var l h = tt
  with_operands_kept Keyword.if l h = exactly3_kept _ (three_kept if (λ x y z k. k)) l h
  with_operands_kept Keyword.reduce l h = exactly3_kept _ (three_kept reduce (λ x y z k. k)) l h
  with_operands_kept Keyword.and l h = all_when (Literals P) (leb 2 (length l)) _ (all_bind _ (Literals P) (rules_of l) and_of (rules_of_kept l h) and_of_kept)
  with_operands_kept Keyword.plus_time l h =
      exactly3_kept _ (λ a b c k _ _.
      all_bind (Literals P) (Literals P) a.as_rule _ k λ r x.
      all_then (Literals P) (as_integer b.value) _ λ n.
      all_then (Literals P) (as_string c.value) _ λ s.
      all_then (Literals P) (unit_named s) _ λ u.
      (x, tt)) l h
  with_operands_kept Keyword.extract_from_uvci l h =
      exactly2_kept _ (λ a b k.
      all_bind (Literals P) (Literals P) a.as_rule _ k λ r x.
      all_then (Literals P) (as_integer b.value) _ λ n.
      (x, tt)) l h
  with_operands_kept (Keyword.counted least most o) l h =
      all_when (Literals P) (leb least (length l) && leb (length l) most) _ (all_bind _ (Literals P) (rules_of l) _ (rules_of_kept l h) (λ rs x. x))

  with_string_kept : (o : Keyword) (s : Bytes) → All (Literals P) (with_string o s)
  unfolding Literals
  with_string_kept Keyword.var s = all_then (Literals P) (path_of s) _ (λ q. tt)
  with_string_kept Keyword.if s = tt
  with_string_kept Keyword.reduce s = tt
  with_string_kept Keyword.and s = tt
  with_string_kept Keyword.plus_time s = tt
  with_string_kept Keyword.extract_from_uvci s = tt
  with_string_kept (Keyword.counted least most o) s = tt

  abbrev OfContent : Content → Type 0
  OfContent (text s) = Unit {0}
  OfContent (list l) = OfOperands l
  OfContent other = Unit {0}

  build_kept : (c : Content) (o : Keyword) → OfContent c → All (Literals P) (build c o)
  build_kept (text s) o h = with_string_kept o s
  build_kept (list l) o h = with_operands_kept o l h
  build_kept other o h = tt

  literal_kept : (x : Scalar) → P (scalar x) → All (Literals P) (literal_shape x)
  unfolding Literals
  literal_kept null h = tt
  literal_kept (boolean b) h = h
  literal_kept (integer z) h = h
  literal_kept (string s) h = h

  scalar_content_lem : (x : Scalar) → OfContent (scalar_content x)
  scalar_content_lem null = tt
  scalar_content_lem (boolean b) = tt
  scalar_content_lem (integer z) = tt
  scalar_content_lem (string s) = tt

  mutual
    unfolding shape Literals

    all_shape : (v : Value) → P v → All (Literals P) (shape v)
    all_shape (scalar x) h = literal_kept x h
    all_shape (instant t) h = tt
    all_shape (array vs) h = all_bind _ (Literals P) (rules_of (operands_of vs)) _ (rules_of_kept (operands_of vs) (all_operands vs h)) (λ rs x. x)
    all_shape (object ms) h = all_object ms h

    all_operands : (vs : Values) → P (array vs) → OfOperands (operands_of vs)
    all_operands no_items h = tt
    all_operands (item v vs) h = (all_shape v (inherited.by_items v vs h).0, all_operands vs (inherited.by_items v vs h).1)

    all_object : (ms : Members) → P (object ms) → All (Literals P) (object_shape ms)
    all_object no_members h = tt
    all_object (member name v no_members) h = all_then (Literals P) (keyword_named name) _ (λ o. build_kept (content_of v) o (all_content v (inherited.by_members name v no_members h).0))
    all_object (member name v (member name₂ v₂ ms)) h = tt

    all_content : (v : Value) → P v → OfContent (content_of v)
    all_content (scalar x) h = scalar_content_lem x
    all_content (instant t) h = tt
    all_content (array vs) h = all_operands vs h
    all_content (object ms) h = tt

  -- The rule that a value is has its literals from the value.
  pub shape_kept : (v : Value) (r : Rule) → shape v ≡ Some r → P v → Literals P r
  shape_kept v r e h = all_some (Literals P) (all_shape v h) e

module _ (P : Value → Type 0) (kept : Kept P) where
  -- ---- operations
  -- A value of which P holds, or any fault.
  abbrev Gives : Result Value → Type 0
  Gives r = Yields Any P r

  -- What a first result is known to be, if it is a value, for a second one.
  gives_then : {A : Type 0} (Q : A → Type 0) (r : Result A) (f : A → Result Value) → ((a : A) → r ≡ ok a → Q a) → ((a : A) → Q a → Gives (f a)) → Gives (Result.◌>>=◌ r f)
  gives_then Q r f h k = yields_bind Any Q P r f (yields_intro Any Q r h (λ e x. tt)) k

  gives_any : {A : Type 0} (r : Result A) (f : A → Result Value) → ((a : A) → Gives (f a)) → Gives (Result.◌>>=◌ r f)
  gives_any r f k = gives_then Any r f (λ a e. tt) (λ a x. k a)

  unary_kept : (f : Value → Result Value) → ((v : Value) → P v → Gives (f v)) → (vs : Values) → P (array vs) → Gives (unary f vs)
  unary_kept f m no_items h = tt
  unary_kept f m (item a no_items) h = m a (kept.inherited.by_items a no_items h).0
  unary_kept f m (item a (item b vs)) h = tt

  binary_kept : (f : Value → Value → Result Value) → ((v w : Value) → Gives (f v w)) → (vs : Values) → Gives (binary f vs)
  binary_kept f m no_items = tt
  binary_kept f m (item a no_items) = tt
  binary_kept f m (item a (item b no_items)) = m a b
  binary_kept f m (item a (item b (item c vs))) = tt

  equality_kept : (a b : Value) → Gives (equality a b)
  equality_kept a b = gives_any (required WrongKind (as_scalar a)) _ λ x. gives_any (required WrongKind (as_scalar b)) _ λ y. kept.of_boolean _

  membership_kept : (a b : Value) → Gives (membership a b)
  membership_kept a b = gives_any (required WrongKind (as_scalar a)) _ λ x. gives_any (required WrongKind (as_array b)) _ λ vs. kept.of_boolean _

  sum_kept : (a b : Value) → Gives (sum a b)
  sum_kept a b =
      gives_any (required WrongKind (as_integer a)) _ λ m.
      gives_any (required WrongKind (as_integer b)) _ λ n.
      yields_provided Any P (within_limits (m +ℤ n)) OutOfRange _ tt λ h.
      kept.of_integer (m +ℤ n) h

  negated_kept : (t : Truth) → Gives (negated t)
  negated_kept truthy = kept.of_boolean _
  negated_kept falsy = kept.of_boolean _
  negated_kept neither = tt

  birth_kept : (v : Value) → Gives (date_of_birth v)
  birth_kept v = gives_any (required WrongKind (as_string v)) _ λ s. gives_then (λ t. T (in_range t)) (day_text s) _ (day_in_range s) λ t h. kept.of_instant t h

  plus_time_kept : (amount : ℤ) (unit : TimeUnit) (v : Value) → Gives (plus_time amount unit v)
  plus_time_kept amount unit v =
      gives_any (required WrongKind (as_string v)) _ λ s.
      gives_any (date_text s) _ λ t.
      gives_then (λ r. T (in_range r)) (shift t amount unit) _ (shift_in_range t amount unit) λ r h.
      kept.of_instant r h

  abbrev OfFragments : List Bytes → Type 0
  OfFragments l = Each (λ f. P (scalar (string f))) l

  drop_prefix_kept : (l : List Bytes) → OfFragments l → OfFragments (drop_prefix l)
  drop_prefix_kept [] h = h
  drop_prefix_kept (a ∷ []) h = h
  drop_prefix_kept (a ∷ b ∷ l) h = go (same_bytes a (ascii "URN") && same_bytes b (ascii "UVCI"))
    where
      go : (t : Bool) → OfFragments (cond t l (a ∷ b ∷ l))
      go true = h.1.1
      go false = h

  nth_kept : (l : List Bytes) (k : ℕ) → OfFragments l → P (nth_string l k)
  nth_kept [] k h = kept.of_null
  nth_kept (f ∷ l) zero h = h.0
  nth_kept (f ∷ l) (suc k) h = nth_kept l k h.1

  fragment_kept : (l : List Bytes) (k : ℤ) → OfFragments l → P (fragment l k)
  fragment_kept l (pos k) h = nth_kept l k h
  fragment_kept l (negsuc k) h = kept.of_null

  extract_kept : (k : ℤ) (v : Value) → P v → Gives (extract_from_uvci k v)
  extract_kept k (scalar null) h = kept.of_null
  extract_kept k (scalar (boolean b)) h = tt
  extract_kept k (scalar (integer z)) h = tt
  extract_kept k (scalar (string s)) h = fragment_kept (drop_prefix (split_on is_uvci_separator s)) k (drop_prefix_kept (split_on is_uvci_separator s) (kept.of_fragments s h))
  extract_kept k (instant t) h = tt
  extract_kept k (array vs) h = tt
  extract_kept k (object ms) h = tt

  -- An operation on values of which P holds gives such a value, or a fault.
  operate_kept : (o : Operation) (vs : Values) → P (array vs) → Gives (operate o vs)
  operate_kept Operation.array vs h = h
  operate_kept Operation.equal vs h = binary_kept equality equality_kept vs
  operate_kept Operation.member_of vs h = binary_kept membership membership_kept vs
  operate_kept Operation.plus vs h = binary_kept sum sum_kept vs
  operate_kept Operation.not vs h = unary_kept (λ v. negated (truth v)) (λ v k. negated_kept (truth v)) vs h
  operate_kept Operation.date_of_birth vs h = unary_kept date_of_birth (λ v k. birth_kept v) vs h
  operate_kept (Operation.compare d c) vs h = gives_any (numbers d vs) _ λ ns. kept.of_boolean _
  operate_kept (Operation.plus_time amount unit) vs h = unary_kept (plus_time amount unit) (λ v k. plus_time_kept amount unit v) vs h
  operate_kept (Operation.extract_from_uvci k) vs h = unary_kept (extract_from_uvci k) (extract_kept k) vs h

  -- ---- runs
  -- Values of which P holds, or any refusal.
  abbrev Runs : Run Value → Type 0
  Runs m = Always Any P m

  abbrev OfItems : Values → Type 0
  OfItems vs = P (array vs)

  array_kept : (v : Value) → P v → Yields Any OfItems (required WrongKind (as_array v))
  array_kept (scalar x) h = tt
  array_kept (instant t) h = tt
  array_kept (array vs) h = h
  array_kept (object ms) h = tt

  eval_kept : (r : Rule) (p : Name) (c : Value) → Runs (body r p c) → Runs (eval r p c)
  eval_kept r p c h = always_begin Any P p (body r p c) tt h

  -- A rule, and what is done with its value.
  eval_then : {A : Type 0} (Q : A → Type 0) (r : Rule) (p : Name) (c : Value) (f : Value → Run A) → Runs (body r p c) → ((v : Value) → P v → Always Any Q (f v)) → Always Any Q (Run.◌>>=◌ (eval r p c) f)
  eval_then Q r p c f h k = always_bind Any P Q (eval r p c) f (eval_kept r p c h) k

  mutual
    unfolding body Literals

    body_kept : (r : Rule) (p : Name) (c : Value) → Literals P r → P c → Runs (body r p c)
    body_kept (literal l) p c h k = λ n. h
    body_kept (var q) p c h k = λ n. value_at_inherits P kept.inherited kept.of_null q c k
    body_kept (if guard second third) p c h k =
        eval_then P guard (0 ∷ p) c _ (body_kept guard (0 ∷ p) c h.0 k) λ v x.
        always_branch Any P (truth v) (eval second (1 ∷ p) c) (eval third (2 ∷ p) c)
        (eval_kept second (1 ∷ p) c (body_kept second (1 ∷ p) c h.1 k))
        (eval_kept third (2 ∷ p) c (body_kept third (2 ∷ p) c h.2 k))
    body_kept (and r rs) p c h k =
        eval_then P r (0 ∷ p) c _ (body_kept r (0 ∷ p) c h.0 k) λ v x.
        body_and_kept rs 1 p c v h.1 k x
    body_kept (reduce r lambda initial) p c h k =
        eval_then P r (0 ∷ p) c _ (body_kept r (0 ∷ p) c h.0 k) λ v x.
        eval_then P initial (2 ∷ p) c _ (body_kept initial (2 ∷ p) c h.2 k) λ i y.
        always_bind Any OfItems P (lift (required WrongKind (as_array v))) _ (always_lift Any Any OfItems (required WrongKind (as_array v)) (λ e z. tt) (array_kept v x)) λ vs z.
        always_fold Any P P OfItems kept.inherited.by_items (λ cur acc. eval lambda (1 ∷ p) (context cur acc))
        (λ cur acc a b. eval_kept lambda (1 ∷ p) (context cur acc) (body_kept lambda (1 ∷ p) (context cur acc) h.1 (kept.of_context cur acc a b)))
        vs z i y
    body_kept (apply o rs) p c h k =
        always_bind Any OfItems P (body_all rs 0 p c) _ (body_all_kept rs 0 p c h k) λ vs x.
        always_lift Any Any P (operate o vs) (λ e z. tt) (operate_kept o vs x)

    body_all_kept : (rs : Rules) (i : ℕ) (p : Name) (c : Value) → LiteralsAll P rs → P c → Always Any OfItems (body_all rs i p c)
    body_all_kept no_rules i p c h k = λ n. kept.of_no_items
    body_all_kept (rule r rs) i p c h k =
        eval_then OfItems r (i ∷ p) c _ (body_kept r (i ∷ p) c h.0 k) λ v x.
        always_bind Any OfItems OfItems (body_all rs (suc i) p c) _ (body_all_kept rs (suc i) p c h.1 k) λ vs y n.
        kept.of_item v vs x y

    body_and_kept : (rs : Rules) (i : ℕ) (p : Name) (c v : Value) → LiteralsAll P rs → P c → P v → Runs (body_and rs i p c v)
    body_and_kept no_rules i p c v h k x = always_go_on Any P (truth v) v (return v) (λ d. tt) x (λ n. x)
    body_and_kept (rule r rs) i p c v h k x =
        always_go_on Any P (truth v) v _ (λ d. tt) x
        (eval_then P r (i ∷ p) c _ (body_kept r (i ∷ p) c h.0 k) λ w y.
        body_and_kept rs (suc i) p c w h.1 k y)

  -- ---- a whole rule
  -- From literals and a record of which P holds evaluation gives a value of which P holds.
  pub run_kept : (r : Rule) (c : Value) (n : ℕ) (v : Value) → Literals P r → P c → outcome (run r c n) ≡ value v → P v
  run_kept r c n v h k = always_value Any P (run r c) (eval_kept r [] c (body_kept r [] c h k)) n v

  -- The same of a rule by its value.
  pub answer_kept : (rule c : Value) (r : Rule) (n : ℕ) (v : Value) → shape rule ≡ Some r → P rule → P c → outcome (run r c n) ≡ value v → P v
  answer_kept w c r n v is-rule h k = run_kept r c n v (shape_kept P kept.inherited w r is-rule h) k
