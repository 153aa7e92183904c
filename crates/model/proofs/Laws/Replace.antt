-- Replace: another value in the place of an operand rule (01, Evaluation): the rule that the new value is, and what its run gives.
use Rattle.std.specs.Prelude.{◌≡◌, refl, Bool, ◌&&◌, List, [], ◌∷◌, reverse, ℕ, zero, suc, leb, ℤ, length}
use Rattle.std.proofs.Common.{sym, subst, ap, ◌∙◌}
use Rattle.std.specs.Prelude.{Option, None, Some}
use Rattle.std.proofs.lemmas.Option.{same_Some}
use Rattle.model.specs.Bytes.{Bytes}
use Rattle.model.specs.Eval.{run, outcome}
use Rattle.model.proofs.Laws.Option.{none_some, bind_some, when_some}
use Rattle.model.specs.Judgement.{written, answer_of}
use Rattle.model.proofs.Laws.Unbegun.{Unbegun, unbegun_same}
use Rattle.model.specs.Option.{◌>>=◌, when}
use Rattle.model.specs.Path.{path_of, item_at}
use Rattle.model.specs.Place.{operands_in, rule_at, subrule, map_rule, map_operand, replace, operand_values_in, subvalue, map_item, map_operand_value, replace_value}
use Rattle.model.specs.Rule.{Operation, Rule, Rules, no_rules, rule, apply}
use Rattle.model.specs.Run.{Place, steps}
use Rattle.model.specs.Shape.{Keyword, Operand, keyword_named, unit_named, rules_of, exactly3, and_of, with_operands, with_string, scalar_content, build, literal_shape, list, shape, operands_of}
use Rattle.model.specs.Value.{Value, scalar, instant, array, object, Scalar, null, boolean, integer, string, Values, no_items, item, no_members, member, as_integer, as_string}

-- ---- one step down
-- The item at position k is the rule t, and Q holds of a change of both: f of the item, g of the rule.
abbrev ItemIs : Values → ℕ → Rule → ((Value → Value) → (Rule → Rule) → Type 0) → Type 0
ItemIs vs k t Q = (w : Value) × (item_at vs k ≡ Some w) × (shape w ≡ Some t) × ((f : Value → Value) (g : Rule → Rule) → shape (f w) ≡ Some (g t) → Q f g)

operands_some : (o : Option Rule) (p : Option Rules) (r : Rule) (rs : Rules) → (o >>= λ r₁. p >>= λ rs₁. Some (rule r₁ rs₁)) ≡ Some (rule r rs) → (o ≡ Some r) × (p ≡ Some rs)
operands_some None p r rs e = none_some e
operands_some (Some a) None r rs e = none_some e
operands_some (Some a) (Some l) r rs e = (cc, cc)

-- Of items that make a rule: its operand at a position is the item there, and a change of the item to another rule changes that operand alone.
abbrev Follows : (Values → Option Rule) → Type 0
Follows whole = (vs : Values) (r : Rule) (k : ℕ) (t : Rule) → whole vs ≡ Some r → rule_at (operands_in r) k ≡ Some t → ItemIs vs k t (λ f g. whole (map_item vs k f) ≡ Some (map_operand r k g))

-- Items that are all rules.
rules_item : (vs : Values) (rs : Rules) (k : ℕ) (t : Rule) → rules_of (operands_of vs) ≡ Some rs → rule_at rs k ≡ Some t → ItemIs vs k t (λ f g. rules_of (operands_of (map_item vs k f)) ≡ Some (map_rule rs k g))
unfolding shape
rules_item no_items rs k t e h = none_some {a = t} (cc)
rules_item (item v vs) no_rules k t e h = none_some h
rules_item (item v vs) (rule r rs) zero t e h =
    let (er, es) = operands_some (shape v) (rules_of (operands_of vs)) r rs e in
    (v, refl, er ∙ h, λ f g x. cc)
rules_item (item v vs) (rule r rs) (suc k) t e h =
    let (er, es) = operands_some (shape v) (rules_of (operands_of vs)) r rs e in
    let (w, there, is, change) = rules_item vs rs k t es h in
    (w, there, is, λ f g x. rw (er, change f g x))

-- What follows from the change of item and rule holds of it.
item_map : (vs : Values) (k : ℕ) (t : Rule) (Q R : (Value → Value) → (Rule → Rule) → Type 0) → ((f : Value → Value) (g : Rule → Rule) → Q f g → R f g) → ItemIs vs k t Q → ItemIs vs k t R
item_map vs k t Q R h (w, there, is, change) = (w, there, is, λ f g x. h f g (change f g x))

same_length : (vs : Values) (k : ℕ) (f : Value → Value) → length (operands_of (map_item vs k f)) ≡ length (operands_of vs)
unfolding shape
same_length no_items k f = refl
same_length (item v vs) zero f = refl
same_length (item v vs) (suc k) f = ap suc (same_length vs k f)

-- An operation of which every operand is a rule.
apply_item : (o : Operation) → Follows (λ vs. rules_of (operands_of vs) >>= λ rs. Some (apply o rs))
apply_item o vs r k t e h = bind_some (rules_of (operands_of vs)) _ e λ rs es er. item_map vs k t _ _ (λ f g x. cc) (rules_item vs rs k t es (cc))

-- `and`, whatever the number of its operands.
and_item : Follows (λ vs. rules_of (operands_of vs) >>= and_of)
and_item vs r k t e h = bind_some (rules_of (operands_of vs)) and_of e λ rs es er. go rs k es er h
  where
    go : (rs : Rules) (k : ℕ) → rules_of (operands_of vs) ≡ Some rs → and_of rs ≡ Some r → rule_at (operands_in r) k ≡ Some t → ItemIs vs k t (λ f g. (rules_of (operands_of (map_item vs k f)) >>= and_of) ≡ Some (map_operand r k g))
    go no_rules k es er h = none_some er
    go (rule a rs) zero es er h = item_map vs 0 t _ _ (λ f g x. cc) (rules_item vs (rule a rs) 0 t es (cc))
    go (rule a rs) (suc k) es er h = item_map vs (suc k) t _ _ (λ f g x. cc) (rules_item vs (rule a rs) (suc k) t es (cc))

-- With a test of the number of operands.
when_item : (fits : ℕ → Bool) (whole : Values → Option Rule) → Follows whole → Follows (λ vs. when (fits (length (operands_of vs))) (whole vs))
when_item fits whole p vs r k t e h =
    let (e₁, e₂) = when_some (fits (length (operands_of vs))) (whole vs) e in
    item_map vs k t _ _ (λ f g x. cc (same_length vs k f)) (p vs r k t e₂ h)

-- `if` and `reduce`: exactly three operands, all rules.
abbrev Ternary : (Rule → Rule → Rule → Rule) → Type 0
Ternary make = (a b c : Rule) → (operands_in (make a b c) ≡ rule a (rule b (rule c no_rules)))
    × ((g : Rule → Rule) → (map_operand (make a b c) 0 g ≡ make (g a) b c) × (map_operand (make a b c) 1 g ≡ make a (g b) c) × (map_operand (make a b c) 2 g ≡ make a b (g c)))

abbrev three : (Rule → Rule → Rule → Rule) → List Operand → Option Rule
three make l =
    exactly3 l λ a b c. do
      x ← a.as_rule
      y ← b.as_rule
      z ← c.as_rule
      Some (make x y z)

three_item : (make : Rule → Rule → Rule → Rule) → Ternary make → Follows (λ vs. three make (operands_of vs))
unfolding shape
three_item make p no_items r k t e h = none_some e
three_item make p (item a no_items) r k t e h = none_some e
three_item make p (item a (item b no_items)) r k t e h = none_some e
three_item make p (item a (item b (item c no_items))) r k t e h =
    bind_some (shape a) _ e λ x ex e₁.
    bind_some (shape b) _ e₁ λ y ey e₂.
    bind_some (shape c) _ e₂ λ z ez e₃.
    go x y z k ex ey ez e₃ h
  where
    go : (x y z : Rule) (k : ℕ) → shape a ≡ Some x → shape b ≡ Some y → shape c ≡ Some z → Some (make x y z) ≡ Some r → rule_at (operands_in r) k ≡ Some t
        → ItemIs (item a (item b (item c no_items))) k t (λ f g. three make (operands_of (map_item (item a (item b (item c no_items))) k f)) ≡ Some (map_operand r k g))
    go x y z zero ex ey ez e h = (a, refl, cc (p x y z).0, λ f g w. cc ((p x y z).0, ((p x y z).1 g).0))
    go x y z (suc zero) ex ey ez e h = (b, refl, cc (p x y z).0, λ f g w. cc ((p x y z).0, ((p x y z).1 g).1))
    go x y z (suc (suc zero)) ex ey ez e h = (c, refl, cc (p x y z).0, λ f g w. cc ((p x y z).0, ((p x y z).1 g).2))
    go x y z (suc (suc (suc k))) ex ey ez e h = none_some {a = t} (cc (p x y z).0)
three_item make p (item a (item b (item c (item d vs)))) r k t e h = none_some e

-- `plusTime` and `extractFromUVCI`: only the first operand is a rule; the bare values after it say which operation takes it.
abbrev Unary : (Rule → Option Rule) → Type 0
Unary make = (o : Operation) × ((x : Rule) → make x ≡ Some (apply o (rule x no_rules)))

first_item : (make : Rule → Option Rule) → ((x r : Rule) → make x ≡ Some r → Unary make) → (whole : Values → Option Rule) (a : Value) (vs : Values) → ((v : Value) → whole (item v vs) ≡ (shape v >>= make))
    → (r : Rule) (k : ℕ) (t : Rule) → whole (item a vs) ≡ Some r → rule_at (operands_in r) k ≡ Some t → ItemIs (item a vs) k t (λ f g. whole (map_item (item a vs) k f) ≡ Some (map_operand r k g))
first_item make unary whole a vs same r k t e h = bind_some (shape a) make (sym (same a) ∙ e) λ x ex er. go x k (unary x r er) ex er h
  where
    go : (x : Rule) (k : ℕ) → Unary make → shape a ≡ Some x → make x ≡ Some r → rule_at (operands_in r) k ≡ Some t → ItemIs (item a vs) k t (λ f g. whole (map_item (item a vs) k f) ≡ Some (map_operand r k g))
    go x zero (o, p) ex er h = (a, refl, cc (p x), λ f g w. cc (same (f a), p x, p (g x)))
    go x (suc k) (o, p) ex er h = none_some {a = t} (cc (p x))

abbrev plus_time_of : Option ℤ → Option Bytes → Rule → Option Rule
plus_time_of amount unit r = do
  n ← amount
  s ← unit
  u ← unit_named s
  Some (apply (Operation.plus_time n u) (rule r no_rules))

plus_time_unary : (amount : Option ℤ) (unit : Option Bytes) (x r : Rule) → plus_time_of amount unit x ≡ Some r → Unary (plus_time_of amount unit)
plus_time_unary None unit x r e = none_some e
plus_time_unary (Some n) None x r e = none_some e
plus_time_unary (Some n) (Some s) x r e = bind_some (unit_named s) _ e λ u eu er. (Operation.plus_time n u, λ y. rw eu)

abbrev extract_of : Option ℤ → Rule → Option Rule
extract_of index r = do
  n ← index
  Some (apply (Operation.extract_from_uvci n) (rule r no_rules))

extract_unary : (index : Option ℤ) (x r : Rule) → extract_of index x ≡ Some r → Unary (extract_of index)
extract_unary None x r e = none_some e
extract_unary (Some n) x r e = (Operation.extract_from_uvci n, λ y. refl)

-- All the operators.
operands_item : (o : Keyword) → Follows (λ vs. with_operands o (operands_of vs))
unfolding shape
operands_item Keyword.var vs r k t e h = none_some e
operands_item Keyword.if vs r k t e h = three_item Rule.if (λ a b c. (refl, λ g. (refl, refl, refl))) vs r k t e h
operands_item Keyword.reduce vs r k t e h = three_item Rule.reduce (λ a b c. (refl, λ g. (refl, refl, refl))) vs r k t e h
operands_item Keyword.and vs r k t e h = when_item (leb 2) (λ us. rules_of (operands_of us) >>= and_of) and_item vs r k t e h
operands_item Keyword.plus_time no_items r k t e h = none_some e
operands_item Keyword.plus_time (item a no_items) r k t e h = none_some e
operands_item Keyword.plus_time (item a (item b no_items)) r k t e h = none_some e
operands_item Keyword.plus_time (item a (item b (item c no_items))) r k t e h =
    first_item (plus_time_of (as_integer b) (as_string c)) (plus_time_unary (as_integer b) (as_string c)) (λ vs. with_operands Keyword.plus_time (operands_of vs)) a (item b (item c no_items)) (λ v. refl) r k t e h
operands_item Keyword.plus_time (item a (item b (item c (item d vs)))) r k t e h = none_some e
operands_item Keyword.extract_from_uvci no_items r k t e h = none_some e
operands_item Keyword.extract_from_uvci (item a no_items) r k t e h = none_some e
operands_item Keyword.extract_from_uvci (item a (item b no_items)) r k t e h =
    first_item (extract_of (as_integer b)) (extract_unary (as_integer b)) (λ vs. with_operands Keyword.extract_from_uvci (operands_of vs)) a (item b no_items) (λ v. refl) r k t e h
operands_item Keyword.extract_from_uvci (item a (item b (item c vs))) r k t e h = none_some e
operands_item (Keyword.counted least most o) vs r k t e h = when_item (λ n. leb least n && leb n most) (λ us. rules_of (operands_of us) >>= λ rs. Some (apply o rs)) (apply_item o) vs r k t e h

-- What is written with a string, and any other scalar, has no operand; nor has a literal.
string_none : {X : Type 0} (o : Keyword) (s : Bytes) (r : Rule) (k : ℕ) (t : Rule) → with_string o s ≡ Some r → rule_at (operands_in r) k ≡ Some t → X
string_none Keyword.var s r k t e h = bind_some (path_of s) _ e λ q eq er. none_some {a = t} (cc)
string_none Keyword.if s r k t e h = none_some e
string_none Keyword.reduce s r k t e h = none_some e
string_none Keyword.and s r k t e h = none_some e
string_none Keyword.plus_time s r k t e h = none_some e
string_none Keyword.extract_from_uvci s r k t e h = none_some e
string_none (Keyword.counted least most o) s r k t e h = none_some e

scalar_none : {X : Type 0} (o : Keyword) (x : Scalar) (r : Rule) (k : ℕ) (t : Rule) → build (scalar_content x) o ≡ Some r → rule_at (operands_in r) k ≡ Some t → X
scalar_none o null r k t e h = none_some e
scalar_none o (boolean b) r k t e h = none_some e
scalar_none o (integer z) r k t e h = none_some e
scalar_none o (string s) r k t e h = string_none o s r k t e h

literal_none : {X : Type 0} (x : Scalar) (r : Rule) (k : ℕ) (t : Rule) → literal_shape x ≡ Some r → rule_at (operands_in r) k ≡ Some t → X
literal_none null r k t e h = none_some e
literal_none (boolean b) r k t e h = none_some {a = t} (cc)
literal_none (integer z) r k t e h = none_some {a = t} (cc)
literal_none (string s) r k t e h = none_some {a = t} (cc)

-- The operand rule at a position is the item at that position, and a change of the item to another rule changes that operand alone.
shape_item : (v : Value) (r : Rule) (k : ℕ) (t : Rule) → shape v ≡ Some r → rule_at (operands_in r) k ≡ Some t → ItemIs (operand_values_in v) k t (λ f g. shape (map_operand_value v k f) ≡ Some (map_operand r k g))
unfolding shape
shape_item (scalar x) r k t e h = literal_none x r k t e h
shape_item (instant z) r k t e h = none_some e
shape_item (array vs) r k t e h = apply_item Operation.array vs r k t e h
shape_item (object no_members) r k t e h = none_some e
shape_item (object (member name (scalar x) no_members)) r k t e h = bind_some (keyword_named name) _ e λ o eo er. scalar_none o x r k t er h
shape_item (object (member name (instant z) no_members)) r k t e h = bind_some (keyword_named name) _ e λ o eo er. none_some er
shape_item (object (member name (array vs) no_members)) r k t e h =
    bind_some (keyword_named name) _ e λ o eo er. item_map vs k t _ _ (λ f g x. ap (λ a. a >>= build (list (operands_of (map_item vs k f)))) eo ∙ x) (operands_item o vs r k t er h)
shape_item (object (member name (object ms) no_members)) r k t e h = bind_some (keyword_named name) _ e λ o eo er. none_some er
shape_item (object (member name v (member name₂ v₂ ms))) r k t e h = none_some e

-- ---- at any depth
-- A rule's operand rules are the shapes of the value's parts at the same places.
pub part_shape : (q : Place) (v : Value) (r s : Rule) → shape v ≡ Some r → subrule q r ≡ Some s → (w : Value) × (subvalue q v ≡ Some w) × (shape w ≡ Some s)
part_shape [] v r s e h = (v, refl, e ∙ h)
part_shape (k ∷ q) v r s e h =
    bind_some (rule_at (operands_in r) k) (subrule q) h λ t et es.
    let (u, there, is, change) = shape_item v r k t e et in
    let (w, inner, shaped) = part_shape q u t s is es in
    (w, ap (λ o. o >>= subvalue q) there ∙ inner, shaped)

-- With another rule in the place of an operand rule, a value of right shape is of right shape, and is the rule with that operand replaced.
pub replace_shape : (q : Place) (v new : Value) (r s t : Rule) → shape v ≡ Some r → shape new ≡ Some s → subrule q r ≡ Some t → shape (replace_value q new v) ≡ Some (replace q s r)
replace_shape [] v new r s t e n h = n
replace_shape (k ∷ q) v new r s t e n h =
    bind_some (rule_at (operands_in r) k) (subrule q) h λ u eu et.
    let (w, there, is, change) = shape_item v r k u e eu in
    change (replace_value q new) (replace q s) (replace_shape q w new u s t is n et)

-- If an operand rule is not begun, another rule in its place gives the same value or refusal, in as many steps.
pub unbegun_same_value : (v new c : Value) (r s t : Rule) (q : Place) (n : ℕ) → shape v ≡ Some r → shape new ≡ Some s → subrule q r ≡ Some t → Unbegun (reverse q) (run r c n)
    → (r' : Rule) → shape (replace_value q new v) ≡ Some r' → (outcome (run r' c n) ≡ outcome (run r c n)) × (steps (run r' c n) ≡ steps (run r c n))
unbegun_same_value v new c r s t q n er es et h r' e =
    let made : replace q s r ≡ r' = same_Some (replace q s r) r' (sym (replace_shape q v new r s t er es et) ∙ e) in
    subst (λ (x : Rule). (outcome (run x c n) ≡ outcome (run r c n)) × (steps (run x c n) ≡ steps (run r c n))) made (unbegun_same q s r c n h)

-- So the whole answer is the same: the text or the refusal, and the steps, whatever the output area's size.
pub unbegun_same_answer : (v new c : Value) (r s t : Rule) (q : Place) (n room : ℕ) → shape v ≡ Some r → shape new ≡ Some s → subrule q r ≡ Some t → Unbegun (reverse q) (run r c n)
    → (r' : Rule) → shape (replace_value q new v) ≡ Some r' → answer_of r' c n room ≡ answer_of r c n room
unbegun_same_answer v new c r s t q n room er es et h r' e =
    let same = unbegun_same_value v new c r s t q n er es et h r' e in
    λ i. record { result = written room (same.0 i); steps_begun = same.1 i }
