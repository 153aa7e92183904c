-- Written: the text of a well-formed value is a text of RFC 8259 and means that value; so within the limits it reads as it.
use Rattle.std.specs.Prelude.{◌≡◌, refl, true, false, not, T}
use Rattle.std.proofs.Common.{sym, subst, ap₂, ◌∙◌, T_not}
use Rattle.std.proofs.Math.Path.{ap}
use mathlib.Core.List.{List, [], ◌∷◌, ◌++◌, append-nil, append_assoc}
use Rattle.std.specs.Prelude.{Option, None, Some}
use Rattle.std.proofs.lemmas.Bool.{not-true}
use Rattle.std.proofs.Math.Dec.{not_T}
use Rattle.model.specs.Bounds.{bounded}
use Rattle.model.specs.Bytes.{Bytes, same_bytes}
use Rattle.model.proofs.Laws.Logic.{and_l, and_r, or_e, or_l, or_r, or_f, T→true, bytes→≡, bytes_refl}
use Rattle.model.specs.Value.{Value, scalar, instant, array, object, Scalar, null, boolean, integer, string, Values, no_items, item, Members, no_members, member, instant_free}
use Rattle.model.specs.Writing.{escaped_all, string_text, value_text, items_text, members_text}
use Rattle.syntax.specs.Grammar.{no_ws, no_frac, no_exp, JValue, jtrue, jfalse, jnull, jnumber, jstring, jempty_array, jarray, jempty_object, jobject, JElements, last_element, element, JMembers, last_member, jmember, JText, jtext, spell_ws, spell_frac, spell_exp, spell_chars, spell_value, spell_elements, spell_members, spell, plain, map, map₂, chars_meaning, fresh, seen_with, member_of, value_meaning, elements_meaning, members_meaning, meaning}
use Rattle.syntax.specs.Read.{among}
use Rattle.syntax.specs.WellFormed.{AllStrings, names, distinct_names, WellFormedValue}
use Rattle.syntax.proofs.Laws.WrittenNumbers.{derived_integer}
use Rattle.syntax.proofs.Laws.WrittenStrings.{DerivedString, derived_string}

-- ---- parts of a well-formed value
first_item : {v : Value} {vs : Values} → WellFormedValue (array (item v vs)) → WellFormedValue v
unfolding AllStrings distinct_names bounded instant_free
first_item {v} h = record {
  formed = record {
    utf8_strings = h.formed.utf8_strings.0;
    byte_strings = h.formed.byte_strings.0;
    distinct_names_lem = and_l (distinct_names v) _ h.formed.distinct_names_lem;
    within_limits_lem = and_l (bounded v) _ h.formed.within_limits_lem;
  };
  no_instants = and_l (instant_free v) _ h.no_instants;
}

other_items : {v : Value} {vs : Values} → WellFormedValue (array (item v vs)) → WellFormedValue (array vs)
unfolding AllStrings distinct_names bounded instant_free
other_items {v} h = record {
  formed = record {
    utf8_strings = h.formed.utf8_strings.1;
    byte_strings = h.formed.byte_strings.1;
    distinct_names_lem = and_r (distinct_names v) _ h.formed.distinct_names_lem;
    within_limits_lem = and_r (bounded v) _ h.formed.within_limits_lem;
  };
  no_instants = and_r (instant_free v) _ h.no_instants;
}

first_member : {n : Bytes} {v : Value} {ms : Members} → WellFormedValue (object (member n v ms)) → WellFormedValue v
unfolding AllStrings distinct_names bounded instant_free
first_member {n} {v} {ms} h = record {
  formed = record {
    utf8_strings = h.formed.utf8_strings.1;
    byte_strings = h.formed.byte_strings.1;
    distinct_names_lem = and_l (distinct_names v) _ (and_r (not (among n (names ms))) _ h.formed.distinct_names_lem);
    within_limits_lem = and_l (bounded v) _ h.formed.within_limits_lem;
  };
  no_instants = and_l (instant_free v) _ h.no_instants;
}

other_members : {n : Bytes} {v : Value} {ms : Members} → WellFormedValue (object (member n v ms)) → WellFormedValue (object ms)
unfolding AllStrings distinct_names bounded instant_free
other_members {n} {v} {ms} h = record {
  formed = record {
    utf8_strings = h.formed.utf8_strings.2;
    byte_strings = h.formed.byte_strings.2;
    distinct_names_lem = and_r (distinct_names v) _ (and_r (not (among n (names ms))) _ h.formed.distinct_names_lem);
    within_limits_lem = and_r (bounded v) _ h.formed.within_limits_lem;
  };
  no_instants = and_r (instant_free v) _ h.no_instants;
}

-- ---- scalars
-- A derivation of the text of a value, with that meaning.
record Derived (v : Value) : Type 0 where
  tree : JValue
  spells : (y : Bytes) → spell_value tree y ≡ value_text v ++ y
  means : value_meaning tree ≡ Some v

quoted : {s : Bytes} (d : DerivedString s) (y : Bytes) → ◌≡◌ {A = Bytes} (0x22 ∷ spell_chars d.chars (0x22 ∷ y)) (string_text s ++ y)
quoted {s} d y = ap (λ z. 0x22 ∷ z) (d.spells (0x22 ∷ y) ∙ sym (append_assoc (escaped_all s) (0x22 ∷ []) y))

derived_scalar : (x : Scalar) → WellFormedValue (scalar x) → Derived (scalar x)
unfolding AllStrings bounded value_text spell_value spell_frac spell_exp value_meaning plain map
derived_scalar null h = record { tree = jnull; spells = λ y. refl; means = refl }
derived_scalar (boolean true) h = record { tree = jtrue; spells = λ y. refl; means = refl }
derived_scalar (boolean false) h = record { tree = jfalse; spells = λ y. refl; means = refl }
derived_scalar (integer z) h = let d = derived_integer z h.formed.within_limits_lem in record { tree = jnumber d.negative d.digits no_frac no_exp; spells = d.spells; means = d.means }
derived_scalar (string s) h = let d = derived_string h.formed.utf8_strings in record { tree = jstring d.chars; spells = quoted d; means = ap (map (λ t. scalar (string t))) d.means }

-- ---- arrays
-- A derivation of the items of an array, up to its bracket.
record DerivedItems (v : Value) (vs : Values) : Type 0 where
  tree : JElements
  spells : (y : Bytes) → spell_elements tree y ≡ items_text (item v vs) [] ++ (0x5D ∷ y)
  means : elements_meaning tree ≡ Some (item v vs)

-- There is one unless there is no item.
abbrev AllDerived : Values → Type 0
AllDerived no_items = Unit {0}
AllDerived (item v vs) = DerivedItems v vs

derived_item : (v : Value) (vs : Values) → Derived v → AllDerived vs → DerivedItems v vs
unfolding items_text spell_elements spell_ws elements_meaning map map₂
derived_item v no_items d r = record {
  tree = last_element d.tree no_ws;
  spells = λ y. d.spells (0x5D ∷ y) ∙ sym (append_assoc (value_text v) [] (0x5D ∷ y));
  means = ap (map (λ x. item x no_items)) d.means;
}
derived_item v (item u us) d r = record {
  tree = element d.tree no_ws no_ws r.tree;
  spells = λ y. d.spells (0x2C ∷ spell_elements r.tree y) ∙ (ap (λ z. value_text v ++ (0x2C ∷ z)) (r.spells y) ∙ sym (append_assoc (value_text v) (items_text (item u us) (0x2C ∷ [])) (0x5D ∷ y)));
  means = ap₂ (map₂ item) d.means r.means;
}

derived_array : (vs : Values) → AllDerived vs → Derived (array vs)
unfolding value_text items_text spell_value spell_ws value_meaning map
derived_array no_items r = record { tree = jempty_array no_ws; spells = λ y. refl; means = refl }
derived_array (item v vs) r = record {
  tree = jarray no_ws r.tree;
  spells = λ y. ap (λ z. 0x5B ∷ z) (r.spells y ∙ sym (append_assoc (items_text (item v vs) []) (0x5D ∷ []) y));
  means = ap (map array) r.means;
}

-- ---- objects
-- None of the names seen is a name of the members.
Unseen : List Bytes → Members → Type 0
Unseen seen ms = (x : Bytes) → T (among x seen) → T (among x (names ms)) → ⊥

among_either : {X : Type 0} (x n : Bytes) (seen : List Bytes) → (T (among x seen) → X) → (x ≡ n → X) → T (among x (seen ++ (n ∷ []))) → X
unfolding among
among_either x n [] f g h = g (bytes→≡ x n (or_f (same_bytes x n) h))
among_either x n (z ∷ seen) f g h = or_e (same_bytes x z) _ (λ k. f (or_l (same_bytes x z) _ k)) (λ k. among_either x n seen (λ i. f (or_r (same_bytes x z) _ i)) g k) h

unseen_first : (seen : List Bytes) (n : Bytes) (v : Value) (ms : Members) → Unseen seen (member n v ms) → fresh seen (Some n) ≡ Some n
unfolding Unseen among fresh
unseen_first seen n v ms u = rw (not-true (among n seen) (T→true _ (not_T (among n seen) (λ h. u n h (or_l (same_bytes n n) _ (bytes_refl n))))), fresh)

unseen_others : (seen : List Bytes) (n : Bytes) (v : Value) (ms : Members) → T (not (among n (names ms))) → Unseen seen (member n v ms) → Unseen (seen ++ (n ∷ [])) ms
unfolding Unseen among
unseen_others seen n v ms d u x h k = among_either x n seen (λ i. u x i (or_r (same_bytes x n) _ k)) (λ e. T_not (among n (names ms)) d (subst (λ z. T (among z (names ms))) e k)) h

-- A derivation of the members of an object, up to its brace. It means them behind names that are none of theirs.
record DerivedMembers (n : Bytes) (v : Value) (ms : Members) : Type 0 where
  tree : JMembers
  spells : (y : Bytes) → spell_members tree y ≡ members_text (member n v ms) [] ++ (0x7D ∷ y)
  means : (seen : List Bytes) → Unseen seen (member n v ms) → members_meaning tree seen ≡ Some (member n v ms)

-- There is one unless there is no member.
abbrev AllNamed : Members → Type 0
AllNamed no_members = Unit {0}
AllNamed (member n v ms) = DerivedMembers n v ms

module _ (n : Bytes) (v : Value) (named : DerivedString n) (d : Derived v) where
  named_spells : (rest y : Bytes) → ◌≡◌ {A = Bytes} (0x22 ∷ spell_chars named.chars (0x22 ∷ 0x3A ∷ spell_value d.tree (rest ++ y))) ((string_text n ++ (0x3A ∷ (value_text v ++ rest))) ++ y)
  named_spells rest y =
      quoted named (0x3A ∷ spell_value d.tree (rest ++ y))
      ∙ (ap (λ z. string_text n ++ (0x3A ∷ z)) (d.spells (rest ++ y) ∙ sym (append_assoc (value_text v) rest y))
      ∙ sym (append_assoc (string_text n) (0x3A ∷ (value_text v ++ rest)) y))

  named_means :
      (ms : Members) (seen : List Bytes) (rest : List Bytes → Option Members) → Unseen seen (member n v ms) → rest (seen ++ (n ∷ [])) ≡ Some ms
      → member_of (fresh seen (chars_meaning named.chars None)) (value_meaning d.tree) (rest (seen_with seen (chars_meaning named.chars None))) ≡ Some (member n v ms)
  unfolding member_of seen_with
  named_means ms seen rest u e = rw (named.means, d.means, unseen_first seen n v ms u, e)

  derived_member : (ms : Members) → T (not (among n (names ms))) → AllNamed ms → DerivedMembers n v ms
  unfolding members_text spell_members spell_ws members_meaning
  derived_member no_members u r = record {
    tree = last_member named.chars no_ws no_ws d.tree no_ws;
    spells = λ y. named_spells [] (0x7D ∷ y);
    means = λ seen k. named_means no_members seen (λ x. Some no_members) k refl;
  }
  derived_member (member m w ms) u r = record {
    tree = jmember named.chars no_ws no_ws d.tree no_ws no_ws r.tree;
    spells = λ y. ap (λ z. 0x22 ∷ spell_chars named.chars (0x22 ∷ 0x3A ∷ spell_value d.tree (0x2C ∷ z))) (r.spells y) ∙ named_spells (members_text (member m w ms) (0x2C ∷ [])) (0x7D ∷ y);
    means = λ seen k. named_means (member m w ms) seen (members_meaning r.tree) k (r.means (seen ++ (n ∷ [])) (unseen_others seen n v (member m w ms) u k));
  }

derived_object : (ms : Members) → AllNamed ms → Derived (object ms)
unfolding value_text members_text spell_value spell_ws value_meaning map Unseen among
derived_object no_members r = record { tree = jempty_object no_ws; spells = λ y. refl; means = refl }
derived_object (member n v ms) r = record {
  tree = jobject no_ws r.tree;
  spells = λ y. ap (λ z. 0x7B ∷ z) (r.spells y ∙ sym (append_assoc (members_text (member n v ms) []) (0x7D ∷ []) y));
  means = ap (map object) (r.means [] (λ x h k. h));
}

-- ---- values
mutual
  unfolding AllStrings distinct_names instant_free

  derived : (v : Value) → WellFormedValue v → Derived v
  derived (scalar x) h = derived_scalar x h
  derived (instant t) h = absurd h.no_instants
  derived (array vs) h = derived_array vs (derived_items vs h)
  derived (object ms) h = derived_object ms (derived_members ms h)

  derived_items : (vs : Values) → WellFormedValue (array vs) → AllDerived vs
  derived_items no_items h = tt
  derived_items (item v vs) h = derived_item v vs (derived v (first_item h)) (derived_items vs (other_items h))

  derived_members : (ms : Members) → WellFormedValue (object ms) → AllNamed ms
  derived_members no_members h = tt
  derived_members (member n v ms) h =
      derived_member n v (derived_string h.formed.utf8_strings.0) (derived v (first_member h)) ms (and_l (not (among n (names ms))) _ h.formed.distinct_names_lem) (derived_members ms (other_members h))

-- ---- texts
-- A derivation of the text of a well-formed value, with that meaning.
pub derivation : (v : Value) → WellFormedValue v → (d : JText) × (spell d ≡ value_text v) × (meaning d ≡ Some v)
unfolding spell spell_ws meaning
derivation v h = let d = derived v h in (jtext no_ws d.tree no_ws, d.spells [] ∙ append-nil (value_text v), d.means)
