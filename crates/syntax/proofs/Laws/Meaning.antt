-- Meaning: where a derivation means something, so do its parts; and it has as many values as its value.
use Rattle.std.specs.Prelude.{◌≡◌, refl, Bool, true, false, List, [], suc, ◌+◌}
use Rattle.std.proofs.Common.{sym, ap, ◌∙◌, arith}
use Rattle.std.specs.Prelude.{Option, None, Some}
use Rattle.model.specs.Bytes.{Bytes}
use Rattle.model.proofs.Laws.Option.{none_some}
use Rattle.model.specs.Size.{value_count, items_count, members_count}
use Rattle.model.specs.Value.{Value, scalar, array, object, string, Values, no_items, item, Members, no_members, member}
use Rattle.syntax.specs.Faults.{count_value, count_elements, count_members}
use Rattle.syntax.specs.Grammar.{JValue, jtrue, jfalse, jnull, jnumber, jstring, jempty_array, jarray, jempty_object, jobject, JElements, last_element, element, JMembers, last_member, jmember, int_number, map, map₂, chars_meaning, fresh, seen_with, member_of, value_meaning, elements_meaning, members_meaning}
use Rattle.syntax.specs.Read.{among}
use Rattle.syntax.proofs.Laws.Sound.{number_scalar}

pub some_is : {A : Type 0} {a b : A} → Some a ≡ Some b → a ≡ b
some_is {a} {b} e = cc

pub map_some : {A B : Type 0} (f : A → B) (o : Option A) {b : B} → map f o ≡ Some b → (a : A) × (o ≡ Some a) × (f a ≡ b)
unfolding map
map_some f None e = none_some e
map_some f (Some a) e = (a, refl, some_is e)

pub map₂_some : {A B C : Type 0} (f : A → B → C) (o : Option A) (p : Option B) {c : C} → map₂ f o p ≡ Some c → (a : A) × (b : B) × (o ≡ Some a) × (p ≡ Some b) × (f a b ≡ c)
unfolding map₂
map₂_some f None p e = none_some e
map₂_some f (Some a) None e = none_some e
map₂_some f (Some a) (Some b) e = (a, b, refl, refl, some_is e)

pub member_some : (o : Option Bytes) (p : Option Value) (r : Option Members) {c : Members} → member_of o p r ≡ Some c → (n : Bytes) × (v : Value) × (ms : Members) × (o ≡ Some n) × (p ≡ Some v) × (r ≡ Some ms) × (member n v ms ≡ c)
unfolding member_of
member_some None p r e = none_some e
member_some (Some n) None r e = none_some e
member_some (Some n) (Some v) None e = none_some e
member_some (Some n) (Some v) (Some ms) e = (n, v, ms, refl, refl, refl, some_is e)

pub fresh_some : (seen : List Bytes) (o : Option Bytes) (n : Bytes) → fresh seen o ≡ Some n → (o ≡ Some n) × (among n seen ≡ false)
unfolding fresh
fresh_some seen None n e = none_some e
fresh_some seen (Some k) n e = go (among k seen) refl e
  where
    go : (b : Bool) → among k seen ≡ b → ◌≡◌ {A = Option Bytes} (elim b [ true ↦ None | false ↦ Some k ]) (Some n) → (Some k ≡ Some n) × (among n seen ≡ false)
    go true i e = none_some e
    go false i e = (e, ap (λ x. among x seen) (sym (some_is e)) ∙ i)

mutual
  unfolding value_meaning count_value value_count

  pub count_value_lem : (d : JValue) (v : Value) → value_meaning d ≡ Some v → value_count v ≡ count_value d
  count_value_lem jtrue v h = ap value_count (sym (some_is h))
  count_value_lem jfalse v h = ap value_count (sym (some_is h))
  count_value_lem jnull v h = ap value_count (sym (some_is h))
  count_value_lem (jnumber negative i fr ex) v h = (number_scalar negative (int_number i) fr ex v h).0
  count_value_lem (jstring cs) v h = let x = map_some (λ s. scalar (string s)) (chars_meaning cs None) h in ap value_count (sym x.2)
  count_value_lem (jempty_array w) v h = ap value_count (sym (some_is h))
  count_value_lem (jarray w es) v h = let x = map_some array (elements_meaning es) h in ap value_count (sym x.2) ∙ ap suc (count_elements_lem es x.0 x.1)
  count_value_lem (jempty_object w) v h = ap value_count (sym (some_is h))
  count_value_lem (jobject w ms) v h = let x = map_some object (members_meaning ms []) h in ap value_count (sym x.2) ∙ ap suc (count_members_lem ms [] x.0 x.1)

  count_elements_lem : (es : JElements) (vs : Values) → elements_meaning es ≡ Some vs → items_count vs ≡ count_elements es
  count_elements_lem (last_element d w) vs h = let x = map_some (λ z. item z no_items) (value_meaning d) h in ap items_count (sym x.2) ∙ omega (arith, count_value_lem d x.0 x.1)
  count_elements_lem (element d w u es) vs h =
      let x = map₂_some item (value_meaning d) (elements_meaning es) h in
      ap items_count (sym x.4) ∙ omega (arith, count_value_lem d x.0 x.2, count_elements_lem es x.1 x.3)

  count_members_lem : (es : JMembers) (seen : List Bytes) (ms : Members) → members_meaning es seen ≡ Some ms → members_count ms ≡ count_members es
  count_members_lem (last_member n w u d x) seen ms h =
      let m = member_some (fresh seen (chars_meaning n None)) (value_meaning d) (Some no_members) h in
      ap members_count (sym m.6) ∙ ap (λ z. value_count m.1 + members_count z) (sym (some_is m.5)) ∙ omega (arith, count_value_lem d m.1 m.4)
  count_members_lem (jmember n w u d x z es) seen ms h =
      let m = member_some (fresh seen (chars_meaning n None)) (value_meaning d) (members_meaning es (seen_with seen (chars_meaning n None))) h in
      ap members_count (sym m.6) ∙ omega (arith, count_value_lem d m.1 m.4, count_members_lem es (seen_with seen (chars_meaning n None)) m.2 m.5)
