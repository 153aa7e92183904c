-- Textual: the textual form of a well-formed answer is a well-formed value.
use Rattle.std.specs.Prelude.{◌≡◌, refl, true, ◌&&◌, not, ◌∷◌, ℕ, T, ltb, ℤ}
use Rattle.std.proofs.Common.{sym, subst, ap, ap₂, arith, lt-ltb}
use Rattle.model.specs.Bounds.{bounded, bounded_items, bounded_members}
use Rattle.model.specs.Bytes.{Bytes, digit_byte}
use Rattle.model.specs.InstantText.{instant_text}
use Rattle.model.proofs.Laws.Logic.{and_l, and_r, and_i}
use Rattle.model.proofs.Laws.Textual.{textual_free}
use Rattle.model.specs.Textual.{textual, textual_items, textual_members}
use Rattle.model.specs.Value.{Value, scalar, instant, array, object, Values, no_items, item, Members, no_members, member}
use Rattle.syntax.specs.Read.{among}
use Rattle.syntax.specs.Utf8.{WellFormed}
use Rattle.syntax.specs.WellFormed.{AllStrings, AllInItems, AllInMembers, are_bytes, names, distinct_names, distinct_in_items, distinct_in_members, WellFormedValue, WellFormedAnswer}
use Rattle.syntax.proofs.Laws.Utf8.{ascii_well_formed, well_formed_bytes}

-- ---- the text of an instant is well-formed UTF-8
digit_ascii : (n : ℕ) → ltb (digit_byte n) 0x80 ≡ true
digit_ascii n = lt-ltb (digit_byte n) 0x80 (omega arith)

instant_well_formed : (t : ℤ) → WellFormed (instant_text t)
unfolding instant_text
instant_well_formed t = ascii_well_formed (instant_text t) (simp digit_ascii tt)

-- ---- the textual form is well formed
module _ (P : Bytes → Type 0) (of-instants : (t : ℤ) → P (instant_text t)) where
  mutual
    unfolding AllStrings textual

    textual_strings : (v : Value) → AllStrings P v → AllStrings P (textual v)
    textual_strings (scalar x) h = h
    textual_strings (instant t) h = of-instants t
    textual_strings (array vs) h = textual_items_strings vs h
    textual_strings (object ms) h = textual_members_strings ms h

    textual_items_strings : (vs : Values) → AllInItems P vs → AllInItems P (textual_items vs)
    textual_items_strings no_items h = tt
    textual_items_strings (item v vs) h = (textual_strings v h.0, textual_items_strings vs h.1)

    textual_members_strings : (ms : Members) → AllInMembers P ms → AllInMembers P (textual_members ms)
    textual_members_strings no_members h = tt
    textual_members_strings (member n v ms) h = (h.0, textual_strings v h.1, textual_members_strings ms h.2)

textual_names : (ms : Members) → names (textual_members ms) ≡ names ms
unfolding textual
textual_names no_members = refl
textual_names (member n v ms) = ap (λ l. n ∷ l) (textual_names ms)

mutual
  unfolding distinct_names textual

  textual_distinct : (v : Value) → distinct_names (textual v) ≡ distinct_names v
  textual_distinct (scalar x) = refl
  textual_distinct (instant t) = refl
  textual_distinct (array vs) = textual_items_distinct vs
  textual_distinct (object ms) = textual_members_distinct ms

  textual_items_distinct : (vs : Values) → distinct_in_items (textual_items vs) ≡ distinct_in_items vs
  textual_items_distinct no_items = refl
  textual_items_distinct (item v vs) = ap₂ ◌&&◌ (textual_distinct v) (textual_items_distinct vs)

  textual_members_distinct : (ms : Members) → distinct_in_members (textual_members ms) ≡ distinct_in_members ms
  textual_members_distinct no_members = refl
  textual_members_distinct (member n v ms) = ap₂ ◌&&◌ (ap (λ l. not (among n l)) (textual_names ms)) (ap₂ ◌&&◌ (textual_distinct v) (textual_members_distinct ms))

mutual
  unfolding bounded textual

  textual_bounded : (v : Value) → T (bounded v) → T (bounded (textual v))
  textual_bounded (scalar x) h = h
  textual_bounded (instant t) h = tt
  textual_bounded (array vs) h = textual_items_bounded vs h
  textual_bounded (object ms) h = textual_members_bounded ms h

  textual_items_bounded : (vs : Values) → T (bounded_items vs) → T (bounded_items (textual_items vs))
  textual_items_bounded no_items h = tt
  textual_items_bounded (item v vs) h = and_i (bounded (textual v)) _ (textual_bounded v (and_l (bounded v) _ h)) (textual_items_bounded vs (and_r (bounded v) _ h))

  textual_members_bounded : (ms : Members) → T (bounded_members ms) → T (bounded_members (textual_members ms))
  textual_members_bounded no_members h = tt
  textual_members_bounded (member n v ms) h = and_i (bounded (textual v)) _ (textual_bounded v (and_l (bounded v) _ h)) (textual_members_bounded ms (and_r (bounded v) _ h))

pub textual_well_formed : (v : Value) → WellFormedAnswer v → WellFormedValue (textual v)
textual_well_formed v h = record {
  formed = record {
    utf8_strings = textual_strings WellFormed instant_well_formed v h.utf8_strings;
    byte_strings = textual_strings (λ s. T (are_bytes s)) (λ t. well_formed_bytes (instant_text t) (instant_well_formed t)) v h.byte_strings;
    distinct_names_lem = subst T (sym (textual_distinct v)) h.distinct_names_lem;
    within_limits_lem = textual_bounded v h.within_limits_lem;
  };
  no_instants = textual_free v;
}
