-- Textual: the textual form of a value has its text and its size, no instant, and is the value itself where that has none.
use Rattle.std.specs.Prelude.{◌≡◌, refl, ◌++◌, suc, ◌+◌, max, T}
use Rattle.std.proofs.Common.{ap, ap₂}
use Rattle.model.specs.Bytes.{Bytes, ascii}
use Rattle.model.proofs.Laws.Logic.{and_l, and_r, and_i}
use Rattle.model.specs.Size.{value_count, items_count, members_count, nesting, items_nesting, members_nesting, is_too_large}
use Rattle.model.specs.Textual.{textual, textual_items, textual_members}
use Rattle.model.specs.Value.{Value, scalar, instant, array, object, Values, no_items, item, Members, no_members, member, instant_free, instant_free_items, instant_free_members}
use Rattle.model.specs.Writing.{string_text, value_text, items_text, members_text}

-- ---- the text
mutual
  unfolding textual value_text

  pub textual_text : (v : Value) → value_text (textual v) ≡ value_text v
  textual_text (scalar x) = refl
  textual_text (instant t) = refl
  textual_text (array vs) = ap (λ s. ascii "[" ++ (s ++ ascii "]")) (textual_items_text vs (ascii ""))
  textual_text (object ms) = ap (λ s. ascii "{" ++ (s ++ ascii "}")) (textual_members_text ms (ascii ""))

  textual_items_text : (vs : Values) (before : Bytes) → items_text (textual_items vs) before ≡ items_text vs before
  textual_items_text no_items before = refl
  textual_items_text (item v vs) before = ap₂ (λ s t. before ++ (s ++ t)) (textual_text v) (textual_items_text vs (ascii ","))

  textual_members_text : (ms : Members) (before : Bytes) → members_text (textual_members ms) before ≡ members_text ms before
  textual_members_text no_members before = refl
  textual_members_text (member name v ms) before =
      ap₂ (λ s t. before ++ (string_text name ++ (ascii ":" ++ (s ++ t)))) (textual_text v) (textual_members_text ms (ascii ","))

-- ---- the size
mutual
  unfolding textual value_count

  pub textual_count : (v : Value) → value_count (textual v) ≡ value_count v
  textual_count (scalar x) = refl
  textual_count (instant t) = refl
  textual_count (array vs) = ap suc (textual_items_count vs)
  textual_count (object ms) = ap suc (textual_members_count ms)

  textual_items_count : (vs : Values) → items_count (textual_items vs) ≡ items_count vs
  textual_items_count no_items = refl
  textual_items_count (item v vs) = ap₂ ◌+◌ (textual_count v) (textual_items_count vs)

  textual_members_count : (ms : Members) → members_count (textual_members ms) ≡ members_count ms
  textual_members_count no_members = refl
  textual_members_count (member name v ms) = ap₂ ◌+◌ (textual_count v) (textual_members_count ms)

mutual
  unfolding textual nesting

  pub textual_nesting : (v : Value) → nesting (textual v) ≡ nesting v
  textual_nesting (scalar x) = refl
  textual_nesting (instant t) = refl
  textual_nesting (array vs) = ap suc (textual_items_nesting vs)
  textual_nesting (object ms) = ap suc (textual_members_nesting ms)

  textual_items_nesting : (vs : Values) → items_nesting (textual_items vs) ≡ items_nesting vs
  textual_items_nesting no_items = refl
  textual_items_nesting (item v vs) = ap₂ max (textual_nesting v) (textual_items_nesting vs)

  textual_members_nesting : (ms : Members) → members_nesting (textual_members ms) ≡ members_nesting ms
  textual_members_nesting no_members = refl
  textual_members_nesting (member name v ms) = ap₂ max (textual_nesting v) (textual_members_nesting ms)

pub textual_too_large : (v : Value) → is_too_large (textual v) ≡ is_too_large v
textual_too_large v = rw (textual_nesting v, textual_count v, textual_text v)

-- ---- instants
-- It has none,
mutual
  unfolding textual instant_free

  pub textual_free : (v : Value) → T (instant_free (textual v))
  textual_free (scalar x) = tt
  textual_free (instant t) = tt
  textual_free (array vs) = textual_items_free vs
  textual_free (object ms) = textual_members_free ms

  textual_items_free : (vs : Values) → T (instant_free_items (textual_items vs))
  textual_items_free no_items = tt
  textual_items_free (item v vs) = and_i (instant_free (textual v)) _ (textual_free v) (textual_items_free vs)

  textual_members_free : (ms : Members) → T (instant_free_members (textual_members ms))
  textual_members_free no_members = tt
  textual_members_free (member name v ms) = and_i (instant_free (textual v)) _ (textual_free v) (textual_members_free ms)

-- and where there was none nothing changed.
mutual
  unfolding textual instant_free

  pub textual_same : (v : Value) → T (instant_free v) → textual v ≡ v
  textual_same (scalar x) h = refl
  textual_same (instant t) h = absurd h
  textual_same (array vs) h = ap array (textual_items_same vs h)
  textual_same (object ms) h = ap object (textual_members_same ms h)

  textual_items_same : (vs : Values) → T (instant_free_items vs) → textual_items vs ≡ vs
  textual_items_same no_items h = refl
  textual_items_same (item v vs) h = ap₂ item (textual_same v (and_l (instant_free v) _ h)) (textual_items_same vs (and_r (instant_free v) _ h))

  textual_members_same : (ms : Members) → T (instant_free_members ms) → textual_members ms ≡ ms
  textual_members_same no_members h = refl
  textual_members_same (member name v ms) h = ap₂ (member name) (textual_same v (and_l (instant_free v) _ h)) (textual_members_same ms (and_r (instant_free v) _ h))
