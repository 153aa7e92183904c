-- Inside: each row of a value holds the value itself or a part of it, at any depth.
use Rattle.std.specs.Prelude.{◌≡◌, refl, Bool, true, false, ℕ, ◌+◌, ◌≤◌, ◌<◌, ltb}
use Rattle.std.proofs.Common.{sym, subst, arith, ltb-true, ltb-false}
use Rattle.model.specs.Bytes.{Bytes}
use Rattle.model.specs.Size.{value_count, items_count, members_count}
use Rattle.model.specs.Value.{Value, scalar, instant, array, object, Values, no_items, item, Members, no_members, member}
use Rattle.table.specs.Part.{Part, here, in_array, in_object, PartOfItems, in_item, later_item, PartOfMembers, in_member, later_member}
use Rattle.table.specs.Laws.Standing.{Standing, StandingItems, StandingMembers, array_items, object_members, item_first, item_rest, member_first, member_rest}

-- ---- parts
-- A property of values at rows (with one of items and one of members) that goes over to parts.
pub record Inherited (P : ℕ → Value → Type 0) (Q : ℕ → Values → Type 0) (R : ℕ → Members → Type 0) : Type 0 where
  pub items : (i : ℕ) (vs : Values) → P i (array vs) → Q (i + 1) vs
  pub first_item : (i : ℕ) (v : Value) (vs : Values) → Q i (item v vs) → P i v
  pub other_items : (i : ℕ) (v : Value) (vs : Values) → Q i (item v vs) → Q (i + value_count v) vs
  pub members : (i : ℕ) (ms : Members) → P i (object ms) → R (i + 1) ms
  pub first_member : (i : ℕ) (n : Bytes) (v : Value) (ms : Members) → R i (member n v ms) → P i v
  pub other_members : (i : ℕ) (n : Bytes) (v : Value) (ms : Members) → R i (member n v ms) → R (i + value_count v) ms

module _ {P : ℕ → Value → Type 0} {Q : ℕ → Values → Type 0} {R : ℕ → Members → Type 0} (h : Inherited P Q R) {r : ℕ} {w : Value} where
  mutual
    pub inherits : {i : ℕ} {v : Value} → Part r w i v → P i v → P r w
    inherits (here {i} {v} e f) p = subst (λ (k : ℕ). P k w) (sym e) (subst (P i) (sym f) p)
    inherits (in_array {i} {vs} x) p = inherits_items x (h.items i vs p)
    inherits (in_object {i} {ms} x) p = inherits_members x (h.members i ms p)

    inherits_items : {i : ℕ} {vs : Values} → PartOfItems r w i vs → Q i vs → P r w
    inherits_items (in_item {i} {v} {vs} x) q = inherits x (h.first_item i v vs q)
    inherits_items (later_item {i} {v} {vs} x) q = inherits_items x (h.other_items i v vs q)

    inherits_members : {i : ℕ} {ms : Members} → PartOfMembers r w i ms → R i ms → P r w
    inherits_members (in_member {i} {n} {v} {ms} x) q = inherits x (h.first_member i n v ms q)
    inherits_members (later_member {i} {n} {v} {ms} x) q = inherits_members x (h.other_members i n v ms q)

-- ---- each row
-- A row holds a value, which is such a part.
pub record Holding (T B : Bytes) (r : ℕ) (Is : Value → Type 0) : Type 0 where
  pub value : Value
  pub part : Is value
  pub standing : Standing T B value r

-- The row r of the value v that stands at row i.
abbrev pub Inside : Bytes → Bytes → ℕ → ℕ → Value → Type 0
Inside T B r i v = Holding T B r (λ w. Part r w i v)

held : {T B : Bytes} {r : ℕ} {P Q : Value → Type 0} → ((w : Value) → P w → Q w) → Holding T B r P → Holding T B r Q
held f h = record { value = h.value; part = f h.value h.part; standing = h.standing }

-- By the order of two numbers.
pub by_order : {X : Type 0} (a b : ℕ) → (a < b → X) → (b ≤ a → X) → X
by_order {X} a b f g = by (ltb a b) refl where
  by : (t : Bool) → ltb a b ≡ t → X
  by true e = f (ltb-true a b e)
  by false e = g (ltb-false a b e)

module _ {T B : Bytes} (r : ℕ) where
  itself : (v : Value) (i : ℕ) → r ≡ i → Standing T B v i → Inside T B r i v
  itself v i e s = record { value = v; part = here e refl; standing = subst (Standing T B v) (sym e) s }

  mutual
    unfolding value_count

    pub inside : (v : Value) (i : ℕ) → Standing T B v i → i ≤ r → r < i + value_count v → Inside T B r i v
    inside (scalar x) i s l k = itself (scalar x) i (omega arith) s
    inside (instant t) i s l k = itself (instant t) i (omega arith) s
    inside (array vs) i s l k =
        by_order i r (λ h. held (λ w x. in_array x) (inside_items vs (i + 1) (array_items s) (omega arith) (omega arith)))
        (λ h. itself (array vs) i (omega arith) s)
    inside (object ms) i s l k =
        by_order i r (λ h. held (λ w x. in_object x) (inside_members ms (i + 1) (object_members s) (omega arith) (omega arith)))
        (λ h. itself (object ms) i (omega arith) s)

    pub inside_items : (vs : Values) (i : ℕ) → StandingItems T B vs i → i ≤ r → r < i + items_count vs → Holding T B r (λ w. PartOfItems r w i vs)
    inside_items no_items i s l k = absurd (omega arith)
    inside_items (item v vs) i s l k =
        by_order r (i + value_count v) (λ h. held (λ w x. in_item x) (inside v i (item_first s) l h))
        (λ h. held (λ w x. later_item x) (inside_items vs (i + value_count v) (item_rest s) h (omega arith)))

    pub inside_members : (ms : Members) (i : ℕ) → StandingMembers T B ms i → i ≤ r → r < i + members_count ms → Holding T B r (λ w. PartOfMembers r w i ms)
    inside_members no_members i s l k = absurd (omega arith)
    inside_members (member n v ms) i s l k =
        by_order r (i + value_count v) (λ h. held (λ w x. in_member x) (inside v i (member_first s) l h))
        (λ h. held (λ w x. later_member x) (inside_members ms (i + value_count v) (member_rest s) h (omega arith)))
