-- The index of a value's objects: it goes by the entries of the value's rows behind the first.
use mathlib.Core.Path.{◌≡◌}
use mathlib.Core.List.{List, [], ◌∷◌, ◌++◌}
use mathlib.Core.Logic.{◌⊎◌, inl, inr}
use Prim.Native.Nat.{ℕ, ◌+◌, ◌≤◌, ◌<◌}
use native.Mathlib.Omega.{arith}
use Rattle.model.specs.Bytes.{Bytes}
use Rattle.model.specs.Size.{value_count, items_count, members_count}
use Rattle.model.specs.Value.{Value, scalar, instant, array, object, Values, no_items, item, Members, no_members, member}
use Rattle.name_index.specs.Contract.{Entry, Between, HasRow, entry}
use Rattle.name_index.specs.Laws.Entries.{indexed_frame}
use Rattle.syntax.proofs.Laws.Layout.{count_positive}
use Rattle.json_reader.specs.Index.{entries_of, IndexedValue, IndexedItems, IndexedMembers}

-- ---- rows of members
pub entries_between : (ms : Members) (first row to : ℕ) → first ≤ row → row + members_count ms ≤ to → Between first to (entries_of row ms)
unfolding Between entries_of members_count
entries_between no_members first row to l h = Prim.tt
entries_between (member n v ms) first row to l h =
    let p = count_positive v in
    (l, omega arith, entries_between ms first (row + value_count v) to (omega arith) (omega arith))

pub row_between : (es : List Entry) (first row : ℕ) → Between first row es → (r : ℕ) → HasRow es r → r < row
unfolding Between
row_between [] first row b r h = absurd h
row_between (e ∷ es) first row b r (inl h) = omega (arith, b.1)
row_between (e ∷ es) first row b r (inr h) = row_between es first row b.2 r h

pub row_snoc : (es : List Entry) (e : Entry) (r : ℕ) → HasRow (es ++ (e ∷ [])) r → HasRow es r ⊎ (r ≡ e.row)
row_snoc [] e r (inl h) = inr h
row_snoc [] e r (inr h) = absurd h
row_snoc (d ∷ es) e r (inl h) = inl (inl h)
row_snoc (d ∷ es) e r (inr h) = more (row_snoc es e r h)
  where
    more : HasRow es r ⊎ (r ≡ e.row) → HasRow (d ∷ es) r ⊎ (r ≡ e.row)
    more (inl g) = inl (inr g)
    more (inr g) = inr g

-- ---- entries that stay
module _ (T T' : Bytes) where
  mutual
    unfolding IndexedValue value_count

    pub value_frame : (v : Value) (at : ℕ) → ((e : ℕ) → at < e → e < at + value_count v → entry T' e ≡ entry T e) → IndexedValue T at v → IndexedValue T' at v
    value_frame (scalar x) at k h = h
    value_frame (instant t) at k h = h
    value_frame (array vs) at k h = items_frame vs (at + 1) (λ e l r. k e (omega arith) (omega arith)) h
    value_frame (object ms) at k h = (
      members_frame ms (at + 1) (λ e l r. k e (omega arith) (omega arith)) h.0,
      indexed_frame (at + 1 + members_count ms) (omega arith) h.1 (entries_between ms (at + 1) (at + 1) (at + 1 + members_count ms) (omega arith) (omega arith))
          (λ e l r. k e (omega arith) (omega arith)),
    )

    items_frame : (vs : Values) (at : ℕ) → ((e : ℕ) → at ≤ e → e < at + items_count vs → entry T' e ≡ entry T e) → IndexedItems T at vs → IndexedItems T' at vs
    items_frame no_items at k h = h
    items_frame (item v vs) at k h = (
      value_frame v at (λ e l r. k e (omega arith) (omega arith)) h.0,
      items_frame vs (at + value_count v) (λ e l r. k e (omega arith) (omega arith)) h.1,
    )

    members_frame : (ms : Members) (at : ℕ) → ((e : ℕ) → at ≤ e → e < at + members_count ms → entry T' e ≡ entry T e) → IndexedMembers T at ms → IndexedMembers T' at ms
    members_frame no_members at k h = h
    members_frame (member n v ms) at k h = (
      value_frame v at (λ e l r. k e (omega arith) (omega arith)) h.0,
      members_frame ms (at + value_count v) (λ e l r. k e (omega arith) (omega arith)) h.1,
    )
