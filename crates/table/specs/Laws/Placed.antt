-- Placed: the rows of a read table lie in the order of the text.
use Rattle.std.specs.Prelude.{◌≡◌, refl, Bool, true, false, cond, eqb, ltb, length}
use Rattle.std.proofs.Common.{sym, subst, ◌∙◌}
use Rattle.std.proofs.Math.Path.{ap}
use Prim.Native.Nat.{ℕ, zero, suc, ◌+◌, ◌≤◌, ◌<◌, ◌/◌}
use native.Mathlib.Omega.{arith}
use Rattle.model.specs.Bytes.{Bytes}
use Rattle.model.specs.Limits.{max_values}
use Rattle.model.specs.Size.{value_count, items_count, members_count}
use Rattle.model.specs.Value.{Value, array, object, Values, Members, member_count}
use Rattle.syntax.specs.Layout.{item_count, row_bytes}
use Rattle.syntax.proofs.Laws.Layout.{count_positive}
use Rattle.table.specs.declared.node.Node.{Node}
use Rattle.table.specs.declared.node.Node.TheVariants.{Null, False, True, Integer, String, Array, Object}
use Rattle.table.specs.declared.node.Rows.{Rows}
use Rattle.table.specs.declared.row.Row.{Row}
use Rattle.table.specs.Denotes.{Denotes, denotes_array, denotes_object, RowItems, no_row_items, row_item, RowMembers, no_row_members, row_member}
use Rattle.table.specs.Node.{rows, node_of, node_at, next_row}
use Rattle.table.specs.Part.{Part}
use Rattle.table.specs.Placed.{Placed, PlacedWhole, row_after}
use Rattle.table.specs.Row.{row_at}
use Rattle.table.specs.WasRead.{WasRead}
use Rattle.table.specs.Laws.Inside.{Inherited, inherits, inside, by_order}
use Rattle.table.specs.Laws.Standing.{Standing, root_stands, array_items, object_members, denoted, next, items_after, members_after}
use Rattle.table.specs.Laws.WasRead.{behind_null, behind_next}

-- ---- parts begin in the row behind
abbrev first_in : ℕ → Node → ℕ
first_in i Null = i
first_in i False = i
first_in i True = i
first_in i (Integer n) = i
first_in i (String p) = i
first_in i (Array q) = q.first
first_in i (Object q) = q.first

either : (i : ℕ) (b : Bool) (m n : Node) → first_in i m ≡ i → first_in i n ≡ i → first_in i (cond b m n) ≡ i
either i true m n e f = e
either i false m n e f = f

node_first : (r : Row) (i : ℕ) → first_in i (node_of r i) ≡ i
node_first r i =
    either i (eqb r.kind 2) _ _ refl
    (either i (eqb r.kind 3) _ _ refl
    (either i (eqb r.kind 4) _ _ refl
    (either i (eqb r.kind 5) _ _ refl
    (either i (eqb r.kind 6) _ _ refl
    (either i (eqb r.kind 7) _ _ refl refl)))))

row_first : (T : Bytes) (i : ℕ) → first_in (i + 1) (node_at T i) ≡ i + 1
unfolding node_at
row_first T i = either (i + 1) (ltb i (length T / row_bytes)) _ _ (node_first (row_at T i) (i + 1)) refl

pub array_first : (T : Bytes) (i : ℕ) (q : Rows) → node_at T i ≡ Array q → q.first ≡ i + 1
array_first T i q e = sym (ap (first_in (i + 1)) e) ∙ row_first T i

pub object_first : (T : Bytes) (i : ℕ) (q : Rows) → node_at T i ≡ Object q → q.first ≡ i + 1
object_first T i q e = sym (ap (first_in (i + 1)) e) ∙ row_first T i

-- ---- and end where the value ends
module _ {T B : Bytes} where
  array_end : {v : Value} {i : ℕ} {q : Rows} → Denotes T B v (Array q) → Standing T B v i → row_after T (i + 1) q.count ≡ i + value_count v
  unfolding value_count
  array_end {i = i} (denotes_array {vs = vs} e f r) s = ap (row_after T (i + 1)) e ∙ items_after vs (i + 1) (array_items s) ∙ omega arith

  object_end : {v : Value} {i : ℕ} {q : Rows} → Denotes T B v (Object q) → Standing T B v i → row_after T (i + 1) q.count ≡ i + value_count v
  unfolding value_count
  object_end {i = i} (denotes_object {ms = ms} e f r) s = ap (row_after T (i + 1)) e ∙ members_after ms (i + 1) (object_members s) ∙ omega arith

-- ---- every item and every member is in a row of a text's
module _ {T B : Bytes} where
  items_within : {row : ℕ} {vs : Values} → RowItems T B row vs → (k : ℕ) → k < item_count vs → row_after T row k < max_values
  unfolding item_count
  items_within (no_row_items b) k l = absurd (omega arith)
  items_within (row_item b t d r) zero l = b
  items_within (row_item b t d r) (suc k) l = items_within r k (omega arith)

  array_within : {v : Value} {q : Rows} → Denotes T B v (Array q) → (k : ℕ) → k < q.count → row_after T q.first k < max_values
  array_within (denotes_array e f r) k l = items_within r k (omega arith)

  members_within : {row : ℕ} {ms : Members} → RowMembers T B row ms → (k : ℕ) → k < member_count ms → row_after T row k < max_values
  members_within (no_row_members b) k l = absurd (omega arith)
  members_within (row_member b t e d r) zero l = b
  members_within (row_member b t e d r) (suc k) l = members_within r k (omega arith)

  object_within : {v : Value} {q : Rows} → Denotes T B v (Object q) → (k : ℕ) → k < q.count → row_after T q.first k < max_values
  object_within (denotes_object e f r) k l = members_within r k (omega arith)

-- ---- what begins within a value ends within it
-- To end by a row goes over to parts.
module _ (e : ℕ) where
  ends_inherited : Inherited (λ i v. i + value_count v ≤ e) (λ i vs. i + items_count vs ≤ e) (λ i ms. i + members_count ms ≤ e)
  unfolding value_count
  ends_inherited =
      record {
        items = λ i vs h. omega arith;
        first_item = λ i v vs h. omega arith;
        other_items = λ i v vs h. omega arith;
        members = λ i ms h. omega arith;
        first_member = λ i n v ms h. omega arith;
        other_members = λ i n v ms h. omega arith;
      }

part_ends : {r i : ℕ} {w v : Value} → Part r w i v → r + value_count w ≤ i + value_count v
part_ends {i = i} {v = v} p = inherits (ends_inherited (i + value_count v)) p (omega arith)

module _ {T B : Bytes} where
  standing_nested : {v : Value} {i : ℕ} → Standing T B v i → (r : ℕ) → i ≤ r → r < next_row T i → next_row T r ≤ next_row T i
  standing_nested {v} {i} s r l k =
      let x = inside r v i s l (omega (arith, next s)) in
      omega (arith, next s, next x.standing, part_ends x.part)

-- ---- the node of an array or object that stands
module _ {T B : Bytes} where
  array_is : (i : ℕ) {vs : Values} {n : Node} → node_at T i ≡ n → Denotes T B (array vs) n → node_at T i ≡ Array (rows (i + 1) (item_count vs))
  array_is i e (denotes_array {vs = vs} {q = q} c f r) =
      let a = array_first T i q e in
      e ∙ (λ j. Array (record { first = a j; count = c j }))

  pub array_node : {vs : Values} {i : ℕ} → Standing T B (array vs) i → node_at T i ≡ Array (rows (i + 1) (item_count vs))
  array_node {i = i} s = array_is i refl (denoted s)

  object_is : (i : ℕ) {ms : Members} {n : Node} → node_at T i ≡ n → Denotes T B (object ms) n → node_at T i ≡ Object (rows (i + 1) (member_count ms))
  object_is i e (denotes_object {ms = ms} {q = q} c f r) =
      let a = object_first T i q e in
      e ∙ (λ j. Object (record { first = a j; count = c j }))

  pub object_node : {ms : Members} {i : ℕ} → Standing T B (object ms) i → node_at T i ≡ Object (rows (i + 1) (member_count ms))
  object_node {i = i} s = object_is i refl (denoted s)

-- Null has none.
abbrev has_parts : Node → ℕ
has_parts Null = 0
has_parts False = 0
has_parts True = 0
has_parts (Integer n) = 0
has_parts (String p) = 0
has_parts (Array q) = 1
has_parts (Object q) = 1

-- ---- of a row that holds a value, and of one behind all values
record PlacedRow (T : Bytes) (row : ℕ) : Type 0 where
  on : row < next_row T row
  within : next_row T row ≤ max_values
  items : (q : Rows) → node_at T row ≡ Array q → row_after T q.first q.count ≡ next_row T row
  members : (q : Rows) → node_at T row ≡ Object q → row_after T q.first q.count ≡ next_row T row
  inside_items : (q : Rows) → node_at T row ≡ Array q → (k : ℕ) → k < q.count → row_after T q.first k < max_values
  inside_members : (q : Rows) → node_at T row ≡ Object q → (k : ℕ) → k < q.count → row_after T q.first k < max_values
  nested : (r : ℕ) → row ≤ r → r < next_row T row → next_row T r ≤ next_row T row

module _ {T B : Bytes} where
  standing_placed : {v : Value} {i : ℕ} → Standing T B v i → PlacedRow T i
  standing_placed {v} {i} s =
      record {
        on = omega (arith, next s, count_positive v);
        within = omega (arith, next s, s.few);
        items = λ q e. ap (λ (k : ℕ). row_after T k q.count) (array_first T i q e) ∙ array_end (subst (Denotes T B v) e (denoted s)) s ∙ sym (next s);
        members = λ q e. ap (λ (k : ℕ). row_after T k q.count) (object_first T i q e) ∙ object_end (subst (Denotes T B v) e (denoted s)) s ∙ sym (next s);
        inside_items = λ q e. array_within (subst (Denotes T B v) e (denoted s));
        inside_members = λ q e. object_within (subst (Denotes T B v) e (denoted s));
        nested = standing_nested s;
      }

  behind_placed : {v : Value} → WasRead T B v → (row : ℕ) → value_count v ≤ row → row < max_values → PlacedRow T row
  behind_placed w row b k =
      let e = behind_next w row b k in
      record {
        on = omega (arith, e);
        within = omega (arith, e);
        items = λ q f. (let p = ap has_parts (sym (behind_null w row b k) ∙ f) in absurd (omega arith));
        members = λ q f. (let p = ap has_parts (sym (behind_null w row b k) ∙ f) in absurd (omega arith));
        inside_items = λ q f j l. (let p = ap has_parts (sym (behind_null w row b k) ∙ f) in absurd (omega arith));
        inside_members = λ q f j l. (let p = ap has_parts (sym (behind_null w row b k) ∙ f) in absurd (omega arith));
        nested = λ r l m. omega (arith, e, behind_next w r (omega arith) (omega (arith, e)));
      }

  row_placed : {v : Value} → WasRead T B v → (row : ℕ) → row < max_values → PlacedRow T row
  row_placed {v} w row k =
      by_order row (value_count v) (λ h. standing_placed (inside row v 0 (root_stands w) (omega arith) (omega arith)).standing) (λ h. behind_placed w row h k)

  pub was_read_placed : {v : Value} → WasRead T B v → Placed T
  was_read_placed w =
      record {
        on = λ row k. (row_placed w row k).on;
        within = λ row k. (row_placed w row k).within;
        items = λ row q k. (row_placed w row k).items q;
        members = λ row q k. (row_placed w row k).members q;
        inside = λ row q k. (row_placed w row k).inside_items q;
      }

  pub was_read_whole : {v : Value} → WasRead T B v → PlacedWhole T
  was_read_whole w =
      record {
        placed = was_read_placed w;
        inside_members = λ row q k. (row_placed w row k).inside_members q;
        nested = λ row r k. (row_placed w row k).nested r;
      }

-- ---- an object in a row of a read table is a part of its value
pub record ObjectInside (T B : Bytes) (v : Value) (row : ℕ) (q : Rows) : Type 0 where
  pub members : Members
  pub part : Part row (object members) 0 v
  pub standing : Standing T B (object members) row
  pub first : q.first ≡ row + 1
  pub count : q.count ≡ member_count members

module _ {T B : Bytes} {v : Value} where
  object_of : {w : Value} {row : ℕ} {q : Rows} → Denotes T B w (Object q) → node_at T row ≡ Object q → Part row w 0 v → Standing T B w row → ObjectInside T B v row q
  object_of {row = row} (denotes_object {ms = ms} {q = q} c f r) e p s = record { members = ms; part = p; standing = s; first = object_first T row q e; count = c }

  pub object_inside : WasRead T B v → (row : ℕ) (q : Rows) → row < max_values → node_at T row ≡ Object q → ObjectInside T B v row q
  object_inside w row q k e =
      by_order row (value_count v)
      (λ h. let x = inside row v 0 (root_stands w) (omega arith) (omega arith) in object_of (subst (Denotes T B x.value) e (denoted x.standing)) e x.part x.standing)
      (λ h. let p = ap has_parts (sym (behind_null w row h k) ∙ e) in absurd (omega arith))
