-- Denotes: a node denotes one value; the parts of a node denote the parts of its value.
use Rattle.std.specs.Prelude.{◌≡◌, refl, ℕ, ◌≤◌, ◌<◌}
use Rattle.std.proofs.Common.{sym, ap, ap₂, ◌∙◌, arith}
use Rattle.model.specs.Bytes.{Bytes}
use Rattle.model.specs.Limits.{max_values}
use Rattle.model.specs.Value.{Value, scalar, array, object, integer, string, Values, item, Members, member, member_count}
use Rattle.syntax.specs.Layout.{item_count, unbiased}
use Rattle.syntax.proofs.Laws.Biased.{unbiased_biased}
use Rattle.table.specs.declared.node.Node.{Node}
use Rattle.table.specs.declared.node.Node.TheVariants.{Array, Object}
use Rattle.table.specs.declared.node.Rows.{Rows}
use Rattle.table.specs.Denotes.{Denotes, denotes_null, denotes_false, denotes_true, denotes_integer, denotes_string, denotes_array, denotes_object, RowItems, no_row_items, row_item, RowMembers, no_row_members, row_member}
use Rattle.table.specs.Node.{node_at, name_at, tail_of}
use Rattle.table.specs.Strings.{bytes_of}

-- ---- one value
module _ {T B : Bytes} where
  mutual
    unfolding item_count

    pub one : {v w : Value} {n : Node} → Denotes T B v n → Denotes T B w n → v ≡ w
    one denotes_null denotes_null = refl
    one denotes_false denotes_false = refl
    one denotes_true denotes_true = refl
    one (denotes_integer {z = z} p e) (denotes_integer {z = z'} p' e') =
        ap (λ x. scalar (integer x)) (sym (unbiased_biased z p) ∙ ap unbiased (sym e ∙ e') ∙ unbiased_biased z' p')
    one (denotes_string l) (denotes_string l') = ap (λ x. scalar (string x)) (l.is ∙ sym l'.is)
    one (denotes_array e f r) (denotes_array e' f' r') = ap array (one_items r r' (sym e ∙ e'))
    one (denotes_object e f r) (denotes_object e' f' r') = ap object (one_members r r' (sym e ∙ e'))

    one_items : {row : ℕ} {vs ws : Values} → RowItems T B row vs → RowItems T B row ws → item_count vs ≡ item_count ws → vs ≡ ws
    one_items (no_row_items b) (no_row_items b') e = refl
    one_items (no_row_items b) (row_item b' t m r) e = absurd (omega arith)
    one_items (row_item b t m r) (no_row_items b') e = absurd (omega arith)
    one_items (row_item b t m r) (row_item b' t' m' r') e = ap₂ item (one m m') (one_items r r' (omega arith))

    one_members : {row : ℕ} {ms ns : Members} → RowMembers T B row ms → RowMembers T B row ns → member_count ms ≡ member_count ns → ms ≡ ns
    one_members (no_row_members b) (no_row_members b') e = refl
    one_members (no_row_members b) (row_member b' t n m r) e = absurd (omega arith)
    one_members (row_member b t n m r) (no_row_members b') e = absurd (omega arith)
    one_members (row_member b t n m r) (row_member b' t' n' m' r') e =
        let x = n ∙ sym n' in
        let y = one m m' in
        let z = one_members r r' (omega arith) in
        λ i. member (x i) (y i) (z i)

-- ---- parts
-- The first item and the others.
pub record ArrayParts (T B : Bytes) (v : Value) (vs : Values) (q : Rows) : Type 0 where
  pub inside : q.first < max_values
  pub head : Denotes T B v (node_at T q.first)
  pub rest : Denotes T B (array vs) (Array (tail_of T q))

module _ {T B : Bytes} {q : Rows} where
  pub array_count : {vs : Values} → Denotes T B (array vs) (Array q) → q.count ≡ item_count vs
  array_count (denotes_array e f r) = e

  pub array_parts : {v : Value} {vs : Values} → Denotes T B (array (item v vs)) (Array q) → ArrayParts T B v vs q
  unfolding item_count
  array_parts {vs = vs} (denotes_array e f (row_item b t m r)) = record { inside = b; head = m; rest = denotes_array {vs = vs} {q = tail_of T q} (omega arith) (omega arith) r }

-- The first member, its name, and the others.
pub record ObjectParts (T B n : Bytes) (v : Value) (ms : Members) (q : Rows) : Type 0 where
  pub name : n ≡ bytes_of B (name_at T q.first)
  pub head : Denotes T B v (node_at T q.first)
  pub rest : Denotes T B (object ms) (Object (tail_of T q))

module _ {T B : Bytes} {q : Rows} where
  pub object_count : {ms : Members} → Denotes T B (object ms) (Object q) → q.count ≡ member_count ms
  object_count (denotes_object e f r) = e

  pub object_parts : {n : Bytes} {v : Value} {ms : Members} → Denotes T B (object (member n v ms)) (Object q) → ObjectParts T B n v ms q
  object_parts {ms = ms} (denotes_object e f (row_member b t n m r)) = record { name = n; head = m; rest = denotes_object {ms = ms} {q = tail_of T q} (omega arith) (omega arith) r }

-- ---- rows are those of a text
pub items_row : {T B : Bytes} {row : ℕ} {vs : Values} → RowItems T B row vs → row ≤ max_values
items_row (no_row_items b) = b
items_row (row_item b t m r) = omega arith

pub members_row : {T B : Bytes} {row : ℕ} {ms : Members} → RowMembers T B row ms → row ≤ max_values
members_row (no_row_members b) = b
members_row (row_member b t n m r) = omega arith
