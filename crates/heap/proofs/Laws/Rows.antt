-- Rows: the handle of a node of the record's table means the value that the node denotes, and that value is what unfolding gives.
use Rattle.std.specs.Prelude.{◌≡◌, refl, ℕ, zero, suc, ◌-◌, max, ◌≤◌, ◌<◌}
use Rattle.std.proofs.Common.{sym, ap, ap₂, ◌∙◌, suc-le-suc, arith}
use Rattle.std.proofs.Math.Decide.{dec_lt}
use Rattle.model.specs.Size.{nesting, items_nesting, members_nesting}
use Rattle.model.specs.Value.{Value, scalar, array, object, null, integer, string, Values, Members, item, member, member_count}
use Rattle.syntax.specs.Layout.{item_count, unbiased}
use Rattle.syntax.proofs.Laws.Biased.{unbiased_biased}
use Rattle.table.specs.declared.node.Node.{Node}
use Rattle.table.specs.declared.node.Node.TheVariants as nodes
use Rattle.table.specs.Denotes.{Denotes, denotes_null, denotes_false, denotes_true, denotes_integer, denotes_string, denotes_array, denotes_object, RowItems, no_row_items, row_item, RowMembers, no_row_members, row_member}
use Rattle.heap.specs.declared.handle.Handle.{Handle}
use Rattle.heap.specs.declared.handle.Handle.TheVariants as variants
use Rattle.heap.specs.declared.handle.Form.TheVariants as forms
use Rattle.heap.specs.Handles.{parts, record_handle}
use Rattle.heap.specs.Means.{Means, means_null, means_false, means_true, means_integer, means_string, means_items, means_members}
use Rattle.heap.specs.Unfold.{Areas, items_by, members_by, value_by, unfolded}

-- ---- meaning
pub node_means : {a : Areas} {top : ℕ} {v : Value} {n : Node} → Denotes a.table a.strings v n → Means a top v (record_handle n)
node_means denotes_null = means_null
node_means denotes_false = means_false
node_means denotes_true = means_true
node_means (denotes_integer w e) = means_integer w e
node_means (denotes_string l) = means_string l
node_means (denotes_array e f r) = means_items e f r
node_means (denotes_object e f r) = means_members e f r

-- And the other way round.
pub node_denotes : {a : Areas} {top : ℕ} {v : Value} (n : Node) → Means a top v (record_handle n) → Denotes a.table a.strings v n
node_denotes nodes.Null means_null = denotes_null
node_denotes nodes.False means_false = denotes_false
node_denotes nodes.True means_true = denotes_true
node_denotes (nodes.Integer n) (means_integer w e) = denotes_integer w e
node_denotes (nodes.String s) (means_string l) = denotes_string l
node_denotes (nodes.Array q) (means_items e f r) = denotes_array e f r
node_denotes (nodes.Object q) (means_members e f r) = denotes_object e f r

-- ---- what unfolding gives
-- How unfolding goes on with the parts.
abbrev inner : Areas → ℕ → Handle → Value
inner a zero = λ x. scalar null
inner a (suc deep) = unfolded a deep

pub unfolded_is : (a : Areas) (deep : ℕ) (h : Handle) → unfolded a deep h ≡ value_by a (inner a deep) h
unfolding unfolded
unfolded_is a zero h = refl
unfolded_is a (suc deep) h = refl

module _ (a : Areas) where
  mutual
    unfolding item_count nesting items_by members_by unfolded

    pub node_unfolded : {v : Value} {n : Node} → Denotes a.table a.strings v n → (deep : ℕ) → nesting v ≤ deep → unfolded a deep (record_handle n) ≡ v
    node_unfolded denotes_null deep l = unfolded_is a deep variants.Null
    node_unfolded denotes_false deep l = unfolded_is a deep variants.False
    node_unfolded denotes_true deep l = unfolded_is a deep variants.True
    node_unfolded (denotes_integer {z = z} p e) deep l = unfolded_is a deep (variants.Integer _) ∙ ap (λ x. scalar (integer x)) (ap unbiased e ∙ unbiased_biased z p)
    node_unfolded (denotes_string p) deep l = unfolded_is a deep (variants.String _) ∙ ap (λ x. scalar (string x)) (sym p.is)
    node_unfolded (denotes_array e f r) zero l = absurd (omega arith)
    node_unfolded (denotes_array e f r) (suc deep) l = ap array (rw e (items_unfolded r _ deep (omega arith)))
    node_unfolded (denotes_object e f r) zero l = absurd (omega arith)
    node_unfolded (denotes_object e f r) (suc deep) l = ap object (rw e (members_unfolded r _ deep (omega arith)))

    pub items_unfolded : {row : ℕ} {vs : Values} → RowItems a.table a.strings row vs → (count deep : ℕ) → items_nesting vs ≤ deep → items_by a (unfolded a deep) (item_count vs) (parts forms.Items row count) ≡ vs
    items_unfolded (no_row_items b) count deep l = refl
    items_unfolded (row_item b t m r) count deep l = ap₂ item (node_unfolded m deep (omega arith)) (items_unfolded r (count - 1) deep (omega arith))

    pub members_unfolded : {row : ℕ} {ms : Members} → RowMembers a.table a.strings row ms → (count deep : ℕ) → members_nesting ms ≤ deep → members_by a (unfolded a deep) (member_count ms) (parts forms.Members row count) ≡ ms
    members_unfolded (no_row_members b) count deep l = refl
    members_unfolded (row_member b t e m r) count deep l =
        let y = node_unfolded m deep (omega arith) in
        let z = members_unfolded r (count - 1) deep (omega arith) in
        λ i. member (sym e i) (y i) (z i)

-- ---- and what it gives of a value that nests deeper
pub deeper_max : (d x y x' y' : ℕ) → (d < x → d < x') → (d < y → d < y') → d < max x y → d < max x' y'
deeper_max d x y x' y' f g h = go (dec_lt d x)
  where
    go : Dec (d < x) → d < max x' y'
    go (yes p) = let q = f p in omega arith
    go (no p) = let q = g (omega arith) in omega arith

module _ (a : Areas) where
  mutual
    unfolding item_count nesting items_by members_by unfolded

    node_deeper : {v : Value} {n : Node} → Denotes a.table a.strings v n → (deep : ℕ) → deep < nesting v → deep < nesting (unfolded a deep (record_handle n))
    node_deeper denotes_null deep l = absurd (omega arith)
    node_deeper denotes_false deep l = absurd (omega arith)
    node_deeper denotes_true deep l = absurd (omega arith)
    node_deeper (denotes_integer p e) deep l = absurd (omega arith)
    node_deeper (denotes_string p) deep l = absurd (omega arith)
    node_deeper (denotes_array e f r) zero l = omega arith
    node_deeper (denotes_array e f r) (suc deep) l = rw e (suc-le-suc (items_deeper r _ deep (omega arith)))
    node_deeper (denotes_object e f r) zero l = omega arith
    node_deeper (denotes_object e f r) (suc deep) l = rw e (suc-le-suc (members_deeper r _ deep (omega arith)))

    pub items_deeper : {row : ℕ} {vs : Values} → RowItems a.table a.strings row vs → (count deep : ℕ) → deep < items_nesting vs → deep < items_nesting (items_by a (unfolded a deep) (item_count vs) (parts forms.Items row count))
    items_deeper (no_row_items b) count deep l = l
    items_deeper (row_item {v = v} {vs = vs} b t m r) count deep l = deeper_max deep (nesting v) (items_nesting vs) _ _ (λ x. node_deeper m deep x) (λ x. items_deeper r (count - 1) deep x) l

    pub members_deeper : {row : ℕ} {ms : Members} → RowMembers a.table a.strings row ms → (count deep : ℕ) → deep < members_nesting ms → deep < members_nesting (members_by a (unfolded a deep) (member_count ms) (parts forms.Members row count))
    members_deeper (no_row_members b) count deep l = l
    members_deeper (row_member {v = v} {ms = ms} b t e m r) count deep l = deeper_max deep (nesting v) (members_nesting ms) _ _ (λ x. node_deeper m deep x) (λ x. members_deeper r (count - 1) deep x) l
