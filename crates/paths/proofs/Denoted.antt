-- Denoted: the node that a path leads to denotes the value that it leads to.
use mathlib.Core.Path.{◌≡◌, refl}
use mathlib.Core.Bool.{Bool, true, false, cond}
use Rattle.std.specs.Prelude.{Option, None, Some}
use mathlib.Core.List.{[], ◌∷◌}
use Prim.Native.Nat.{ℕ, zero, suc, ◌≤◌}
use native.Mathlib.Omega.{arith}
use Rattle.model.specs.Bytes.{Bytes, same_bytes}
use Rattle.model.specs.Limits.{max_values}
use Rattle.model.proofs.Laws.Widths.{values_below}
use Rattle.model.specs.Option.{◌>>=◌}
use Rattle.model.specs.Path.{Path, index_of, item_at, member_named, part, value_at}
use Rattle.model.specs.Value.{Value, Values, no_items, item, Members, member_count}
use Rattle.syntax.specs.Layout.{item_count}
use Rattle.table.specs.declared.node.Node.{Node}
use Rattle.table.specs.declared.node.Node.TheVariants.{Null}
use Rattle.table.specs.declared.node.Rows.{Rows}
use Rattle.table.specs.Denotes.{Denotes, denotes_null, denotes_false, denotes_true, denotes_integer, denotes_string, denotes_array, denotes_object, RowItems, no_row_items, row_item, RowMembers, no_row_members, row_member}
use Rattle.table.specs.Node.{node_at, next_row}
use Rattle.paths.specs.Contract.{limit, member_in, item_in, item_of, part_in, node_along, fragments, Leads}
use Rattle.paths.specs.Inner.{or_null}
use Rattle.paths.specs.Laws.Index.{IndexIs, inside, outside, index_is}
use Rattle.paths.specs.Laws.Fragments.{path_fragments, value_on}

-- No item stands so far.
item_past : (vs : Values) (k : ℕ) → item_count vs ≤ k → item_at vs k ≡ None
unfolding item_count
item_past no_items k l = refl
item_past (item v vs) zero l = absurd (omega arith)
item_past (item v vs) (suc k) l = item_past vs k (omega arith)

module _ {T B : Bytes} where
  member_denotes : (f : Bytes) {ms : Members} {row : ℕ} (n : ℕ) → n ≡ member_count ms → RowMembers T B row ms → Denotes T B (or_null (member_named f ms)) (member_in T B f row n)
  member_denotes f zero e (no_row_members b) = denotes_null
  member_denotes f (suc n) e (no_row_members b) = absurd (omega arith)
  member_denotes f zero e (row_member b t g d r) = absurd (omega arith)
  member_denotes f (suc n) e (row_member {row = row} {n = name} {v = v} {ms = ms} b t g d r) = rw (← g) (go (same_bytes f name) (member_denotes f {ms = ms} n (omega arith) r))
    where
      go : (x : Bool) → Denotes T B (or_null (member_named f ms)) (member_in T B f (next_row T row) n)
          → Denotes T B (or_null (cond x (Some v) (member_named f ms))) (cond x (node_at T row) (member_in T B f (next_row T row) n))
      go true later = d
      go false later = later

  item_denotes : {vs : Values} {row : ℕ} (n k : ℕ) → n ≡ item_count vs → RowItems T B row vs → Denotes T B (or_null (item_at vs k)) (item_in T row n k)
  unfolding item_count
  item_denotes zero k e (no_row_items b) = denotes_null
  item_denotes (suc n) k e (no_row_items b) = absurd (omega arith)
  item_denotes zero k e (row_item b t d r) = absurd (omega arith)
  item_denotes (suc n) zero e (row_item b t d r) = d
  item_denotes (suc n) (suc k) e (row_item {v = v} {vs = vs} b t d r) = item_denotes {vs = vs} n k (omega arith) r

  named_denotes : (f : Bytes) {vs : Values} {q : Rows} {i : Option ℕ} → IndexIs f i → q.count ≡ item_count vs → q.count ≤ max_values → RowItems T B q.first vs
      → Denotes T B (or_null (index_of f >>= item_at vs)) (item_of T q i)
  named_denotes f (inside g) e m r = rw g (item_denotes _ _ e r)
  named_denotes f {vs} {q} (outside far) e m r = go (index_of f) far
    where
      go : (o : Option ℕ) → ((k : ℕ) → o ≡ Some k → limit ≤ k) → Denotes T B (or_null (o >>= item_at vs)) Null
      go None l = denotes_null
      go (Some k) l = rw (item_past vs k (omega (arith, values_below, l k refl))) denotes_null

  part_denotes : (f : Bytes) {v : Value} {n : Node} → Denotes T B v n → Denotes T B (or_null (part f v)) (part_in T B f n)
  part_denotes f denotes_null = denotes_null
  part_denotes f denotes_false = denotes_null
  part_denotes f denotes_true = denotes_null
  part_denotes f (denotes_integer w e) = denotes_null
  part_denotes f (denotes_string l) = denotes_null
  part_denotes f (denotes_array c m r) = named_denotes f (index_is f refl) c m r
  part_denotes f (denotes_object c m r) = member_denotes f _ c r

  along_denotes : (q : Path) {v : Value} {n : Node} → Denotes T B v n → Denotes T B (value_at q v) (node_along T B q n)
  along_denotes [] d = d
  along_denotes (f ∷ q) {v} d = rw (value_on f q v) (along_denotes q (part_denotes f d))

  pub leads_along : {s : Bytes} {from r : Node} → r ≡ node_along T B (fragments s) from → Leads s T B from r
  leads_along {s} e = record { is = e; leads = λ q c p d. rw (e, path_fragments q s p) (along_denotes q d) }
