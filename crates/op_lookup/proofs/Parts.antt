-- Parts: what a fragment names, by the form of the value's handle.
use mathlib.Core.Path.{◌≡◌, refl, sym, ap, ◌∙◌}
use mathlib.Core.Bool.{Bool, true, false, cond}
use Rattle.std.specs.Prelude.{Option, None, Some}
use Prim.Native.Nat.{ℕ, zero, suc, ◌+◌, ◌/◌, ◌≤◌, ◌<◌}
use native.Mathlib.Nat.{add-zero}
use native.Mathlib.Omega.{arith}
use borrow.Author.Tests.{le-ltb}
use lib.ListN.{length}
use Rattle.model.specs.Bytes.{Bytes, same_bytes}
use Rattle.model.specs.Eval.{current, accumulator}
use Rattle.model.specs.Limits.{heap_cells}
use Rattle.model.specs.Option.{◌>>=◌}
use Rattle.model.specs.Path.{index_of, item_at, part}
use Rattle.model.specs.Value.{Value, array, Values, no_items, item}
use Rattle.model.proofs.Laws.Logic.{clash}
use Rattle.syntax.specs.Layout.{item_count}
use Rattle.table.specs.declared.node.Node.{Node}
use Rattle.table.specs.declared.node.Node.TheVariants as nodes
use Rattle.table.specs.Denotes.{Denotes, denotes_array, denotes_object}
use Rattle.table.specs.Node.{rows}
use Rattle.paths.specs.Contract.{limit, index_in}
use Rattle.paths.specs.Inner.{or_null}
use Rattle.paths.specs.Laws.Index.{IndexIs, inside, outside, index_is}
use Rattle.heap.specs.declared.handle.Form.{Form}
use Rattle.heap.specs.declared.handle.Form.TheVariants.{Items, Members, List, Context}
use Rattle.heap.specs.declared.handle.Handle.{Handle}
use Rattle.heap.specs.declared.handle.Handle.TheVariants.{Null, False, True, Integer, Instant, String, Compound}
use Rattle.heap.specs.declared.handle.Parts.{Parts}
use Rattle.heap.specs.Cells.{cell_bytes, cell_handle}
use Rattle.heap.specs.Means.{Means, means_null, means_false, means_true, means_integer, means_instant, means_string, means_items, means_members, means_list, means_context, CellItems, cell_item}
use Rattle.heap.specs.Unfold.{Areas, areas}
use Rattle.heap.proofs.Laws.Means.{raised, means_small}
use Rattle.op_lookup.specs.Inner.{place_by, place_of, member_of, ItemNamed, PartNamed}

-- ---- cells
pub no_cell : (C : Bytes) (j : ℕ) → length C / 8 ≤ j → Null ≡ cell_handle C j
unfolding cell_handle cell_bytes
no_cell C j l = rw (le-ltb j (length C / 8) l)

-- ---- items
-- The item so many after the first stands in the cell so many after the first's; behind the last there is none.
cell_means : {a : Areas} {top : ℕ} (vs : Values) (cell k : ℕ) → CellItems a cell vs → cell + item_count vs ≤ top → k < item_count vs → Means a top (or_null (item_at vs k)) (cell_handle a.cells (cell + k))
unfolding item_count
cell_means no_items cell k c b l = absurd (omega arith)
cell_means (item v vs) cell zero (cell_item i m r) b l = rw (add-zero cell) (raised m (omega arith))
cell_means (item v vs) cell (suc k) (cell_item i m r) b l =
    let e : cell + suc k ≡ suc cell + k = omega arith in
    rw e (cell_means vs (suc cell) k r (omega arith) (omega arith))

item_past : (vs : Values) (k : ℕ) → item_count vs ≤ k → item_at vs k ≡ None
unfolding item_count
item_past no_items k l = refl
item_past (item v vs) zero l = absurd (omega arith)
item_past (item v vs) (suc k) l = item_past vs k (omega arith)

list_item : {a : Areas} {top : ℕ} {vs : Values} {p : Parts} → Means a top (array vs) (Compound p) → p.form ≡ List → (k : ℕ) → k < p.count → Means a top (or_null (item_at vs k)) (cell_handle a.cells (p.first + k))
list_item (means_items e f r) q k l = clash cc
list_item (means_list {vs = vs} {cell = cell} e b r) q k l = cell_means vs cell k r (omega arith) (omega arith)

list_past : {a : Areas} {top : ℕ} {vs : Values} {p : Parts} → Means a top (array vs) (Compound p) → p.form ≡ List → (k : ℕ) → p.count ≤ k → Means a top (or_null (item_at vs k)) Null
list_past (means_items e f r) q k l = clash cc
list_past (means_list {vs = vs} e b r) q k l = rw (item_past vs k (omega arith)) means_null

module _ {f C : Bytes} {p : Parts} where
  named_far : {i : Option ℕ} → IndexIs f i → ((k : ℕ) → i ≡ Some k → ⊥) → ItemNamed f C p Null
  named_far (inside e) t = absurd (t _ refl)
  named_far (outside far) t = record { means = λ A B T top vs l q m. go m l q (index_of f) far }
    where
      go : {a : Areas} {top : ℕ} {vs : Values} → Means a top (array vs) (Compound p) → top ≤ heap_cells → p.form ≡ List → (o : Option ℕ) → ((k : ℕ) → o ≡ Some k → limit ≤ k)
          → Means a top (or_null (o >>= item_at vs)) Null
      go m l q None x = means_null
      go m l q (Some k) x = list_past m q k (omega (arith, x k refl, means_small m l))

  pub named_outside : {i : Option ℕ} → i ≡ index_in f → ((k : ℕ) → i ≡ Some k → ⊥) → ItemNamed f C p Null
  named_outside e t = named_far (index_is f e) t

  module _ {k : ℕ} (x : Some k ≡ index_in f) where
    pub named_past : p.count ≤ k → ItemNamed f C p Null
    named_past l = go (index_is f x)
      where
        go : IndexIs f (Some k) → ItemNamed f C p Null
        go (inside e) = record { means = λ A B T top vs b q m. rw e (list_past m q k l) }

    pub named_at : {r : Handle} → k < p.count → r ≡ cell_handle C (p.first + k) → ItemNamed f C p r
    named_at {r} l d = go (index_is f x)
      where
        go : IndexIs f (Some k) → ItemNamed f C p r
        go (inside e) = record { means = λ A B T top vs b q m. rw (e, d) (list_item m q k l) }

list_named : {f A B T C : Bytes} {top : ℕ} {v : Value} {p : Parts} {r : Handle} → ItemNamed f C p r → top ≤ heap_cells → Means (areas A B T C) top v (Compound p) → p.form ≡ List
    → Means (areas A B T C) top (or_null (part f v)) r
list_named x l (means_items e f r) q = clash cc
list_named x l (means_members e f r) q = clash cc
list_named {A = A} {B = B} {T = T} {top = top} x l (means_list {vs = vs} e b r) q = x.means A B T top vs l q (means_list e b r)
list_named x l (means_context b i m n) q = clash cc

-- ---- a context
context_named : {a : Areas} {top : ℕ} {v : Value} {p : Parts} (f : Bytes) → Means a top v (Compound p) → p.form ≡ Context → Means a top (or_null (part f v)) (member_of f a.cells p.first)
context_named f (means_items e l r) q = clash cc
context_named f (means_members e l r) q = clash cc
context_named f (means_list e l r) q = clash cc
context_named {a} {top} f (means_context {cur = cur} {acc = acc} {cell = cell} b i m n) q = go (same_bytes f current) (same_bytes f accumulator)
  where
    go : (x y : Bool) → Means a top (or_null (cond x (Some cur) (cond y (Some acc) None))) (cond x (cell_handle a.cells cell) (cond y (cell_handle a.cells (cell + 1)) Null))
    go true y = raised m (omega arith)
    go false true = let e : cell + 1 ≡ suc cell = omega arith in rw e (raised n (omega arith))
    go false false = means_null

-- ---- a fragment
abbrev place : Parts → Form → Option Node
place p k = place_by k (rows p.first p.count)

module _ {f C : Bytes} where
  -- What is no array and no object has no parts.
  pub no_part : (h : Handle) → ((p : Parts) → h ≡ Compound p → ⊥) → PartNamed f C h Null
  no_part h k = record { means = λ A B T top v l p m. go k m }
    where
      go : {a : Areas} {top : ℕ} {v : Value} {h : Handle} → ((p : Parts) → h ≡ Compound p → ⊥) → Means a top v h → Means a top (or_null (part f v)) Null
      go k means_null = means_null
      go k means_false = means_null
      go k means_true = means_null
      go k (means_integer w e) = means_null
      go k (means_instant w e) = means_null
      go k (means_string l) = means_null
      go k (means_items e l r) = absurd (k _ refl)
      go k (means_members e l r) = absurd (k _ refl)
      go k (means_list e l r) = absurd (k _ refl)
      go k (means_context b i m n) = absurd (k _ refl)

  module _ {p : Parts} where
    -- What lies in the record is left out.
    pub items_part : {r : Handle} → p.form ≡ Items → PartNamed f C (Compound p) r
    items_part e = record { means = λ A B T top v l g m. (let x : place p Items ≡ None = ap (place p) (sym e) ∙ g in clash cc) }

    pub members_part : {r : Handle} → p.form ≡ Members → PartNamed f C (Compound p) r
    members_part e = record { means = λ A B T top v l g m. (let x : place p Members ≡ None = ap (place p) (sym e) ∙ g in clash cc) }

    pub list_part : {r : Handle} → p.form ≡ List → ItemNamed f C p r → PartNamed f C (Compound p) r
    list_part e x = record { means = λ A B T top v l g m. list_named x l m e }

    pub context_part : {r : Handle} → p.form ≡ Context → r ≡ member_of f C p.first → PartNamed f C (Compound p) r
    context_part {r} e d = record { means = λ A B T top v l g m. rw d (context_named f m e) }

-- ---- where a value lies
pub no_place : (h : Handle) → ((p : Parts) → h ≡ Compound p → ⊥) → None ≡ place_of h
no_place Null k = refl
no_place False k = refl
no_place True k = refl
no_place (Integer n) k = refl
no_place (Instant n) k = refl
no_place (String s) k = refl
no_place (Compound p) k = absurd (k _ refl)

-- In the record: its node denotes the value.
pub place_denotes : {a : Areas} {top : ℕ} {v : Value} {h : Handle} {n : Node} → Means a top v h → Some n ≡ place_of h → Denotes a.table a.strings v n
place_denotes means_null e = clash cc
place_denotes means_false e = clash cc
place_denotes means_true e = clash cc
place_denotes (means_integer w g) e = clash cc
place_denotes (means_instant w g) e = clash cc
place_denotes (means_string l) e = clash cc
place_denotes {n = n} (means_items {row = row} {count = count} c l r) e = let g : n ≡ nodes.Array (rows row count) = cc in rw g (denotes_array c l r)
place_denotes {n = n} (means_members {row = row} {count = count} c l r) e = let g : n ≡ nodes.Object (rows row count) = cc in rw g (denotes_object c l r)
place_denotes (means_list c l r) e = clash cc
place_denotes (means_context b i m n) e = clash cc
