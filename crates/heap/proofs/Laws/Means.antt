-- Means: a handle's meaning is kept while the heap grows, is what unfolding gives, is one value, and fits into a cell; the parts of a handle
-- mean the parts of its value.
-- antt's `mutual` clauses do not match where a constructor's target has a record in it: so an induction here is an `elim`, with a motive for
-- each of Means and CellItems.
use Rattle.std.specs.Prelude.{◌≡◌, length}
use Rattle.std.proofs.Math.Path.{refl, ap, ap₂}
use Rattle.std.proofs.Common.{sym, ◌∙◌, le_trans, lt-ltb}
use Prim.Native.Nat.{ℕ, zero, suc, ◌+◌, ◌-◌, ◌/◌, max, ◌≤◌, ◌<◌, suc-le-suc}
use Rattle.std.proofs.Math.Decide.{dec_lt}
use native.Mathlib.Omega.{arith}
use Rattle.model.specs.Bytes.{Bytes}
use Rattle.model.specs.Eval.{context}
use Rattle.model.specs.Judgement.{written_within}
use Rattle.model.proofs.Laws.DateText.{since_bound}
use Rattle.model.specs.Limits.{max_nesting, heap_cells}
use Rattle.model.specs.Size.{nesting, items_nesting}
use Rattle.model.specs.Value.{Value, scalar, array, object, integer, string, Values, item, Members, member, member_count}
use Rattle.model.proofs.Laws.Logic.{clash}
use Rattle.syntax.specs.Layout.{item_count, unbiased}
use Rattle.syntax.proofs.Laws.Biased.{biased_small, unbiased_biased}
use Rattle.syntax.proofs.Laws.Widths.{text_small, values_small}
use Rattle.table.specs.Denotes.{row_item, row_member}
use Rattle.table.specs.Laws.Denotes.{items_row, members_row}
use Rattle.heap.specs.declared.handle.Handle.{Handle}
use Rattle.heap.specs.declared.handle.Handle.TheVariants as variants
use Rattle.heap.specs.declared.handle.Form.TheVariants as forms
use Rattle.heap.specs.declared.handle.Parts.{Parts}
use Rattle.heap.specs.Cells.{Packs, packed_of, cell_handle, cell_bytes, stored}
use Rattle.heap.specs.Handles.{parts}
use Rattle.heap.specs.Means.{Means, means_null, means_false, means_true, means_integer, means_instant, means_string, means_items, means_members, means_list, means_context, CellItems, no_cell_items, cell_item}
use Rattle.heap.specs.Parts.{head_of, tail_of, next_cell, label_of, label_bytes}
use Rattle.heap.specs.Unfold.{Areas, with_cells, instant_at, items_by, members_by, unfolded}
use Rattle.heap.proofs.Laws.Cells.{length_stored, stored_other}
use Rattle.heap.proofs.Laws.Numbers.{instant_at_since_year0, heap_small}
use Rattle.heap.proofs.Laws.Rows.{node_means, unfolded_is, items_unfolded, members_unfolded, deeper_max, items_deeper, members_deeper}

-- ---- while the heap grows
-- The cells below `top` hold the same.
abbrev pub Agree : Bytes → Bytes → ℕ → Type 0
Agree C C' top = (j : ℕ) → j < top → cell_handle C j ≡ cell_handle C' j

module _ {a : Areas} (C : Bytes) (longer : length a.cells ≤ length C) where
  pub grown : {top : ℕ} {v : Value} {h : Handle} → Means a top v h → Agree a.cells C top → Means (with_cells a C) top v h
  unfolding item_count cell_bytes
  grown m =
      elim m as
      (λ top v h x. Agree a.cells C top → Means (with_cells a C) top v h)
      (λ cell vs x. Agree a.cells C (cell + item_count vs) → CellItems (with_cells a C) cell vs) [
        | means_null ↦ λ g. means_null
        | means_false ↦ λ g. means_false
        | means_true ↦ λ g. means_true
        | means_integer w e ↦ λ g. means_integer w e
        | means_instant w e ↦ λ g. means_instant w e
        | means_string l ↦ λ g. means_string l
        | means_items e f r ↦ λ g. means_items e f r
        | means_members e f r ↦ λ g. means_members e f r
        | means_list e b (r → k) ↦ λ g. means_list e b (k (λ j l. g j (omega arith)))
        | means_context {cell = cell} b i (m → k) (n → l) ↦ λ g.
            means_context b (omega arith)
            (rw (g cell (omega arith)) at (k (λ j l. g j (omega arith))))
            (rw (g (suc cell) (omega arith)) at (l (λ j l. g j (omega arith))))
        | no_cell_items ↦ λ g. no_cell_items
        | cell_item {cell = cell} i (m → k) (r → ks) ↦ λ g.
            cell_item {cell = cell} (omega arith) (rw (g cell (omega arith)) at (k (λ j l. g j (omega arith)))) (ks (λ j l. g j (omega arith)))
      ]

-- What is below one bound is below a higher one.
pub raised : {a : Areas} {top top' : ℕ} {v : Value} {h : Handle} → Means a top v h → top ≤ top' → Means a top' v h
raised means_null l = means_null
raised means_false l = means_false
raised means_true l = means_true
raised (means_integer w e) l = means_integer w e
raised (means_instant w e) l = means_instant w e
raised (means_string s) l = means_string s
raised (means_items e f r) l = means_items e f r
raised (means_members e f r) l = means_members e f r
raised (means_list e b r) l = means_list e (le_trans b l) r
raised (means_context b i m n) l = means_context (le_trans b l) i m n

-- A handle that is put into a cell from `top` on changes no meaning below.
pub stored_kept : {a : Areas} {top : ℕ} {v : Value} {h : Handle} (j : ℕ) (x : Handle) → top ≤ j → Means a top v h → Means (with_cells a (stored a.cells j x)) top v h
stored_kept {a} j x l m =
    grown (stored a.cells j x) (omega (arith, length_stored a.cells j x)) m
    (λ i b. sym (stored_other a.cells i j x (λ e. omega arith)))

-- ---- what unfolding gives
-- A cell of the heap is followed by the next.
next_cell_lem : (C : Bytes) (j : ℕ) → j < length C / cell_bytes → next_cell C j ≡ suc j
unfolding next_cell
next_cell_lem C j l = rw (lt-ltb j (length C / cell_bytes) l) (omega arith)

module _ {a : Areas} where
  pub unfolded_means : {top : ℕ} {v : Value} {h : Handle} → Means a top v h → (deep : ℕ) → nesting v ≤ deep → unfolded a deep h ≡ v
  unfolding item_count nesting items_by members_by unfolded
  unfolded_means m =
      elim m as
      (λ top v h x. (deep : ℕ) → nesting v ≤ deep → unfolded a deep h ≡ v)
      (λ cell vs x. (count deep : ℕ) → items_nesting vs ≤ deep → items_by a (unfolded a deep) (item_count vs) (parts forms.List cell count) ≡ vs) [
        | means_null ↦ λ deep n. unfolded_is a deep variants.Null
        | means_false ↦ λ deep n. unfolded_is a deep variants.False
        | means_true ↦ λ deep n. unfolded_is a deep variants.True
        | means_integer {z = z} p e ↦ λ deep n. unfolded_is a deep (variants.Integer _) ∙ ap (λ x. scalar (integer x)) (ap unbiased e ∙ unbiased_biased z p)
        | means_instant {t = t} p e ↦ λ deep n. unfolded_is a deep (variants.Instant _) ∙ ap instant_at e ∙ instant_at_since_year0 t p
        | means_string p ↦ λ deep n. unfolded_is a deep (variants.String _) ∙ ap (λ x. scalar (string x)) (sym p.is)
        | means_items e f r ↦ elim [ zero ↦ λ n. absurd (omega arith) | suc deep ↦ λ n. ap array (rw e (items_unfolded a r _ deep (omega arith))) ]
        | means_members e f r ↦ elim [ zero ↦ λ n. absurd (omega arith) | suc deep ↦ λ n. ap object (rw e (members_unfolded a r _ deep (omega arith))) ]
        | means_list e b (r → k) ↦ elim [ zero ↦ λ n. absurd (omega arith) | suc deep ↦ λ n. ap array (rw e (k _ deep (omega arith))) ]
        | means_context {cell = cell} b i (m → k) (n → l) ↦ elim [
          | zero ↦ λ n. absurd (omega arith)
          | suc deep ↦ λ n. rw (k deep (omega arith), next_cell_lem a.cells cell (omega arith), l deep (omega arith))
        ]
        | no_cell_items ↦ λ count deep n. refl
        | cell_item {cell = cell} i (m → k) (r → ks) ↦ λ count deep n.
            ap₂ item (k deep (omega arith)) (rw (next_cell_lem a.cells cell i) (ks (count - 1) deep (omega arith)))
      ]

-- ---- a handle means one value
pub one : {a : Areas} {top : ℕ} {v w : Value} {h : Handle} → Means a top v h → Means a top w h → v ≡ w
one {v = v} {w = w} m n = sym (unfolded_means m (max (nesting v) (nesting w)) (omega arith)) ∙ unfolded_means n (max (nesting v) (nesting w)) (omega arith)

-- ---- and what it gives of a value that nests deeper
module _ {a : Areas} where
  pub unfolded_deeper : {top : ℕ} {v : Value} {h : Handle} → Means a top v h → (deep : ℕ) → deep < nesting v → deep < nesting (unfolded a deep h)
  unfolding item_count nesting items_by members_by unfolded
  unfolded_deeper m =
      elim m as
      (λ top v h x. (deep : ℕ) → deep < nesting v → deep < nesting (unfolded a deep h))
      (λ cell vs x. (count deep : ℕ) → deep < items_nesting vs → deep < items_nesting (items_by a (unfolded a deep) (item_count vs) (parts forms.List cell count))) [
        | means_null ↦ λ deep n. absurd (omega arith)
        | means_false ↦ λ deep n. absurd (omega arith)
        | means_true ↦ λ deep n. absurd (omega arith)
        | means_integer p e ↦ λ deep n. absurd (omega arith)
        | means_instant p e ↦ λ deep n. absurd (omega arith)
        | means_string p ↦ λ deep n. absurd (omega arith)
        | means_items e f r ↦ elim [ zero ↦ λ n. omega arith | suc deep ↦ λ n. rw e (suc-le-suc (items_deeper a r _ deep (omega arith))) ]
        | means_members e f r ↦ elim [ zero ↦ λ n. omega arith | suc deep ↦ λ n. rw e (suc-le-suc (members_deeper a r _ deep (omega arith))) ]
        | means_list e b (r → k) ↦ elim [ zero ↦ λ n. omega arith | suc deep ↦ λ n. rw e (suc-le-suc (k _ deep (omega arith))) ]
        | means_context {cur = cur} {acc = acc} {cell = cell} b i (m → k) (n → l) ↦ elim [
          | zero ↦ λ n. omega arith
          | suc deep ↦ λ n.
              rw (next_cell_lem a.cells cell (omega arith))
              (suc-le-suc
              (deeper_max deep (nesting cur) (max (nesting acc) 0) _ _ (k deep)
              (deeper_max deep (nesting acc) 0 _ _ (l deep) (λ q. q))
              (omega arith)))
        ]
        | no_cell_items ↦ λ count deep n. n
        | cell_item {cell = cell} {v = v} {vs = vs} i (m → k) (r → ks) ↦ λ count deep n.
            rw (next_cell_lem a.cells cell i) (deeper_max deep (nesting v) (items_nesting vs) _ _ (k deep) (ks (count - 1) deep) n)
      ]

-- ---- what is written
-- The same is written, or refused, of a value and of what unfolding gives.
pub means_written : {a : Areas} {top : ℕ} {v : Value} {h : Handle} → Means a top v h → (room : ℕ) → written_within room (unfolded a max_nesting h) ≡ written_within room v
means_written {a} {top} {v} {h} m room = go (dec_lt max_nesting (nesting v))
  where
    go : Dec (max_nesting < nesting v) → written_within room (unfolded a max_nesting h) ≡ written_within room v
    go (yes p) = rw (lt-ltb max_nesting (nesting v) p, lt-ltb max_nesting (nesting (unfolded a max_nesting h)) (unfolded_deeper m max_nesting p))
    go (no p) = ap (written_within room) (unfolded_means m max_nesting (omega arith))

-- ---- what a cell can hold
pub means_small : {a : Areas} {top : ℕ} {v : Value} {h : Handle} → Means a top v h → top ≤ heap_cells → Packs (packed_of h)
means_small means_null l = omega arith
means_small means_false l = omega arith
means_small means_true l = omega arith
means_small (means_integer {z = z} w e) l = let b = biased_small z w in omega arith
means_small (means_instant {t = t} w e) l = let b = since_bound t w in omega arith
means_small (means_string s) l = let b = text_small s.short in omega arith
means_small (means_items e f r) l = omega (arith, values_small (items_row r), values_small f)
means_small (means_members e f r) l = omega (arith, values_small (members_row r), values_small f)
means_small (means_list e b r) l = let c = heap_small l in omega arith
means_small (means_context b i m n) l = let c = heap_small l in omega arith

-- ---- parts
-- The first item and the others.
pub record ArrayParts (a : Areas) (top : ℕ) (v : Value) (vs : Values) (p : Parts) : Type 0 where
  pub head : Means a top v (head_of a.table a.cells p)
  pub rest : Means a top (array vs) (variants.Compound (tail_of a.table a.cells p))

pub array_count : {a : Areas} {top : ℕ} {vs : Values} {p : Parts} → Means a top (array vs) (variants.Compound p) → p.count ≡ item_count vs
array_count (means_items e f r) = e
array_count (means_list e b r) = e

pub array_parts : {a : Areas} {top : ℕ} {v : Value} {vs : Values} {p : Parts} → Means a top (array (item v vs)) (variants.Compound p) → ArrayParts a top v vs p
unfolding item_count
array_parts {vs = vs} (means_items {count = count} e f (row_item b t m r)) = record { head = node_means m; rest = means_items {vs = vs} {count = count - 1} (omega arith) (omega arith) r }
array_parts {a} {top} {vs = vs} (means_list {cell = cell} {count = count} e b (cell_item i m r)) = record {
  head = raised m (omega arith);
  rest = rw (next_cell_lem a.cells cell i) (means_list {top = top} {vs = vs} {cell = suc cell} {count = count - 1} (omega arith) (omega arith) r);
}

-- The first member of a read object, with its name, and the others.
pub record ObjectParts (a : Areas) (top : ℕ) (n : Bytes) (v : Value) (ms : Members) (p : Parts) : Type 0 where
  pub name : n ≡ label_bytes a.strings (label_of a.table p)
  pub head : Means a top v (head_of a.table a.cells p)
  pub rest : Means a top (object ms) (variants.Compound (tail_of a.table a.cells p))

pub object_count : {a : Areas} {top : ℕ} {ms : Members} {p : Parts} → Means a top (object ms) (variants.Compound p) → p.count ≡ member_count ms
object_count (means_members e f r) = e
object_count (means_context b i m n) = refl

pub object_parts : {a : Areas} {top : ℕ} {n : Bytes} {v : Value} {ms : Members} {p : Parts} → Means a top (object (member n v ms)) (variants.Compound p) → p.form ≡ forms.Members → ObjectParts a top n v ms p
object_parts {ms = ms} (means_members {count = count} e f (row_member b t w m r)) q = record { name = w; head = node_means m; rest = means_members {ms = ms} {count = count - 1} (omega arith) (omega arith) r }
object_parts (means_context b i m n) q = clash cc

-- The two parts of a context.
pub record ContextParts (a : Areas) (top : ℕ) (cur acc : Value) (cell : ℕ) : Type 0 where
  pub of_current : Means a top cur (cell_handle a.cells cell)
  pub of_accumulator : Means a top acc (cell_handle a.cells (suc cell))

pub context_parts : {a : Areas} {top : ℕ} {cur acc : Value} {cell : ℕ} → Means a top (context cur acc) (variants.Compound (parts forms.Context cell 2)) → ContextParts a top cur acc cell
context_parts (means_context b i m n) = record { of_current = raised m (omega arith); of_accumulator = raised n (omega arith) }
