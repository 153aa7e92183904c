-- Made: handles that are put into cells from `top` on mean what evaluation makes of them: a context of two, a list of any number.
use Rattle.std.specs.Prelude.{◌≡◌, refl, List, [], ◌∷◌, ℕ, suc, ◌+◌, ◌/◌, ◌≤◌, ◌<◌, length}
use Rattle.std.proofs.Common.{sym, ap, ◌∙◌, arith}
use Rattle.model.specs.Bytes.{Bytes}
use Rattle.model.specs.Eval.{context}
use Rattle.model.specs.Limits.{heap_cells}
use Rattle.model.specs.Value.{Value, array, Values}
use Rattle.syntax.specs.Layout.{item_count}
use Rattle.heap.specs.declared.handle.Handle.{Handle}
use Rattle.heap.specs.declared.handle.Handle.TheVariants.{Compound}
use Rattle.heap.specs.declared.handle.Form.TheVariants as forms
use Rattle.heap.specs.Blocks.{stored_from, MeansEach, no_handles, handle_item}
use Rattle.heap.specs.Cells.{cell_bytes, cell_handle, stored}
use Rattle.heap.specs.Handles.{parts}
use Rattle.heap.specs.Means.{Means, means_list, means_context, CellItems, no_cell_items, cell_item}
use Rattle.heap.specs.Unfold.{Areas, with_cells}
use Rattle.heap.proofs.Laws.Cells.{length_stored, stored_here, stored_other}
use Rattle.heap.proofs.Laws.Means.{grown, raised, stored_kept, means_small}

-- ---- a context
pub context_made :
    {a : Areas} {top : ℕ} {cur acc : Value} {x y : Handle}
    → Means a top cur x
    → Means a top acc y
    → suc top < length a.cells / cell_bytes
    → top ≤ heap_cells
    → Means (with_cells a (stored (stored a.cells top x) (suc top) y)) (top + 2) (context cur acc) (Compound (parts forms.Context top 2))
context_made {a} {top} {cur} {acc} {x} {y} m n room l =
    let C = stored a.cells top x in
    let first = length_stored a.cells top x in
    let second = length_stored C (suc top) y in
    let x-stands : cell_handle (stored C (suc top) y) top ≡ x = stored_other C top (suc top) y (λ e. omega arith) ∙ stored_here a.cells top x (omega arith) (means_small m l) in
    let y-stands : cell_handle (stored C (suc top) y) (suc top) ≡ y = stored_here C (suc top) y (rw first room) (means_small n l) in
    let cur-kept = stored_kept (suc top) y (omega arith) (stored_kept top x (omega arith) m) in
    let acc_kept = stored_kept (suc top) y (omega arith) (stored_kept top x (omega arith) n) in
    means_context {top = top + 2} {cur = cur} {acc = acc} {cell = top} (omega arith) (rw (second, first) room) (rw x-stands cur-kept) (rw y-stands acc_kept)

-- ---- a list
pub length_stored_from : (C : Bytes) (cell : ℕ) (hs : List Handle) → length (stored_from C cell hs) ≡ length C
unfolding stored_from
length_stored_from C cell [] = refl
length_stored_from C cell (h ∷ hs) = length_stored_from (stored C cell h) (suc cell) hs ∙ length_stored C cell h

-- The cells before the first stay as they were.
pub stored_from_before : (C : Bytes) (cell : ℕ) (hs : List Handle) (j : ℕ) → j < cell → cell_handle (stored_from C cell hs) j ≡ cell_handle C j
unfolding stored_from
stored_from_before C cell [] j l = refl
stored_from_before C cell (h ∷ hs) j l = stored_from_before (stored C cell h) (suc cell) hs j (omega arith) ∙ stored_other C j cell h (λ e. omega arith)

stored_from_kept : {a : Areas} {top : ℕ} {v : Value} {h : Handle} (cell : ℕ) (hs : List Handle) → top ≤ cell → Means a top v h → Means (with_cells a (stored_from a.cells cell hs)) top v h
stored_from_kept {a} cell hs l m =
    grown (stored_from a.cells cell hs) (omega (arith, length_stored_from a.cells cell hs)) m
    (λ j b. sym (stored_from_before a.cells cell hs j (omega arith)))

each_kept : {a : Areas} {top : ℕ} {vs : Values} {hs : List Handle} (cell : ℕ) (x : Handle) → top ≤ cell → MeansEach a top vs hs → MeansEach (with_cells a (stored a.cells cell x)) top vs hs
each_kept cell x l no_handles = no_handles
each_kept cell x l (handle_item m ms) = handle_item (stored_kept cell x l m) (each_kept cell x l ms)

pub each_count : {a : Areas} {top : ℕ} {vs : Values} {hs : List Handle} → MeansEach a top vs hs → length hs ≡ item_count vs
unfolding item_count
each_count no_handles = refl
each_count (handle_item m ms) = ap suc (each_count ms)

items_made :
    (hs : List Handle) {a : Areas} {top : ℕ} {vs : Values} (cell : ℕ)
    → MeansEach a top vs hs
    → top ≤ cell
    → cell + length hs ≤ length a.cells / cell_bytes
    → top ≤ heap_cells
    → CellItems (with_cells a (stored_from a.cells cell hs)) cell vs
unfolding stored_from
items_made [] cell no_handles l room b = no_cell_items
items_made (h ∷ hs) {a} cell (handle_item {v = v} {vs = vs} m ms) l room b =
    let C = stored a.cells cell h in
    let same = length_stored a.cells cell h in
    let size = length_stored_from C (suc cell) hs in
    let stands : cell_handle (stored_from C (suc cell) hs) cell ≡ h = stored_from_before C (suc cell) hs cell (omega arith) ∙ stored_here a.cells cell h (omega arith) (means_small m b) in
    cell_item {cell = cell} {v = v} {vs = vs} (rw (size, same) (omega arith))
    (rw stands (raised (stored_from_kept cell (h ∷ hs) l m) l))
    (items_made hs (suc cell) (each_kept cell h l ms) (omega arith) (rw same (omega arith)) b)

pub list_made :
    {a : Areas} {top : ℕ} {vs : Values} {hs : List Handle}
    → MeansEach a top vs hs
    → top + length hs ≤ length a.cells / cell_bytes
    → top ≤ heap_cells
    → Means (with_cells a (stored_from a.cells top hs)) (top + length hs) (array vs) (Compound (parts forms.List top (length hs)))
list_made {a} {top} {vs} {hs} m room b = means_list {top = top + length hs} {vs = vs} {cell = top} {count = length hs} (each_count m) (omega arith) (items_made hs top m (omega arith) room b)
