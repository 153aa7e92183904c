-- Main: the theorems of handles, restated with nothing else; the proofs are in Laws.
-- `Means a top v h`: in the areas a the handle h means the value v, and refers to cells below `top` only.
use Rattle.std.specs.Prelude.{List, ◌≡◌, ℕ, suc, ◌+◌, ◌/◌, ◌≤◌, ◌<◌, length}
use Rattle.model.specs.Bytes.{Bytes}
use Rattle.model.specs.Eval.{context}
use Rattle.model.specs.Judgement.{written_within}
use Rattle.model.specs.Limits.{max_nesting, heap_cells}
use Rattle.model.specs.Value.{Value, array, object, Values, item, Members as ValueMembers, member, member_count}
use Rattle.syntax.specs.Layout.{item_count, strings_area_of, table_of}
use Rattle.syntax.specs.Read.{done, read}
use Rattle.table.specs.declared.node.Node.{Node}
use Rattle.table.specs.Denotes.{Denotes}
use Rattle.table.specs.Main as TableTheorems
use Rattle.table.specs.Node.{node_at}
use Rattle.heap.specs.declared.handle.Handle.{Handle}
use Rattle.heap.specs.declared.handle.Handle.TheVariants.{Compound}
use Rattle.heap.specs.declared.handle.Form.TheVariants as forms
use Rattle.heap.specs.declared.handle.Form.TheVariants.{Members, Context}
use Rattle.heap.specs.declared.handle.Parts.{Parts}
use Rattle.heap.specs.Blocks.{stored_from, MeansEach}
use Rattle.heap.specs.Cells.{cell_bytes, Small, cell_handle, stored}
use Rattle.heap.specs.Handles.{parts, record_handle, row_handle}
use Rattle.heap.specs.Means.{Means}
use Rattle.heap.specs.Parts.{head_of, tail_of, label_of, label_bytes}
use Rattle.heap.specs.Unfold.{Areas, areas, with_cells, unfolded}
use Rattle.heap.proofs.Laws.Cells as CellsLaws
use Rattle.heap.proofs.Laws.Made as MadeLaws
use Rattle.heap.proofs.Laws.Means as MeansLaws
use Rattle.heap.proofs.Laws.Rows as RowsLaws

-- A handle means one value.
pub one_value : (a : Areas) (top : ℕ) (v w : Value) (h : Handle) → Means a top v h → Means a top w h → v ≡ w
one_value a top v w h m n = MeansLaws.one m n

-- Its meaning is kept while the heap grows: the cells C', no fewer, hold below `top` what C does.
pub kept :
    (A B T C C' : Bytes) (top top' : ℕ) (v : Value) (h : Handle)
    → Means (areas A B T C) top v h
    → ((j : ℕ) → j < top → cell_handle C j ≡ cell_handle C' j)
    → length C ≤ length C'
    → top ≤ top'
    → Means (areas A B T C') top' v h
kept A B T C C' top top' v h m agree n l = MeansLaws.raised (MeansLaws.grown C' n m agree) l

-- Put, then get: a handle that is put into a cell is what the cell then holds,
pub put_here : (C : Bytes) (j : ℕ) (h : Handle) → j < length C / cell_bytes → Small h → cell_handle (stored C j h) j ≡ h
put_here = CellsLaws.stored_here

-- and no other cell changes.
pub put_other : (C : Bytes) (i j : ℕ) (h : Handle) → (i ≡ j → ⊥) → cell_handle (stored C j h) i ≡ cell_handle C i
put_other = CellsLaws.stored_other

-- A handle with a meaning can be put into a cell: a cell has room for all of it.
pub means_small : (a : Areas) (top : ℕ) (v : Value) (h : Handle) → Means a top v h → top ≤ heap_cells → Small h
means_small a top v h m l = MeansLaws.means_small m l

-- What is put into a cell from `top` on changes no meaning below `top`.
pub put_kept :
    (A B T C : Bytes) (top j : ℕ) (v : Value) (h x : Handle)
    → Means (areas A B T C) top v h
    → top ≤ j
    → Means (areas A B T (stored C j x)) top v h
put_kept A B T C top j v h x m l = MeansLaws.stored_kept j x l m

-- What evaluation makes: handles in the two cells from `top` on are a lambda's context of the values that they mean,
pub context_made :
    (a : Areas) (top : ℕ) (cur acc : Value) (x y : Handle)
    → Means a top cur x
    → Means a top acc y
    → suc top < length a.cells / cell_bytes
    → top ≤ heap_cells
    → Means (with_cells a (stored (stored a.cells top x) (suc top) y)) (top + 2) (context cur acc) (Compound (parts Context top 2))
context_made a top cur acc x y m n room l = MadeLaws.context_made m n room l

-- and any number of them, one after the other, a list.
pub list_made :
    (a : Areas) (top : ℕ) (vs : Values) (hs : List Handle)
    → MeansEach a top vs hs
    → top + length hs ≤ length a.cells / cell_bytes
    → top ≤ heap_cells
    → Means (with_cells a (stored_from a.cells top hs)) (top + length hs) (array vs) (Compound (parts forms.List top (length hs)))
list_made a top vs hs m room l = MadeLaws.list_made m room l

-- An array's handle has as many parts as the array has items; the first part means the first item, the others are an array of the others.
pub array_count : (a : Areas) (top : ℕ) (vs : Values) (p : Parts) → Means a top (array vs) (Compound p) → p.count ≡ item_count vs
array_count a top vs p m = MeansLaws.array_count m

pub array_parts :
    (a : Areas) (top : ℕ) (v : Value) (vs : Values) (p : Parts)
    → Means a top (array (item v vs)) (Compound p)
    → Means a top v (head_of a.table a.cells p)
    × Means a top (array vs) (Compound (tail_of a.table a.cells p))
array_parts a top v vs p m = let r = MeansLaws.array_parts m in (r.head, r.rest)

-- So it is of an object that was read, and the first part has the first member's name.
pub object_count : (a : Areas) (top : ℕ) (ms : ValueMembers) (p : Parts) → Means a top (object ms) (Compound p) → p.count ≡ member_count ms
object_count a top ms p m = MeansLaws.object_count m

pub object_parts :
    (a : Areas) (top : ℕ) (n : Bytes) (v : Value) (ms : ValueMembers) (p : Parts)
    → Means a top (object (member n v ms)) (Compound p)
    → p.form ≡ Members
    → (n ≡ label_bytes a.strings (label_of a.table p))
    × Means a top v (head_of a.table a.cells p)
    × Means a top (object ms) (Compound (tail_of a.table a.cells p))
object_parts a top n v ms p m e = let r = MeansLaws.object_parts m e in (r.name, r.head, r.rest)

-- A context's two parts stand in two cells, one after the other.
pub context_parts :
    (a : Areas) (top : ℕ) (cur acc : Value) (cell : ℕ)
    → Means a top (context cur acc) (Compound (parts Context cell 2))
    → Means a top cur (cell_handle a.cells cell) × Means a top acc (cell_handle a.cells (suc cell))
context_parts a top cur acc cell m = let r = MeansLaws.context_parts m in (r.of_current, r.of_accumulator)

-- What is written of an answer, its text or the refusal 11 or 12, is found from its handle by going no deeper than an answer may nest.
pub written :
    (a : Areas) (top : ℕ) (v : Value) (h : Handle) (room : ℕ)
    → Means a top v h
    → written_within room (unfolded a max_nesting h) ≡ written_within room v
written a top v h room m = MeansLaws.means_written m room

-- A node of the record's table that denotes a value has a handle that means it; and the other way round.
pub node_means :
    (a : Areas) (top : ℕ) (v : Value) (n : Node)
    → Denotes a.table a.strings v n
    → Means a top v (record_handle n)
node_means a top v n d = RowsLaws.node_means d

pub node_denotes :
    (a : Areas) (top : ℕ) (v : Value) (n : Node)
    → Means a top v (record_handle n)
    → Denotes a.table a.strings v n
node_denotes a top v n m = RowsLaws.node_denotes n m

-- So what reading leaves in its areas means the value that was read: the handle is that of the first row.
pub what_was_read :
    (s : Bytes) (v : Value) (a : Areas) (n m : ℕ)
    → read s ≡ done v
    → a.table ≡ table_of v n
    → a.strings ≡ strings_area_of v m
    → Means a 0 v (row_handle a.table 0)
what_was_read s v a n m e t b = node_means a 0 v (node_at a.table 0) (TableTheorems.what_was_read s v a.table a.strings n m e t b)

-- So what is written from the first row is the text of what was read.
pub read_written :
    (s : Bytes) (v : Value) (a : Areas) (n m room : ℕ)
    → read s ≡ done v
    → a.table ≡ table_of v n
    → a.strings ≡ strings_area_of v m
    → written_within room (unfolded a max_nesting (row_handle a.table 0)) ≡ written_within room v
read_written s v a n m room e t b = written a 0 v (row_handle a.table 0) room (what_was_read s v a n m e t b)
