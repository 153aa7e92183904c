-- Means: the value that a handle means, of any nesting.
use Rattle.std.specs.Prelude.{◌≡◌, true, false, ℕ, suc, ◌+◌, ◌/◌, ◌≤◌, ◌<◌, T, ℤ, length}
use Rattle.model.specs.Bytes.{Bytes}
use Rattle.model.specs.Eval.{context}
use Rattle.model.specs.Instant.{in_range, since_year0}
use Rattle.model.specs.Limits.{max_values}
use Rattle.model.specs.Value.{Value, scalar, instant, array, object, null, boolean, integer, string, Values, no_items, item, Members as ValueMembers, member_count, within_limits}
use Rattle.syntax.specs.Layout.{biased, item_count}
use Rattle.table.specs.Denotes.{Lies, RowItems, RowMembers}
use Rattle.heap.specs.declared.handle.Handle.{Handle}
use Rattle.heap.specs.declared.handle.Handle.TheVariants.{Null, False, True, Integer, Instant, String, Compound}
use Rattle.heap.specs.declared.handle.Area.{Area}
use Rattle.heap.specs.declared.handle.Form.TheVariants.{Items, Members, List, Context}
use Rattle.heap.specs.Cells.{cell_bytes, cell_handle}
use Rattle.heap.specs.Handles.{span, parts}
use Rattle.heap.specs.Strings.{area_bytes}
use Rattle.heap.specs.Unfold.{Areas}

-- Every row that a handle refers to is one of the table's, every cell one of the heap's and below `top`; what stands in a row refers to no cell, what stands in a cell
-- to older cells only: so the meaning of a handle is kept while the heap grows, and a value is never part of itself. By the bounds of rows and counts, and of where a
-- string lies, a cell can hold the handle (Laws: means_small).
mutual
  pub data Means (a : Areas) : ℕ → Value → Handle → Type 0 where
    means_null : {top : ℕ} → Means a top (scalar null) Null
    means_false : {top : ℕ} → Means a top (scalar (boolean false)) False
    means_true : {top : ℕ} → Means a top (scalar (boolean true)) True
    means_integer : {top : ℕ} {z : ℤ} {n : ℕ} → T (within_limits z) → n ≡ biased z → Means a top (scalar (integer z)) (Integer n)
    means_instant : {top : ℕ} {t : ℤ} {n : ℕ} → T (in_range t) → n ≡ since_year0 t → Means a top (instant t) (Instant n)
    means_string : {top : ℕ} {s : Bytes} {area : Area} {start size : ℕ} → Lies (area_bytes a.rule a.strings area) start size s → Means a top (scalar (string s)) (String (span area start size))
    means_items : {top : ℕ} {vs : Values} {row count : ℕ} → count ≡ item_count vs → count ≤ max_values → RowItems a.table a.strings row vs → Means a top (array vs) (Compound (parts Items row count))
    means_members : {top : ℕ} {ms : ValueMembers} {row count : ℕ} → count ≡ member_count ms → count ≤ max_values → RowMembers a.table a.strings row ms → Means a top (object ms) (Compound (parts Members row count))
    means_list : {top : ℕ} {vs : Values} {cell count : ℕ} → count ≡ item_count vs → cell + count ≤ top → CellItems a cell vs → Means a top (array vs) (Compound (parts List cell count))
    means_context : {top : ℕ} {cur acc : Value} {cell : ℕ} → cell + 2 ≤ top → suc cell < length a.cells / cell_bytes → Means a cell cur (cell_handle a.cells cell) → Means a cell acc (cell_handle a.cells (suc cell)) → Means a top (context cur acc) (Compound (parts Context cell 2))

  -- The items of a computed list, from a cell on.
  pub data CellItems (a : Areas) : ℕ → Values → Type 0 where
    no_cell_items : {cell : ℕ} → CellItems a cell no_items
    cell_item : {cell : ℕ} {v : Value} {vs : Values} → cell < length a.cells / cell_bytes → Means a cell v (cell_handle a.cells cell) → CellItems a (suc cell) vs → CellItems a cell (item v vs)
