-- Inner: what the private functions do.
use Rattle.std.specs.Prelude.{Option, None, Some, cond, ◌≡◌, ℕ, ◌+◌, ◌≤◌}
use Rattle.model.specs.Bytes.{Bytes, same_bytes}
use Rattle.model.specs.Eval.{current, accumulator}
use Rattle.model.specs.Limits.{heap_cells}
use Rattle.model.specs.Option.{◌>>=◌}
use Rattle.model.specs.Path.{index_of, item_at, part}
use Rattle.model.specs.Value.{Value, array, Values}
use Rattle.table.specs.declared.node.Node.{Node}
use Rattle.table.specs.declared.node.Node.TheVariants as nodes
use Rattle.table.specs.declared.node.Rows.{Rows}
use Rattle.table.specs.Node.{rows}
use Rattle.paths.specs.Inner.{or_null}
use Rattle.heap.specs.declared.handle.Form.{Form}
use Rattle.heap.specs.declared.handle.Form.TheVariants.{Items, Members, List, Context}
use Rattle.heap.specs.declared.handle.Handle.{Handle}
use Rattle.heap.specs.declared.handle.Handle.TheVariants.{Null, False, True, Integer, Instant, String, Compound}
use Rattle.heap.specs.declared.handle.Parts.{Parts}
use Rattle.heap.specs.Cells.{cell_handle}
use Rattle.heap.specs.Means.{Means}
use Rattle.heap.specs.Unfold.{areas}

-- ---- where a value lies
-- By what its parts are.
abbrev pub place_by : Form → Rows → Option Node
place_by Items q = Some (nodes.Array q)
place_by Members q = Some (nodes.Object q)
place_by List q = None
place_by Context q = None

abbrev pub place_of : Handle → Option Node
place_of Null = None
place_of False = None
place_of True = None
place_of (Integer n) = None
place_of (Instant n) = None
place_of (String s) = None
place_of (Compound p) = place_by p.form (rows p.first p.count)

-- ---- cells
-- The member of a context, of the name f: 01, Evaluation: "an object with `current` and `accumulator` in that order".
abbrev pub member_of : Bytes → Bytes → ℕ → Handle
member_of f C cell =
    cond (same_bytes f current) (cell_handle C cell)
    (cond (same_bytes f accumulator) (cell_handle C (cell + 1))
    Null)

-- The item of a computed list, null where there is none.
pub record ItemNamed (f C : Bytes) (p : Parts) (r : Handle) : Type 0 where
  pub means :
      (A B T : Bytes) (top : ℕ) (vs : Values)
      → top ≤ heap_cells
      → p.form ≡ List
      → Means (areas A B T C) top (array vs) (Compound p)
      → Means (areas A B T C) top (or_null (index_of f >>= item_at vs)) r

-- ---- a fragment
-- What it names in a value that lies in no record; null where it names nothing.
pub record PartNamed (f C : Bytes) (h r : Handle) : Type 0 where
  pub means :
      (A B T : Bytes) (top : ℕ) (v : Value)
      → top ≤ heap_cells
      → place_of h ≡ None
      → Means (areas A B T C) top v h
      → Means (areas A B T C) top (or_null (part f v)) r
