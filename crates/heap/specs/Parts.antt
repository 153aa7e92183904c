-- Parts: the parts of an array or object: the first, its name, and the others.
use Rattle.std.specs.Prelude.{cond, [], ℕ, ◌+◌, ◌-◌, ◌/◌, eqb, ltb, length}
use Rattle.model.specs.Bytes.{Bytes}
use Rattle.model.specs.Eval.{current, accumulator}
use Rattle.table.specs.Node.{next_row, name_at}
use Rattle.table.specs.Strings.{bytes_of}
use Rattle.heap.specs.declared.handle.Form.{Form}
use Rattle.heap.specs.declared.handle.Form.TheVariants.{Items, Members, List, Context}
use Rattle.heap.specs.declared.handle.Handle.{Handle}
use Rattle.heap.specs.declared.handle.Parts.{Parts}
use Rattle.heap.specs.declared.part.Label.{Label}
use Rattle.heap.specs.declared.part.Label.TheVariants.{Nothing, Name, Current, Accumulator}
use Rattle.heap.specs.Cells.{cell_bytes, cell_handle}
use Rattle.heap.specs.Handles.{parts, row_handle}

-- The first part: in a row of the table T, or in a cell of the heap C.
abbrev pub head_at : Bytes → Bytes → Form → ℕ → Handle
head_at T C Items i = row_handle T i
head_at T C Members i = row_handle T i
head_at T C List j = cell_handle C j
head_at T C Context j = cell_handle C j

abbrev pub head_of : Bytes → Bytes → Parts → Handle
head_of T C p = head_at T C p.form p.first

-- The cell after a cell; the cell itself where there is no such cell, so that no number grows without bound.
unfoldable pub next_cell : Bytes → ℕ → ℕ
next_cell C j = cond (ltb j (length C / cell_bytes)) (j + 1) j

abbrev pub next_at : Bytes → Bytes → Form → ℕ → ℕ
next_at T C Items i = next_row T i
next_at T C Members i = next_row T i
next_at T C List j = next_cell C j
next_at T C Context j = next_cell C j

abbrev pub next_of : Bytes → Bytes → Parts → ℕ
next_of T C p = next_at T C p.form p.first

-- The parts after the first.
abbrev pub tail_of : Bytes → Bytes → Parts → Parts
tail_of T C p = parts p.form (next_of T C p) (p.count - 1)

-- ---- names
-- 01, Evaluation: "an object with `current` and `accumulator` in that order"; the last of them is left where the count is 1.
abbrev pub context_label : ℕ → Label
context_label n = cond (eqb n 1) Accumulator Current

abbrev pub label_at : Bytes → Form → ℕ → ℕ → Label
label_at T Items i n = Nothing
label_at T Members i n = Name (name_at T i)
label_at T List j n = Nothing
label_at T Context j n = context_label n

abbrev pub label_of : Bytes → Parts → Label
label_of T p = label_at T p.form p.first p.count

-- A name's bytes: a part of the record's strings B, or a constant.
abbrev pub label_bytes : Bytes → Label → Bytes
label_bytes B Nothing = []
label_bytes B (Name s) = bytes_of B s
label_bytes B Current = current
label_bytes B Accumulator = accumulator
