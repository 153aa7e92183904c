-- Handles: the handle of a value of the record (docs/LAYOUT.md).
use Rattle.std.specs.Prelude.{ℕ}
use Rattle.model.specs.Bytes.{Bytes}
use Rattle.table.specs.declared.node.Node.{Node}
use Rattle.table.specs.declared.node.Node.TheVariants as nodes
use Rattle.table.specs.Node.{node_at}
use Rattle.heap.specs.declared.handle.Handle.{Handle}
use Rattle.heap.specs.declared.handle.Handle.TheVariants.{Null, False, True, Integer, String, Compound}
use Rattle.heap.specs.declared.handle.Area.{Area}
use Rattle.heap.specs.declared.handle.Area.TheVariants.{Record}
use Rattle.heap.specs.declared.handle.Form.{Form}
use Rattle.heap.specs.declared.handle.Form.TheVariants.{Items, Members}
use Rattle.heap.specs.declared.handle.Parts.{Parts}
use Rattle.heap.specs.declared.handle.Span.{Span}

abbrev pub span : Area → ℕ → ℕ → Span
span area start size = record { area = area; start = start; size = size }

abbrev pub parts : Form → ℕ → ℕ → Parts
parts form first count = record { form = form; first = first; count = count }

-- A string lies in the record's strings.
abbrev pub record_handle : Node → Handle
record_handle nodes.Null = Null
record_handle nodes.False = False
record_handle nodes.True = True
record_handle (nodes.Integer n) = Integer n
record_handle (nodes.String s) = String (span Record s.start s.size)
record_handle (nodes.Array q) = Compound (parts Items q.first q.count)
record_handle (nodes.Object q) = Compound (parts Members q.first q.count)

-- The value in a row; null where the table has no such row.
abbrev pub row_handle : Bytes → ℕ → Handle
row_handle T i = record_handle (node_at T i)
