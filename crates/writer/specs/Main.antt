-- Main: what the writer's contract says of values, restated with nothing else; the proofs are in heap's and syntax's laws.
use Rattle.std.specs.Prelude.{◌≡◌, ℕ}
use Rattle.std.proofs.Common.{ap}
use Rattle.model.specs.Bytes.{Bytes}
use Rattle.model.specs.Value.{Value}
use Rattle.syntax.specs.Layout.{table_of, strings_area_of}
use Rattle.syntax.specs.Output.{value_written, write_into}
use Rattle.syntax.specs.Read.{done, read}
use Rattle.heap.specs.declared.handle.Handle.{Handle}
use Rattle.heap.specs.Handles.{row_handle}
use Rattle.heap.proofs.Main as Heap
use Rattle.heap.specs.Means.{Means}
use Rattle.heap.specs.Unfold.{Areas}
use Rattle.writer.specs.Contract.{handle_written}

-- Of a handle that means a value, the writer gives what writing the value gives: its text, 11 or 12, and the output's last bytes.
pub value_written_lem : (a : Areas) (top : ℕ) (v : Value) (h : Handle) (room : ℕ) → Means a top v h → handle_written a h room ≡ value_written v room
value_written_lem a top v h room m = ap (λ r. write_into r room) (Heap.written a top v h room m)

-- So of the first row of what reading left: the text of what was read.
pub read_value_written :
    (s : Bytes) (v : Value) (a : Areas) (n m room : ℕ)
    → read s ≡ done v
    → a.table ≡ table_of v n
    → a.strings ≡ strings_area_of v m
    → handle_written a (row_handle a.table 0) room ≡ value_written v room
read_value_written s v a n m room e t b = ap (λ r. write_into r room) (Heap.read_written s v a n m room e t b)
