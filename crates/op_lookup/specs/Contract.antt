-- Contract: what `value_at` promises: the handle of the value at a path.
use Rattle.std.specs.Prelude.{Some}
use Rattle.std.specs.Prelude.{◌≡◌, ℕ, ◌≤◌}
use Rattle.model.specs.Bytes.{Bytes}
use Rattle.model.specs.Limits.{heap_cells}
use Rattle.model.specs.Path.{Path, path_of, value_at}
use Rattle.model.specs.Value.{Value}
use Rattle.heap.specs.declared.handle.Handle.{Handle}
use Rattle.heap.specs.Means.{Means}
use Rattle.heap.specs.Unfold.{areas}

-- 01, `var`. The path's text s is one of `var` (path_of); c is the value of the context's handle. The rule's strings A play no part.
pub record Leads (s B T C : Bytes) (context r : Handle) : Type 0 where
  pub leads :
      (A : Bytes) (top : ℕ) (q : Path) (c : Value)
      → path_of s ≡ Some q
      → top ≤ heap_cells
      → Means (areas A B T C) top c context
      → Means (areas A B T C) top (value_at q c) r
