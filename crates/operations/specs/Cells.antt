-- Cells: which cells an evaluation changes.
use Rattle.std.specs.Prelude.{◌≡◌, ℕ, ◌≤◌, ◌<◌, length}
use Rattle.model.specs.Bytes.{Bytes}
use Rattle.heap.specs.Cells.{cell_handle}

-- Only those from `top` to `bottom`.
pub record Same (C C' : Bytes) (top bottom : ℕ) : Type 0 where
  pub below : (j : ℕ) → j < top → cell_handle C j ≡ cell_handle C' j
  pub above : (j : ℕ) → bottom ≤ j → cell_handle C j ≡ cell_handle C' j
  pub size : length C' ≡ length C
