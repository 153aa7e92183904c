-- Numbers: instants as the numbers that handles hold, there and back, and how large the number of a cell is.
use Rattle.std.specs.Prelude.{◌≡◌, ℕ, ◌≤◌, ◌<◌, T, ℤ}
use Rattle.std.proofs.Common.{ap, arith}
use Rattle.model.specs.Instant.{in_range, since_year0}
use Rattle.model.proofs.Laws.DateText.{since_back}
use Rattle.model.proofs.Laws.Logic.{T→true}
use Rattle.model.proofs.Laws.Widths.{cells_below}
use Rattle.model.specs.Limits.{heap_cells}
use Rattle.model.specs.Value.{instant}
use Rattle.heap.specs.Unfold.{instant_at}

-- ---- instants
pub instant_at_since_year0 : (t : ℤ) → T (in_range t) → instant_at (since_year0 t) ≡ instant t
unfolding instant_at
instant_at_since_year0 t h = rw (instant_at, since_back t h, T→true (in_range t) h) (ap instant (since_back t h))

-- ---- cells
-- A cell has 32 bits for a place and 24 for a size or count.
pub heap_small : {n : ℕ} → n ≤ heap_cells → n < 16777216
heap_small h = omega (arith, cells_below)
