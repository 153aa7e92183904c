-- Stack: the handles of operands, in cells that go down from `bottom`.
use Rattle.std.specs.Prelude.{cond, List, [], ◌∷◌, ℕ, zero, suc, ◌-◌, leb}
use Rattle.model.specs.Bytes.{Bytes}
use Rattle.heap.specs.declared.handle.Handle.{Handle}
use Rattle.heap.specs.declared.handle.Handle.TheVariants.{Null}
use Rattle.heap.specs.Cells.{cell_handle}

-- The operand at a position; null where the stack has none.
unfoldable pub stack_cell : Bytes → ℕ → ℕ → Handle
stack_cell C bottom k = cond (leb bottom k) Null (cell_handle C (bottom - k - 1))

-- The first of so many operands; null where there is none.
abbrev pub first_cell : Bytes → ℕ → ℕ → Handle
first_cell C bottom zero = Null
first_cell C bottom (suc n) = stack_cell C bottom 0

-- So many operands from a position on.
unfoldable pub stacked_from : Bytes → ℕ → ℕ → ℕ → List Handle
stacked_from C bottom k zero = []
stacked_from C bottom k (suc n) = stack_cell C bottom k ∷ stacked_from C bottom (suc k) n

-- All of them, the first first.
abbrev pub stacked : Bytes → ℕ → ℕ → List Handle
stacked C bottom n = stacked_from C bottom 0 n
