-- Entry: what every entry comes back with.
use Rattle.std.specs.Prelude.{Bool, ◌||◌, ℕ, ◌*◌, ltb, length, replicate}
use Rattle.model.specs.Bytes.{Bytes}
use Rattle.model.specs.Limits.{max_steps, heap_cells}
use Rattle.model.specs.Refusal.{number}
use Rattle.model.specs.declared.refusal.Refusal.TheVariants.{InvalidArgument}
use Rattle.heap.specs.Cells.{cell_bytes}

-- A refusal's number, or 0; the numbers that are told; the lent areas.
pub record Entry (N A : Type 0) : Type 0 where
  pub refusal : ℕ
  pub numbers : N
  pub areas : A

-- "Refusal 1 touches nothing."
abbrev pub untouched : {N A : Type 0} → N → A → Entry N A
untouched n a = record { refusal = number InvalidArgument; numbers = n; areas = a }

-- The cells of evaluation, and the output.
pub record WorkAreas : Type 0 where
  pub cells : Bytes
  pub output : Bytes

abbrev pub work_areas : Bytes → Bytes → WorkAreas
work_areas C O = record { cells = C; output = O }

-- 01, Work room: "evaluation has room for 4,096 values".
abbrev pub cells_bytes : ℕ
cells_bytes = heap_cells * cell_bytes

-- Refusal 1: "a work area below its stated size, or a step limit above 1,000". The output is no work area.
abbrev pub cannot_run : ℕ → Bytes → Bool
cannot_run limit cells = ltb max_steps limit || ltb (length cells) cells_bytes

-- "Every other refusal leaves all work areas and the output area zero."
abbrev pub zeroed_work : WorkAreas → WorkAreas
zeroed_work w = work_areas (replicate (length w.cells) 0) (replicate (length w.output) 0)
