-- View: what the viewer tells of any bytes as a table. 01, Reading: "it tells kind, count (0 for a scalar) and the place of the nth item or member's
-- content, from 0. A place or number that is not there, or a row that has not the form described in docs/, gives refusal 1."
use Rattle.std.specs.Prelude.{◌&&◌, cond, ℕ, zero, suc, ◌+◌, ltb, leb}
use Rattle.std.specs.Prelude.{Option, None, Some}
use Rattle.model.specs.Bytes.{Bytes}
use Rattle.model.specs.Option.{◌>>=◌}
use Rattle.viewer.specs.Form.{has_form}
use Rattle.table.specs.declared.row.Row.{Row}
use Rattle.table.specs.Row.{numbers_at}
use Rattle.viewer.specs.Row.{row_count, count_of, end_of}

-- ---- the row at a place
-- It is there and has the form.
abbrev pub row_seen : Bytes → ℕ → Option Row
row_seen T place =
    cond (ltb place (row_count T) && has_form (row_count T) place (numbers_at T place))
    (Some (numbers_at T place))
    None

-- ---- the parts of a container that ends before the row `end`
-- The place after the value at a place: its row is there and has the form, and it ends within the container.
abbrev pub next_of : ℕ → ℕ → Option Row → Option ℕ
next_of end place (Some r) = cond (leb (end_of place r) end) (Some (end_of place r)) None
next_of end place None = None

abbrev pub next_within : Bytes → ℕ → ℕ → Option ℕ
next_within T end place = next_of end place (row_seen T place)

-- The place of the nth value from a place on, where all before it and it itself are such.
unfoldable pub nth_within : Bytes → ℕ → ℕ → ℕ → Option ℕ
nth_within T end zero place = next_within T end place >>= λ _. Some place
nth_within T end (suc n) place = next_within T end place >>= nth_within T end n

-- The parts stand from the next row on. A container has as many as its count.
abbrev pub part_of_row : Bytes → ℕ → ℕ → Option Row → Option ℕ
part_of_row T place nth (Some r) = cond (ltb nth (count_of r)) (nth_within T r.second nth (place + 1)) None
part_of_row T place nth None = None

abbrev pub part_seen : Bytes → ℕ → ℕ → Option ℕ
part_seen T place nth = part_of_row T place nth (row_seen T place)
