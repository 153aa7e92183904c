-- Rows: a test of rows, by the first row and the others.
use mathlib.Core.Path.{◌≡◌, ◌∙◌}
use mathlib.Core.Bool.{Bool, true, false, ◌&&◌}
use Prim.Native.Nat.{ℕ, ◌-◌, ◌≤◌}
use Rattle.model.specs.Bytes.{Bytes}
use Rattle.table.specs.declared.node.Rows.{Rows}
use Rattle.table.specs.Laws.Every.{every_on}
use Rattle.table.specs.Node.{next_row, tail_of, every_row}

module _ (f : ℕ → Bool) (T : Bytes) (q : Rows) where
  pub rows_end : q.count ≡ 0 → true ≡ every_row f T q.first q.count
  rows_end e = rw e

  module _ (more : 1 ≤ q.count) {b : Bool} (is-test : b ≡ f q.first) where
    rows_on : (b && every_row f T (next_row T q.first) (q.count - 1)) ≡ every_row f T q.first q.count
    rows_on = every_on f T q.first q.count more is-test

    pub rows_stop : b ≡ false → false ≡ every_row f T q.first q.count
    rows_stop e = rw e at rows_on

    pub rows_next : {t : Rows} {r : Bool} → b ≡ true → t ≡ tail_of T q → r ≡ every_row f T t.first t.count → r ≡ every_row f T q.first q.count
    rows_next e i x = rw i at x ∙ rw e at rows_on
