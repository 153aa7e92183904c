-- WasRead: the rows of a table go by its rows' part alone; in the rows of a read table stands its value, and behind the value are zeros.
use Rattle.std.specs.Prelude.{◌≡◌, refl, ℕ, zero, suc, ◌+◌, ◌*◌, ◌-◌, ◌/◌, ◌≤◌, ◌<◌, get_or}
use Rattle.std.proofs.Math.Path.{sym, ap}
use Rattle.std.proofs.Common.{◌∙◌, lt-ltb}
use Rattle.std.proofs.Math.Bool.{true}
use mathlib.Core.List.{◌++◌, append_assoc}
use native.Mathlib.Omega.{arith}
use Rattle.std.proofs.Math.Dec.{ltb}
use Rattle.std.proofs.Math.ListN.{length, take, drop, replicate, length-append, length-replicate, take-append-drop}
use Rattle.std.proofs.Math.Seq.{take-append-add, drop-append-add}
use Rattle.area.specs.Words.{word_at, zero_from}
use Rattle.area.specs.Laws.{word_at_take, word_at_append}
use Rattle.model.specs.Bytes.{Bytes}
use Rattle.model.specs.Limits.{max_values}
use Rattle.model.specs.Size.{value_count}
use Rattle.model.specs.Value.{Value}
use Rattle.syntax.specs.Layout.{row_bytes, entry_bytes, padded, rows_of, rows_part, strings_of, table_of, unnamed}
use Rattle.syntax.proofs.Laws.Layout.{length_rows}
use Rattle.syntax.proofs.Laws.Sound.{sound}
use Rattle.syntax.proofs.Laws.Stands.{Stands, starts}
use Rattle.table.specs.declared.node.Node.TheVariants.{Null}
use Rattle.table.specs.declared.row.Row.{Row}
use Rattle.table.specs.Node.{node_at, next_row, name_at}
use Rattle.table.specs.Row.{no_row, row_at}
use Rattle.table.specs.WasRead.{WasRead}

-- ---- tables of the same rows
-- Two tables of one length have the same rows, whatever lies behind them.
pub record SameRows (T' T : Bytes) : Type 0 where
  pub rows : rows_part T' ≡ rows_part T
  pub size : length T' ≡ length T

module _ {T' T : Bytes} (same : SameRows T' T) (row : ℕ) (inside : row < max_values) where
  pub word_same : (k : ℕ) → k ≤ 12 → word_at T' (row * row_bytes + k) ≡ word_at T (row * row_bytes + k)
  unfolding rows_part row_bytes
  word_same k h =
      let n = max_values * 16 in
      let at = row * 16 + k in
      sym (word_at_take n T' at (omega arith)) ∙ ap (λ (bs : Bytes). word_at bs at) same.rows ∙ word_at_take n T at (omega arith)

  pub row_same : row_at T' row ≡ row_at T row
  unfolding row_at
  row_same =
      let e : row * row_bytes + 0 ≡ row * row_bytes = omega arith in
      let w : word_at T' (row * row_bytes) ≡ word_at T (row * row_bytes) = rw e at (word_same 0 (omega arith)) in
      rw (same.size, w, word_same 4 (omega arith), word_same 8 (omega arith), word_same 12 (omega arith))

  pub node_same : node_at T' row ≡ node_at T row
  unfolding node_at
  node_same = rw (same.size, row_same)

  pub next_same : next_row T' row ≡ next_row T row
  unfolding next_row
  next_same = rw (same.size, row_same)

  pub name_same : name_at T' row ≡ name_at T row
  name_same = ap (λ (r : Row). r.name) row_same

pub was_read_same : {T' T B : Bytes} {v : Value} → WasRead T B v → SameRows T' T → WasRead T' B v
was_read_same {v = v} w same =
    record {
      text = w.text;
      reads = w.reads;
      size = rw same.size w.size;
      rows = same.rows ∙ w.rows ∙ ap (λ (n : ℕ). rows_part (table_of v n)) (sym same.size);
      strings = w.strings;
    }

-- ---- zeros
zeros_get : (n i : ℕ) → ◌≡◌ {A = ℕ} (get_or (replicate n 0) i 0) 0
zeros_get zero i = refl
zeros_get (suc n) zero = refl
zeros_get (suc n) (suc i) = zeros_get n i

zeros_word : (n at : ℕ) → word_at (replicate n 0) at ≡ 0
unfolding word_at
zeros_word n at = simp zeros_get

zeros_drop : (n k : ℕ) → ◌≡◌ {A = Bytes} (drop n (replicate k 0)) (replicate (k - n) 0)
zeros_drop zero k = let e : k ≡ k - 0 = omega arith in ap (λ (m : ℕ). replicate m 0) e
zeros_drop (suc n) zero = let e : 0 ≡ 0 - suc n = omega arith in ap (λ (m : ℕ). replicate m 0) e
zeros_drop (suc n) (suc k) = let e : k - n ≡ suc k - suc n = omega arith in zeros_drop n k ∙ ap (λ (m : ℕ). replicate m 0) e

-- ---- a read table
module _ {T B : Bytes} {v : Value} (w : WasRead T B v) where
  -- The table after reading, if nothing lay behind its rows.
  abbrev clear : Bytes
  clear = table_of v (length T)

  abbrev written : Bytes
  written = rows_of v 0 0 unnamed

  pub values_few : value_count v ≤ max_values
  values_few = (sound w.text v w.reads).0.few

  written_length : length written ≡ value_count v * row_bytes
  written_length = length_rows v 0 0 unnamed

  clear_length : length clear ≡ length T
  unfolding padded row_bytes entry_bytes
  clear_length = omega (arith, length-append written (replicate (length T - length written) 0), length-replicate {A = ℕ} (length T - length written) 0, written_length, values_few, w.size)

  same_clear : SameRows T clear
  same_clear = record { rows = w.rows; size = sym clear_length }

  pub was_read_stands : Stands T 0 written
  unfolding padded row_bytes entry_bytes rows_part
  was_read_stands =
      let n = max_values * 16 in
      let m = n - length written in
      let zeros : Bytes = replicate (length T - length written) 0 in
      let e : length written + m ≡ n = omega (arith, written_length, values_few) in
      let t : take n T ≡ written ++ take m zeros = w.rows ∙ ap (λ (k : ℕ). take k (written ++ zeros)) (sym e) ∙ take-append-add written zeros m in
      record {
        rest = take m zeros ++ drop n T;
        is = sym (take-append-drop n T) ∙ ap (λ (bs : Bytes). bs ++ drop n T) t ∙ append_assoc written (take m zeros) (drop n T);
        inside = omega (arith, written_length, values_few, w.size);
      }

  pub was_read_strings : Stands B 0 (strings_of v)
  was_read_strings = starts B (strings_of v) (length B) w.strings

  -- With its work room cleared it is as the layout says.
  pub was_read_cleared : zero_from (max_values * row_bytes) T ≡ table_of v (length T)
  unfolding padded row_bytes entry_bytes rows_part zero_from
  was_read_cleared =
      let n = max_values * 16 in
      let m = n - length written in
      let k = length T - length written in
      let e : length written + m ≡ n = omega (arith, written_length, values_few) in
      let f : k - m ≡ length T - n = omega (arith, written_length, values_few, w.size) in
      let d : drop n clear ≡ replicate (length T - n) 0 =
      ap (λ (j : ℕ). drop j clear) (sym e) ∙ drop-append-add written (replicate k 0) m ∙ zeros_drop m k ∙ ap (λ (j : ℕ). replicate j 0) f in
      ap (λ (bs : Bytes). bs ++ replicate (length T - n) 0) w.rows ∙ sym (ap (λ (bs : Bytes). take n clear ++ bs) d) ∙ take-append-drop n clear

  -- ---- behind the value
  module _ (row : ℕ) (behind : value_count v ≤ row) (inside : row < max_values) where
    row_there : row < length T / row_bytes
    unfolding row_bytes entry_bytes
    row_there = omega (arith, w.size)

    word_zero : (k : ℕ) → word_at clear (row * row_bytes + k) ≡ 0
    unfolding padded row_bytes
    word_zero k =
        let n = length T - length written in
        let j = row * 16 + k - length written in
        let e : row * 16 + k ≡ length written + j = omega (arith, written_length) in
        ap (word_at clear) e ∙ word_at_append written (replicate n 0) j ∙ zeros_word n j

    clear_empty : row_at clear row ≡ no_row
    unfolding row_at
    clear_empty =
        let e : row * row_bytes + 0 ≡ row * row_bytes = omega arith in
        let z : word_at clear (row * row_bytes) ≡ 0 = rw e at (word_zero 0) in
        let l : ltb row (length clear / row_bytes) ≡ true = rw clear_length (lt-ltb row (length T / row_bytes) row_there) in
        rw (l, z, word_zero 4, word_zero 8, word_zero 12)

    pub behind_empty : row_at T row ≡ no_row
    behind_empty = row_same same_clear row inside ∙ clear_empty

    pub behind_null : node_at T row ≡ Null
    unfolding node_at
    behind_null = rw (lt-ltb row (length T / row_bytes) row_there, behind_empty)

    pub behind_next : next_row T row ≡ row + 1
    unfolding next_row
    behind_next = rw (lt-ltb row (length T / row_bytes) row_there, behind_empty)
