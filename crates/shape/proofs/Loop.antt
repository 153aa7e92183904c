-- Loop: the rows before one are no faults and are marked; what remains proved of the others proves the whole.
use Rattle.std.specs.Prelude.{Option, None, Some}
use mathlib.Core.Path.{◌≡◌, refl, sym, ap, ◌∙◌}
use mathlib.Core.Bool.{Bool, true, false, ◌&&◌, cond}
use Prim.Native.Nat.{ℕ, suc, ◌+◌, ◌-◌, ◌≤◌, ◌<◌}
use native.Mathlib.Omega.{arith}
use lib.ListN.{length}
use Rattle.model.specs.Bytes.{Bytes}
use Rattle.syntax.specs.Layout.{rows_part}
use Rattle.table.specs.Node.{node_at, next_row}
use Rattle.table.specs.declared.node.Node.{Node}
use Rattle.table.specs.declared.node.Node.TheVariants.{Null, False, True, Integer, String, Array, Object}
use Rattle.table.specs.declared.node.Rows.{Rows}
use Rattle.rule.specs.declared.view.View.{View}
use Rattle.rule.specs.Mark.{view_mark, with_mark}
use Rattle.rule.specs.View.{object_on}
use Rattle.shape.specs.Rows.{view_is_rule, shape_is_rule, node_is_rule, row_is_rule, rows_are_rules, mark_shape, mark_node, mark_row, mark_rows}
use Rattle.shape.specs.Contract.{Checks}
use Rattle.shape.specs.Inner.{ObjectChecked, RowChecked}
use Rattle.shape.specs.Laws.Marks.{row_kept, rows_kept}
use Rattle.shape.specs.Laws.Values.{read_rules, read_marked}

-- ---- one row
module _ {T B : Bytes} {row : ℕ} where
  pub object_none : {q : Rows} {s : Option View} → s ≡ object_on (rows_part T) B q → s ≡ None → ObjectChecked T B row q false T
  object_none e f = record { is = ap (shape_is_rule B) (sym f ∙ e); marks = ap (mark_shape T row) (sym f ∙ e) }

  pub object_some : {q : Rows} {s : Option View} {w : View} {m : ℕ} {r : Bool} {T' : Bytes} → s ≡ object_on (rows_part T) B q → s ≡ Some w → r ≡ view_is_rule B w → T' ≡ with_mark T row m → m ≡ view_mark w
      → ObjectChecked T B row q r T'
  object_some e f v t m = record { is = v ∙ ap (shape_is_rule B) (sym f ∙ e); marks = t ∙ ap (with_mark T row) m ∙ ap (mark_shape T row) (sym f ∙ e) }

  -- What is no object has no mark.
  pub row_plain : (n : Node) {r : Bool} → node_at (rows_part T) row ≡ n → r ≡ node_is_rule (rows_part T) B n → T ≡ mark_node (rows_part T) B T row n → RowChecked T B row r T
  row_plain n e f m = record { is = f ∙ sym (ap (node_is_rule (rows_part T) B) e); marks = m ∙ sym (ap (mark_node (rows_part T) B T row) e) }

  -- What is neither null nor an object is no fault.
  pub row_other : (n : Node) → node_at (rows_part T) row ≡ n → (n ≡ Null → ⊥) → ((q : Rows) → n ≡ Object q → ⊥) → RowChecked T B row true T
  row_other Null e f g = absurd (f refl)
  row_other False e f g = row_plain False e refl refl
  row_other True e f g = row_plain True e refl refl
  row_other (Integer n) e f g = row_plain (Integer n) e refl refl
  row_other (String s) e f g = row_plain (String s) e refl refl
  row_other (Array q) e f g = row_plain (Array q) e refl refl
  row_other (Object q) e f g = absurd (g q refl)

  pub row_object : {q : Rows} {r : Bool} {T' : Bytes} → node_at (rows_part T) row ≡ Object q → ObjectChecked T B row q r T' → RowChecked T B row r T'
  row_object e c = record { is = c.is ∙ sym (ap (node_is_rule (rows_part T) B) e); marks = c.marks ∙ sym (ap (mark_node (rows_part T) B T row) e) }

  pub row_length : {r : Bool} {T' : Bytes} → RowChecked T B row r T' → length T' ≡ length T
  row_length c = ap length c.marks ∙ (row_kept (rows_part T) B T row).size

-- ---- the loop
-- The table T₀ is now T, and `row` is next.
pub record Going (T₀ B : Bytes) (end : ℕ) (T : Bytes) (row : ℕ) : Type 0 where
  pub within : row ≤ end
  pub size : length T ≡ length T₀
  pub rows : rows_part T ≡ rows_part T₀
  pub by_rows : rows_are_rules (rows_part T₀) B row (end - row) ≡ rows_are_rules (rows_part T₀) B 0 end
  pub marks : mark_rows (rows_part T₀) B T row (end - row) ≡ mark_rows (rows_part T₀) B T₀ 0 end

pub going_start : (T B : Bytes) (end : ℕ) → Going T B end T 0
going_start T B end =
    let e : end - 0 ≡ end = omega arith in
    record { within = omega arith; size = refl; rows = refl; by_rows = ap (rows_are_rules (rows_part T) B 0) e; marks = ap (mark_rows (rows_part T) B T 0) e }

-- The promise, by its two equations.
checks : {T B T' : Bytes} {r : Bool} {end : ℕ} → end ≡ next_row (rows_part T) 0 → r ≡ rows_are_rules (rows_part T) B 0 end → T' ≡ mark_rows (rows_part T) B T 0 end → Checks T B r T'
checks {T} {B} {T'} {r} {end} e f m =
    let f' : r ≡ rows_are_rules (rows_part T) B 0 (next_row (rows_part T) 0) = f ∙ ap (rows_are_rules (rows_part T) B 0) e in
    let m' : T' ≡ mark_rows (rows_part T) B T 0 (next_row (rows_part T) 0) = m ∙ ap (mark_rows (rows_part T) B T 0) e in
    record {
      by_rows = f';
      marks = m';
      size = ap length m ∙ (rows_kept (rows_part T) B T 0 end).size;
      rows = ap rows_part m ∙ (rows_kept (rows_part T) B T 0 end).rows;
      is = λ v w. f' ∙ read_rules w;
      marked = λ v w h. read_marked w m' (sym f' ∙ h);
    }

module _ {T₀ B : Bytes} {end : ℕ} {T : Bytes} {row : ℕ} (g : Going T₀ B end T row) where
  pub going_done : end ≤ row → end ≡ next_row (rows_part T₀) 0 → Checks T₀ B true T
  going_done h e =
      let z : end - row ≡ 0 = omega arith in
      checks e (sym (ap (rows_are_rules (rows_part T₀) B row) z) ∙ g.by_rows) (sym (ap (mark_rows (rows_part T₀) B T row) z) ∙ g.marks)

  module _ {T' : Bytes} {r : Bool} (l : row < end) (c : RowChecked T B row r T') where
    row_is : row_is_rule (rows_part T₀) B row ≡ r
    row_is = ap (λ (R : Bytes). row_is_rule R B row) (sym g.rows) ∙ sym c.is

    row_marks : T' ≡ mark_row (rows_part T₀) B T row
    row_marks = c.marks ∙ ap (λ (R : Bytes). mark_row R B T row) g.rows

    left : end - row ≡ suc (end - (row + 1))
    left = omega arith

    one_more : row + 1 ≡ suc row
    one_more = omega arith

    rules_left : rows_are_rules (rows_part T₀) B row (end - row) ≡ (r && rows_are_rules (rows_part T₀) B (row + 1) (end - (row + 1)))
    rules_left = ap (rows_are_rules (rows_part T₀) B row) left ∙ rw (one_more, row_is)

    marks_left : mark_rows (rows_part T₀) B T row (end - row) ≡ cond r (mark_rows (rows_part T₀) B T' (row + 1) (end - (row + 1))) T'
    marks_left = ap (mark_rows (rows_part T₀) B T row) left ∙ rw (one_more, row_is, row_marks)

  pub going_stop : {T' : Bytes} {r : Bool} → row < end → RowChecked T B row r T' → r ≡ false → end ≡ next_row (rows_part T₀) 0 → Checks T₀ B false T'
  going_stop {T'} l c f e =
      checks e (sym (rules_left l c ∙ ap (λ (b : Bool). b && rows_are_rules (rows_part T₀) B (row + 1) (end - (row + 1))) f) ∙ g.by_rows)
      (sym (marks_left l c ∙ ap (λ (b : Bool). cond b (mark_rows (rows_part T₀) B T' (row + 1) (end - (row + 1))) T') f) ∙ g.marks)

  pub going_on : {T' : Bytes} {r : Bool} → row < end → RowChecked T B row r T' → r ≡ true → Going T₀ B end T' (row + 1)
  going_on {T'} l c f =
      let k = row_kept (rows_part T₀) B T row in
      record {
        within = omega arith;
        size = ap length (row_marks l c) ∙ k.size ∙ g.size;
        rows = ap rows_part (row_marks l c) ∙ k.rows ∙ g.rows;
        by_rows = sym (rules_left l c ∙ ap (λ (b : Bool). b && rows_are_rules (rows_part T₀) B (row + 1) (end - (row + 1))) f) ∙ g.by_rows;
        marks = sym (marks_left l c ∙ ap (λ (b : Bool). cond b (mark_rows (rows_part T₀) B T' (row + 1) (end - (row + 1))) T') f) ∙ g.marks;
      }
