-- Marks: they lie behind the rows, which stay; and where no row is at fault, every object of these rows has its own.
use Rattle.std.specs.Prelude.{Option, None, Some}
use Rattle.std.specs.Prelude.{◌≡◌, refl, Bool, true, false, ◌&&◌, cond, ℕ, zero, suc, ◌+◌, ◌≤◌, ◌<◌, length}
use Rattle.std.proofs.Common.{sym, ap, ◌∙◌, arith, length-set, get_or-set_same, get_or-set_other}
use Rattle.std.proofs.Math.Decide.{dec_lt}
use Rattle.std.proofs.lemmas.List.{take-set-le}
use Rattle.model.specs.Bytes.{Bytes}
use Rattle.model.proofs.Laws.Logic.{clash}
use Rattle.syntax.specs.Layout.{rows_part}
use Rattle.table.specs.declared.node.Node.{Node}
use Rattle.table.specs.declared.node.Node.TheVariants.{Null, False, True, Integer, String, Array, Object}
use Rattle.table.specs.declared.node.Rows.{Rows}
use Rattle.table.specs.Node.{node_at}
use Rattle.rule.specs.declared.view.View.{View}
use Rattle.rule.specs.Mark.{marks_start, mark_at, shape_mark, view_mark}
use Rattle.rule.specs.View.{object_on}
use Rattle.shape.specs.Rows.{shape_is_rule, node_is_rule, row_is_rule, rows_are_rules, mark_shape, mark_node, mark_row, mark_rows}

-- What a mark of a row leaves of a table.
pub record Kept (T T' : Bytes) (row : ℕ) : Type 0 where
  pub size : length T' ≡ length T
  pub rows : rows_part T' ≡ rows_part T
  pub before : (k : ℕ) → k < row → mark_at T' k ≡ mark_at T k

kept : (T : Bytes) (row : ℕ) → Kept T T row
kept T row = record { size = refl; rows = refl; before = λ k l. refl }

shape_kept : (T : Bytes) (row : ℕ) (s : Option View) → Kept T (mark_shape T row s) row
unfolding rows_part
shape_kept T row None = kept T row
shape_kept T row (Some w) =
    let m = view_mark w in
    record {
      size = length-set T (marks_start + row) m;
      rows = take-set-le marks_start T (marks_start + row) m (omega arith);
      before = λ k l. get_or-set_other T (marks_start + row) (marks_start + k) m 0 (λ e. omega arith);
    }

module _ (R B : Bytes) where
  node_kept : (T : Bytes) (row : ℕ) (n : Node) → Kept T (mark_node R B T row n) row
  node_kept T row Null = kept T row
  node_kept T row False = kept T row
  node_kept T row True = kept T row
  node_kept T row (Integer n) = kept T row
  node_kept T row (String s) = kept T row
  node_kept T row (Array q) = kept T row
  node_kept T row (Object q) = shape_kept T row (object_on R B q)

  pub row_kept : (T : Bytes) (row : ℕ) → Kept T (mark_row R B T row) row
  row_kept T row = node_kept T row (node_at R row)

  pub rows_kept : (T : Bytes) (row n : ℕ) → Kept T (mark_rows R B T row n) row
  rows_kept T row zero = kept T row
  rows_kept T row (suc n) = go (row_is_rule R B row) (rows_kept (mark_row R B T row) (suc row) n)
    where
      go : (b : Bool) → Kept (mark_row R B T row) (mark_rows R B (mark_row R B T row) (suc row) n) (suc row) → Kept T (cond b (mark_rows R B (mark_row R B T row) (suc row) n) (mark_row R B T row)) row
      go true y =
          let x = row_kept T row in
          record { size = y.size ∙ x.size; rows = y.rows ∙ x.rows; before = λ k l. y.before k (omega arith) ∙ x.before k l }
      go false y = row_kept T row

  -- ---- the mark of an operation
  shape_marked : (T : Bytes) (row : ℕ) (s : Option View) → marks_start + row < length T → shape_is_rule B s ≡ true → mark_at (mark_shape T row s) row ≡ shape_mark s
  shape_marked T row None l e = clash cc
  shape_marked T row (Some w) l e = get_or-set_same T (marks_start + row) (view_mark w) 0 l

  row_marked : (T : Bytes) (row : ℕ) (q : Rows) → marks_start + row < length T → node_at R row ≡ Object q → row_is_rule R B row ≡ true → mark_at (mark_row R B T row) row ≡ shape_mark (object_on R B q)
  row_marked T row q l e f =
      ap (λ (n : Node). mark_at (mark_node R B T row n) row) e ∙ shape_marked T row (object_on R B q) l (sym (ap (node_is_rule R B) e) ∙ f)

  first_true : (a b : Bool) → (a && b) ≡ true → a ≡ true
  first_true true b e = refl
  first_true false b e = e

  rest_true : (a b : Bool) → (a && b) ≡ true → b ≡ true
  rest_true true b e = e
  rest_true false b e = clash cc

  -- Where no row is at fault.
  pub rows_marked : (T : Bytes) (row n k : ℕ) (q : Rows) → rows_are_rules R B row n ≡ true → marks_start + k < length T → row ≤ k → k < row + n → node_at R k ≡ Object q
      → mark_at (mark_rows R B T row n) k ≡ shape_mark (object_on R B q)
  rows_marked T row zero k q e l a b o = absurd (omega arith)
  rows_marked T row (suc n) k q e l a b o =
      ap (λ (x : Bool). mark_at (cond x (mark_rows R B (mark_row R B T row) (suc row) n) (mark_row R B T row)) k) ok
      ∙ go (dec_lt row k) (λ p. rows_marked (mark_row R B T row) (suc row) n k q (rest_true (row_is_rule R B row) (rows_are_rules R B (suc row) n) e) (omega (arith, (row_kept T row).size)) (omega arith) (omega arith) o)
    where
      ok : row_is_rule R B row ≡ true
      ok = first_true (row_is_rule R B row) (rows_are_rules R B (suc row) n) e

      here : row ≡ k → mark_at (mark_rows R B (mark_row R B T row) (suc row) n) row ≡ shape_mark (object_on R B q)
      here h = (rows_kept (mark_row R B T row) (suc row) n).before row (omega arith) ∙ row_marked T row q (omega arith) (ap (node_at R) h ∙ o) ok

      go : Dec (row < k) → (row < k → mark_at (mark_rows R B (mark_row R B T row) (suc row) n) k ≡ shape_mark (object_on R B q)) → mark_at (mark_rows R B (mark_row R B T row) (suc row) n) k ≡ shape_mark (object_on R B q)
      go (yes p) f = f p
      go (no p) f = let h : row ≡ k = omega arith in ap (mark_at (mark_rows R B (mark_row R B T row) (suc row) n)) (sym h) ∙ here h
