-- Layout: how many bytes the rows of a value are, and the two parts of a row's first number.
use Rattle.std.specs.Prelude.{◌≡◌, refl, true, false, ℕ, ◌+◌, ◌*◌, ◌/◌, ◌%◌, ◌<◌, length}
use Rattle.std.proofs.Common.{arith, length-append}
use Rattle.area.specs.Words.{word}
use Rattle.model.specs.Size.{value_count, items_count, members_count}
use Rattle.model.specs.Value.{Value, scalar, instant, array, object, Scalar, null, boolean, integer, string, Values, no_items, item, Members, no_members, member}
use Rattle.syntax.specs.Layout.{row_bytes, Label, unnamed, row, scalar_row, rows_of, item_rows, member_rows, strings_of}

-- ---- sizes
pub length_row : (kind : ℕ) (name : Label) (a b : ℕ) → length (row kind name a b) ≡ row_bytes
unfolding row row_bytes word
length_row kind name a b = refl

length_scalar : (x : Scalar) (used : ℕ) (name : Label) → length (scalar_row x used name) ≡ row_bytes
unfolding scalar_row
length_scalar null used name = length_row 1 name 0 0
length_scalar (boolean false) used name = length_row 2 name 0 0
length_scalar (boolean true) used name = length_row 3 name 0 0
length_scalar (integer z) used name = length_row 4 name _ _
length_scalar (string s) used name = length_row 5 name used (length s)

mutual
  unfolding rows_of value_count row_bytes

  pub length_rows : (v : Value) (at used : ℕ) (name : Label) → length (rows_of v at used name) ≡ value_count v * row_bytes
  length_rows (scalar x) at used name = rw length_scalar (omega arith)
  length_rows (instant t) at used name = rw length_row (omega arith)
  length_rows (array vs) at used name = rw (length-append, length_row, length_items vs (at + 1) used) (omega arith)
  length_rows (object ms) at used name = rw (length-append, length_row, length_members ms (at + 1) used) (omega arith)

  pub length_items : (vs : Values) (at used : ℕ) → length (item_rows vs at used) ≡ items_count vs * row_bytes
  length_items no_items at used = omega arith
  length_items (item v vs) at used = rw (length-append, length_rows v at used unnamed, length_items vs (at + value_count v) (used + length (strings_of v))) (omega arith)

  pub length_members : (ms : Members) (at used : ℕ) → length (member_rows ms at used) ≡ members_count ms * row_bytes
  length_members no_members at used = omega arith
  length_members (member n v ms) at used = rw (length-append, length_rows v at (used + length n) (record { start = used; size = length n }), length_members ms (at + value_count v) (used + length n + length (strings_of v))) (omega arith)

pub count_positive : (v : Value) → 0 < value_count v
unfolding value_count
count_positive (scalar x) = omega arith
count_positive (instant t) = omega arith
count_positive (array vs) = omega arith
count_positive (object ms) = omega arith

-- ---- the first number of a row: the kind, and above it the length of the name
pub kind_below : (kind size : ℕ) → kind < 256 → (kind + 256 * size) % 256 ≡ kind
kind_below kind size h = omega arith

pub size_above : (kind size : ℕ) → kind < 256 → (kind + 256 * size) / 256 ≡ size
size_above kind size h = omega arith
