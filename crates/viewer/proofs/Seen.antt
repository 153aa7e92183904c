-- Seen: what is told of a row, from its numbers; and what a row that is told says of its place.
use Rattle.std.specs.Prelude.{Option, None, Some}
use mathlib.Core.Path.{◌≡◌, refl, ◌∙◌}
use mathlib.Core.Bool.{true, false, cond, ◌&&◌}
use Prim.Native.Nat.{ℕ, ◌/◌, ◌≤◌, ◌<◌}
use native.Mathlib.Decide.{dec_lt}
use native.Mathlib.Omega.{arith}
use borrow.Author.Tests.{lt-ltb, le-ltb}
use lib.Dec.{ltb}
use lib.ListN.{length}
use Rattle.model.specs.Bytes.{Bytes}
use Rattle.model.specs.Limits.{max_values}
use Rattle.model.proofs.Laws.Widths.{values_below}
use Rattle.syntax.specs.Layout.{row_bytes}
use Rattle.table.specs.declared.row.Row.{Row}
use Rattle.viewer.specs.Form.{has_form}
use Rattle.table.specs.Row.{numbers_at, row_at}
use Rattle.viewer.specs.Row.{row_count}
use Rattle.viewer.specs.View.{row_seen}
use Rattle.viewer.specs.Laws.Told.{told}
use Rattle.viewer.proofs.Tests.{held, failed}

-- ---- the number of rows
less_both : (a b : ℕ) → (cond (ltb a b) a b ≤ a) × (cond (ltb a b) a b ≤ b)
less_both a b = go (dec_lt a b)
  where
    go : Dec (a < b) → (cond (ltb a b) a b ≤ a) × (cond (ltb a b) a b ≤ b)
    go (yes p) = rw (lt-ltb a b p) (omega arith, omega arith)
    go (no p) = rw (le-ltb a b (omega arith)) (omega arith, omega arith)

pub rows_fit : (table : Bytes) → row_count table ≤ length table / row_bytes
rows_fit table = (less_both (length table / row_bytes) max_values).0

rows_few : (table : Bytes) → row_count table ≤ max_values
rows_few table = (less_both (length table / row_bytes) max_values).1

-- ---- a row is told
abbrev told_of : ℕ → ℕ → Row → Option Row
told_of n place r = cond (ltb place n && has_form n place r) (Some r) None

-- A row that is there has its numbers.
pub row_there : (table : Bytes) (place n : ℕ) → n ≡ row_count table → place < n → row_at table place ≡ numbers_at table place
unfolding row_at
row_there table place n e l = rw (lt-ltb place (length table / row_bytes) (omega (arith, rows_fit table)))

seen_of : (table : Bytes) (place n : ℕ) (r : Row) → n ≡ row_count table → r ≡ numbers_at table place → told_of n place r ≡ row_seen table place
seen_of table place n r e f = λ i. told_of (e i) place (f i)

pub row_is : (table : Bytes) (place n : ℕ) (r : Row) → n ≡ row_count table → place < n → r ≡ numbers_at table place → has_form n place r ≡ true → Some r ≡ row_seen table place
row_is table place n r e l f g = held (ltb place n && has_form n place r) _ _ (rw (lt-ltb place n l) g) ∙ seen_of table place n r e f

pub row_not : (table : Bytes) (place n : ℕ) (r : Row) → n ≡ row_count table → place < n → r ≡ numbers_at table place → has_form n place r ≡ false → None ≡ row_seen table place
row_not table place n r e l f g = failed (ltb place n && has_form n place r) _ _ (rw (lt-ltb place n l) g) ∙ seen_of table place n r e f

pub row_past : (table : Bytes) (place n : ℕ) → n ≡ row_count table → n ≤ place → None ≡ row_seen table place
row_past table place n e l =
    let r = numbers_at table place in
    failed (ltb place n && has_form n place r) _ _ (rw (le-ltb place n l)) ∙ seen_of table place n r e refl

-- ---- and from what is told
-- A row that is told is one of a few.
pub told_small : (table : Bytes) (place : ℕ) (r : Row) → row_seen table place ≡ Some r → place < 4294967296
told_small table place r e = omega (arith, values_below, (told table place r e).there, rows_few table)
