-- Rows: the rows of members and items, and what a fragment names by rows.
use Rattle.std.specs.Prelude.{Option, None, Some}
use Rattle.std.proofs.Props.{props}
use mathlib.Core.Path.{◌≡◌, refl, sym, ap, ◌∙◌}
use mathlib.Core.Bool.{Bool, true, false, cond}
use mathlib.Core.Logic.{∥∥₁_elim}
use Prim.Native.Nat.{ℕ, zero, suc, ◌+◌, ◌-◌, ◌≤◌, ◌<◌}
use native.Mathlib.Nat.{add-zero}
use native.Mathlib.Omega.{arith}
use Rattle.model.specs.Bytes.{Bytes, same_bytes}
use Rattle.model.specs.Limits.{max_values}
use Rattle.table.specs.declared.node.Node.{Node}
use Rattle.table.specs.declared.node.Node.TheVariants.{Null, False, True, Integer, String, Array, Object}
use Rattle.table.specs.declared.node.Rows.{Rows}
use Rattle.table.specs.Node.{node_at, next_row, name_at}
use Rattle.table.specs.Placed.{Placed, row_after}
use Rattle.table.specs.Strings.{bytes_of}
use Rattle.name_index.specs.Contract.{first_named, Finds}
use Rattle.name_index.specs.Laws.Find.{found_first}
use Rattle.name_index.specs.Table.{entries_at, IndexedTable}
use Rattle.paths.specs.Contract.{row_named, member_in, item_in, part_in}
use Rattle.paths.specs.Inner.{AllOf, Flat}

-- ---- the row of a name
pub named_none : (T B f : Bytes) (row n : ℕ) → n ≡ 0 → None ≡ row_named T B f row n
named_none T B f row n e = rw e

module _ (T B f : Bytes) (row n m : ℕ) (more : n ≡ suc m) {b : Bool} (is-test : b ≡ same_bytes f (bytes_of B (name_at T row))) where
  pub named_first : b ≡ true → Some row ≡ row_named T B f row n
  named_first y = rw (more, ← is-test, y)

  pub named_later : b ≡ false → row_named T B f row n ≡ row_named T B f (next_row T row) m
  named_later y = rw (more, ← is-test, y)

-- By the index of names.
entries_named : (T B f : Bytes) (row n : ℕ) → first_named f (entries_at T B row n) ≡ row_named T B f row n
entries_named T B f row zero = refl
entries_named T B f row (suc n) = ap (cond (same_bytes f (bytes_of B (name_at T row))) (Some row)) (entries_named T B f (next_row T row) n)

pub named_indexed : {T B f : Bytes} {q : Rows} {r : Option ℕ} → ∥ IndexedTable T B ∥₁ → AllOf T q (Object q) → 0 < q.count → Finds T B q.first f r → r ≡ row_named T B f q.first q.count
named_indexed {T} {B} {f} {q} {r} h a l x = ∥∥₁_elim h (Prim.hlevel props) by_index
  where
    by_index : IndexedTable T B → r ≡ row_named T B f q.first q.count
    by_index i = found_first i.size (i.objects (q.first - 1) q (omega (arith, a.after, a.within)) a.is) a.after l x ∙ entries_named T B f q.first q.count

-- The node of a row that was found.
abbrev node_found : Bytes → Option ℕ → Node
node_found T None = Null
node_found T (Some row) = node_at T row

member_row : (T B f : Bytes) (row n : ℕ) → node_found T (row_named T B f row n) ≡ member_in T B f row n
member_row T B f row zero = refl
member_row T B f row (suc n) = go (same_bytes f (bytes_of B (name_at T row))) (member_row T B f (next_row T row) n)
  where
    go : (b : Bool) → node_found T (row_named T B f (next_row T row) n) ≡ member_in T B f (next_row T row) n
        → node_found T (cond b (Some row) (row_named T B f (next_row T row) n)) ≡ cond b (node_at T row) (member_in T B f (next_row T row) n)
    go true e = refl
    go false e = e

pub member_found : (T B f : Bytes) (q : Rows) {r : Option ℕ} → r ≡ row_named T B f q.first q.count → node_found T r ≡ member_in T B f q.first q.count
member_found T B f q e = ap (node_found T) e ∙ member_row T B f q.first q.count

-- ---- items, row by row
pub after_none : (T : Bytes) (row n : ℕ) → n ≡ 0 → row_after T row n ≡ row
after_none T row n e = rw e

pub after_more : (T : Bytes) (row n m : ℕ) → n ≡ suc m → row_after T row n ≡ row_after T (next_row T row) m
after_more T row n m e = rw e

item_row : (T : Bytes) (row n k : ℕ) → k < n → item_in T row n k ≡ node_at T (row_after T row k)
item_row T row zero k l = absurd (omega arith)
item_row T row (suc n) zero l = refl
item_row T row (suc n) (suc k) l = item_row T (next_row T row) n k (omega arith)

item_past : (T : Bytes) (row n k : ℕ) → n ≤ k → Null ≡ item_in T row n k
item_past T row zero k l = refl
item_past T row (suc n) zero l = absurd (omega arith)
item_past T row (suc n) (suc k) l = item_past T (next_row T row) n k (omega arith)

pub item_there : (T : Bytes) (q : Rows) {row : ℕ} (k : ℕ) → k < q.count → row ≡ row_after T q.first k → node_at T row ≡ item_in T q.first q.count k
item_there T q k l e = ap (node_at T) e ∙ sym (item_row T q.first q.count k l)

-- ---- items of one row each
pub flat_past : (T : Bytes) (q : Rows) (k : ℕ) → q.count ≤ k → Null ≡ item_in T q.first q.count k
flat_past T q k l = item_past T q.first q.count k l

pub flat_item : {T : Bytes} {q : Rows} (k : ℕ) → Flat T q → k < q.count → node_at T (q.first + k) ≡ item_in T q.first q.count k
flat_item {T} {q} k f l = sym (item_row T q.first q.count k l ∙ ap (node_at T) (f.rows k l))

-- Rows one after the other, all in a text's.
abbrev Within : Bytes → ℕ → ℕ → Type 0
Within T row n = (k : ℕ) → k < n → row_after T row k < max_values

module _ {T : Bytes} (placed : Placed T) where
  rows_grow : (row n : ℕ) → Within T row n → row + n ≤ row_after T row n
  rows_grow row zero w = omega arith
  rows_grow row (suc n) w =
      omega (arith, placed.on row (w 0 (omega arith)), rows_grow (next_row T row) n (λ k l. w (suc k) (omega arith)))

  -- If they end as soon as they can, each is one row.
  rows_flat : (row n : ℕ) → Within T row n → row_after T row n ≡ row + n → (k : ℕ) → k < n → row_after T row k ≡ row + k
  rows_flat row zero w e k l = absurd (omega arith)
  rows_flat row (suc n) w e zero l = sym (add-zero row)
  rows_flat row (suc n) w e (suc k) l =
      let next : next_row T row ≡ row + 1 = omega (arith, e, placed.on row (w 0 (omega arith)), rows_grow (next_row T row) n (λ j m. w (suc j) (omega arith))) in
      let end : row_after T (next_row T row) n ≡ next_row T row + n = omega (arith, e, next) in
      let here = rows_flat (next_row T row) n (λ j m. w (suc j) (omega arith)) end k (omega arith) in
      omega (arith, here, next)

  pub are_flat_lem : {q : Rows} {last : ℕ} → AllOf T q (Array q) → last ≡ next_row T (q.first - 1) → last - q.first ≡ q.count → Flat T q
  are_flat_lem {q} a n e =
      let row = q.first - 1 in
      let below : row < max_values = omega (arith, a.after, a.within) in
      let end : next_row T row ≡ q.first + q.count = omega (arith, n, e, a.after, placed.on row below) in
      record {
        within = omega (arith, end, placed.within row below);
        rows = rows_flat q.first q.count (placed.inside row q below a.is) (placed.items row q below a.is ∙ end);
      }

  pub ends_after : {q : Rows} → AllOf T q (Array q) → q.first ≤ next_row T (q.first - 1)
  ends_after {q} a = omega (arith, a.after, a.within, placed.on (q.first - 1) (omega (arith, a.after, a.within)))

-- The rows of an indexed text are placed.
pub placed_of : {T B : Bytes} → ∥ IndexedTable T B ∥₁ → Placed T
placed_of h = ∥∥₁_elim h (Prim.hlevel props) (λ i. i.placed)

-- ---- a fragment names nothing in what is no array and no object
pub no_part : (T B f : Bytes) (n : Node) → ((q : Rows) → n ≡ Array q → ⊥) → ((q : Rows) → n ≡ Object q → ⊥) → Null ≡ part_in T B f n
no_part T B f Null k l = refl
no_part T B f False k l = refl
no_part T B f True k l = refl
no_part T B f (Integer z) k l = refl
no_part T B f (String s) k l = refl
no_part T B f (Array q) k l = absurd (k q refl)
no_part T B f (Object q) k l = absurd (l q refl)
