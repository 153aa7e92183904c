-- Main: the theorems of nodes, restated with nothing else; the proofs are in Laws.
-- `Denotes T B v n`: in the table T and the strings B the node n denotes the value v.
use Rattle.std.specs.Prelude.{◌≡◌, ◌⊎◌, ℕ, ◌+◌, ◌*◌, ◌≤◌, ◌<◌, length}
use Rattle.std.proofs.Common.{arith}
use Rattle.area.specs.Words.{zero_from}
use Rattle.model.specs.Bytes.{Bytes}
use Rattle.model.specs.Limits.{max_values}
use Rattle.model.specs.Size.{value_count}
use Rattle.model.specs.Value.{Value, array, object, Values, item, Members, member, member_count}
use Rattle.syntax.specs.Layout.{item_count, row_bytes, rows_part, strings_area_of, table_of}
use Rattle.syntax.specs.Read.{done, read}
use Rattle.table.specs.declared.node.Node.{Node}
use Rattle.table.specs.declared.node.Node.TheVariants.{Null, Array, Object}
use Rattle.table.specs.declared.node.Rows.{Rows}
use Rattle.table.specs.Denotes.{Denotes}
use Rattle.table.specs.Node.{node_at, next_row, name_at, tail_of}
use Rattle.table.specs.Part.{Part}
use Rattle.table.specs.Placed.{Placed, PlacedWhole, row_after}
use Rattle.table.specs.Strings.{bytes_of}
use Rattle.table.specs.WasRead.{WasRead}
use Rattle.table.specs.Laws.Apart as ApartLaws
use Rattle.table.specs.Laws.Denotes as DenotesLaws
use Rattle.table.specs.Laws.Inside as InsideLaws
use Rattle.table.specs.Laws.Placed as PlacedLaws
use Rattle.table.specs.Laws.ReadForm as ReadFormLaws
use Rattle.table.specs.Laws.Standing as StandingLaws
use Rattle.table.specs.Laws.WasRead as WasReadLaws

-- What reading leaves in its areas denotes the value that was read: the node is that of the first row.
pub what_was_read :
    (s : Bytes) (v : Value) (T B : Bytes) (n m : ℕ)
    → read s ≡ done v
    → T ≡ table_of v n
    → B ≡ strings_area_of v m
    → Denotes T B v (node_at T 0)
what_was_read = ReadFormLaws.text_denotes

-- So it does whatever lies behind the rows.
pub was_read_denotes : (T B : Bytes) (v : Value) → WasRead T B v → Denotes T B v (node_at T 0)
was_read_denotes T B v w = StandingLaws.was_read_denotes w

-- A read table has as many rows as the value has values, in the order of the text; the others are null.
pub was_read_rows :
    (T B : Bytes) (v : Value)
    → WasRead T B v
    → Placed T
    × (next_row T 0 ≡ value_count v)
    × ((row : ℕ) → value_count v ≤ row → row < max_values → node_at T row ≡ Null)
was_read_rows T B v w = (PlacedLaws.was_read_placed w, StandingLaws.root_end w, WasReadLaws.behind_null w)

-- Each of them holds a value that is in the value read, and ends where that ends.
pub row_denotes :
    (T B : Bytes) (v : Value) (row : ℕ)
    → WasRead T B v
    → row < value_count v
    → (w : Value) × Part row w 0 v × Denotes T B w (node_at T row) × (next_row T row ≡ row + value_count w)
row_denotes T B v row w h =
    let x = InsideLaws.inside row v 0 (StandingLaws.root_stands w) (omega arith) (omega arith) in
    (x.value, x.part, StandingLaws.denoted x.standing, StandingLaws.next x.standing)

-- A row is a part of one array or object at most.
pub parts_apart :
    (T : Bytes) (a o : ℕ) (p q : Rows) (i j : ℕ)
    → PlacedWhole T
    → a < max_values
    → o < max_values
    → (node_at T a ≡ Array p ⊎ node_at T a ≡ Object p)
    → (node_at T o ≡ Array q ⊎ node_at T o ≡ Object q)
    → (a ≡ o → ⊥)
    → i < p.count
    → j < q.count
    → row_after T p.first i ≡ row_after T q.first j
    → ⊥
parts_apart = ApartLaws.parts_apart

-- What lies behind the rows says nothing of them, and cleared it leaves the table that reading is to leave.
pub same_rows :
    (T' T B : Bytes) (v : Value)
    → WasRead T B v
    → rows_part T' ≡ rows_part T
    → length T' ≡ length T
    → WasRead T' B v
    × ((row : ℕ) → row < max_values → (node_at T' row ≡ node_at T row) × (next_row T' row ≡ next_row T row) × (name_at T' row ≡ name_at T row))
same_rows T' T B v w r l =
    let s : WasReadLaws.SameRows T' T = record { rows = r; size = l } in
    (WasReadLaws.was_read_same w s, λ row k. (WasReadLaws.node_same s row k, WasReadLaws.next_same s row k, WasReadLaws.name_same s row k))

pub cleared : (T B : Bytes) (v : Value) → WasRead T B v → zero_from (max_values * row_bytes) T ≡ table_of v (length T)
cleared T B v w = WasReadLaws.was_read_cleared w

-- A node denotes one value.
pub one_value : (T B : Bytes) (v w : Value) (n : Node) → Denotes T B v n → Denotes T B w n → v ≡ w
one_value T B v w n d e = DenotesLaws.one d e

-- An array's node has as many rows as the array has items; the first denotes the first item, the others are an array of the others.
pub array_count : (T B : Bytes) (vs : Values) (q : Rows) → Denotes T B (array vs) (Array q) → q.count ≡ item_count vs
array_count T B vs q d = DenotesLaws.array_count d

pub array_parts :
    (T B : Bytes) (v : Value) (vs : Values) (q : Rows)
    → Denotes T B (array (item v vs)) (Array q)
    → Denotes T B v (node_at T q.first) × Denotes T B (array vs) (Array (tail_of T q))
array_parts T B v vs q d = let r = DenotesLaws.array_parts d in (r.head, r.rest)

-- So it is of an object, and the first has the first member's name.
pub object_count : (T B : Bytes) (ms : Members) (q : Rows) → Denotes T B (object ms) (Object q) → q.count ≡ member_count ms
object_count T B ms q d = DenotesLaws.object_count d

pub object_parts :
    (T B n : Bytes) (v : Value) (ms : Members) (q : Rows)
    → Denotes T B (object (member n v ms)) (Object q)
    → (n ≡ bytes_of B (name_at T q.first))
    × Denotes T B v (node_at T q.first)
    × Denotes T B (object ms) (Object (tail_of T q))
object_parts T B n v ms q d = let r = DenotesLaws.object_parts d in (r.name, r.head, r.rest)
