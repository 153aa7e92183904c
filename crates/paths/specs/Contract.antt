-- Contract: what the public functions promise.
use Rattle.std.specs.Prelude.{cond, List, [], ◌∷◌, ◌≡◌, ℕ, zero, suc, eqb, ltb, Option, None, Some}
use Rattle.model.specs.Bytes.{Bytes, byte, same_bytes, cons_head}
use Rattle.model.specs.Path.{Path, index_of, path_of, value_at}
use Rattle.model.specs.Value.{Value}
use Rattle.table.specs.declared.node.Node.{Node}
use Rattle.table.specs.declared.node.Node.TheVariants.{Null, False, True, Integer, String, Array, Object}
use Rattle.table.specs.declared.node.Rows.{Rows}
use Rattle.table.specs.Denotes.{Denotes}
use Rattle.table.specs.Node.{node_at, name_at, next_row}
use Rattle.table.specs.Strings.{bytes_of}

-- ---- an index
-- No array has so many items: a text has at most max_values values, and evaluation has room for heap_cells.
abbrev pub limit : ℕ
limit = 16777216

abbrev pub below_limit : Option ℕ → Option ℕ
below_limit None = None
below_limit (Some k) = cond (ltb k limit) (Some k) None

-- 01, `var`: "on an array, 0 or digits without a leading zero are an index".
abbrev pub index_in : Bytes → Option ℕ
index_in f = below_limit (index_of f)

-- ---- the row of a name
-- Of so many rows from one on, the first with this name.
abbrev pub row_named : Bytes → Bytes → Bytes → ℕ → ℕ → Option ℕ
row_named T B f row zero = None
row_named T B f row (suc n) = cond (same_bytes f (bytes_of B (name_at T row))) (Some row) (row_named T B f (next_row T row) n)

-- ---- the node at a path, by the rows of a table T with strings B, whatever these bytes are
-- Of so many rows from one on, the first with this name, and the one at an index; null where there is none.
abbrev pub member_in : Bytes → Bytes → Bytes → ℕ → ℕ → Node
member_in T B f row zero = Null
member_in T B f row (suc n) = cond (same_bytes f (bytes_of B (name_at T row))) (node_at T row) (member_in T B f (next_row T row) n)

abbrev pub item_in : Bytes → ℕ → ℕ → ℕ → Node
item_in T row zero k = Null
item_in T row (suc n) zero = node_at T row
item_in T row (suc n) (suc k) = item_in T (next_row T row) n k

abbrev pub item_of : Bytes → Rows → Option ℕ → Node
item_of T q None = Null
item_of T q (Some k) = item_in T q.first q.count k

-- What a fragment names in a node.
abbrev pub part_in : Bytes → Bytes → Bytes → Node → Node
part_in T B f Null = Null
part_in T B f False = Null
part_in T B f True = Null
part_in T B f (Integer n) = Null
part_in T B f (String s) = Null
part_in T B f (Array q) = item_of T q (index_in f)
part_in T B f (Object q) = member_in T B f q.first q.count

abbrev pub node_along : Bytes → Bytes → List Bytes → Node → Node
node_along T B [] n = n
node_along T B (f ∷ q) n = node_along T B q (part_in T B f n)

-- The fragments of any text, parted by dots; behind a dot at the end there is none. Of a path's text they are the path (Laws/Fragments.antt: path_fragments).
abbrev pub fragments : Bytes → List Bytes
fragments [] = []
fragments (x ∷ s) = cond (eqb (byte ".") x) ([] ∷ fragments s) (cons_head x (fragments s))

-- 01, `var`: the node of any text s; and what it denotes where s is one of `var` (path_of), and the path starts from a node that denotes a value c.
pub record Leads (s T B : Bytes) (from r : Node) : Type 0 where
  pub is : r ≡ node_along T B (fragments s) from
  pub leads : (q : Path) (c : Value) → path_of s ≡ Some q → Denotes T B c from → Denotes T B (value_at q c) r
