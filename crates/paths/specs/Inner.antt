-- Inner: what the private functions do. What is not there gives null.
use Rattle.std.specs.Prelude.{Bool, true, false, not, cond, [], ◌∷◌, ◌≡◌, ℕ, ◌+◌, ◌-◌, ◌≤◌, ◌<◌, eqb, ltb}
use Rattle.std.specs.Prelude.{Option}
use Rattle.model.specs.Bytes.{Bytes, byte}
use Rattle.model.specs.Limits.{max_values}
use Rattle.model.specs.Option.{or_else}
use Rattle.model.specs.Value.{Value, scalar, null}
use Rattle.table.specs.declared.node.Node.{Node}
use Rattle.table.specs.declared.node.Node.TheVariants.{Null, Object}
use Rattle.table.specs.declared.node.Rows.{Rows}
use Rattle.table.specs.Node.{node_at}
use Rattle.table.specs.Placed.{row_after}

-- Some bytes, of which the first is no zero unless it is the only one.
unfoldable pub plain : Bytes → Bool
plain [] = false
plain (x ∷ []) = true
plain (x ∷ y ∷ s) = not (eqb x (byte "0"))

abbrev pub or_null : Option Value → Value
or_null o = or_else o (scalar null)

-- ---- whose parts some rows are
-- The value in the row before them; null where no text has that row.
abbrev pub owner_of : Bytes → Rows → Node
owner_of T q =
    cond (eqb q.first 0) Null
    (cond (ltb max_values q.first) Null
    (node_at T (q.first - 1)))

-- They are all parts of an array or object of a text, which stands in the row before them.
pub record AllOf (T : Bytes) (q : Rows) (n : Node) : Type 0 where
  pub after : 1 ≤ q.first
  pub within : q.first ≤ max_values
  pub is : node_at T (q.first - 1) ≡ n

-- They are all members of an object, of which there are some: it has an index.
pub record Indexable (T : Bytes) (q : Rows) : Type 0 where
  pub all : AllOf T q (Object q)
  pub some : 0 < q.count

-- Each is followed by the next row.
pub record Flat (T : Bytes) (q : Rows) : Type 0 where
  pub within : q.first + q.count ≤ max_values
  pub rows : (k : ℕ) → k < q.count → row_after T q.first k ≡ q.first + k
