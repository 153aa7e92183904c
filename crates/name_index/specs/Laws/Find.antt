-- Find: the law that callers of `find` cite, for an object of a table whose objects are indexed.
use Rattle.std.specs.Prelude.{◌≡◌, [], ℕ, zero, suc, ◌≤◌, ◌<◌, length, Option}
use Rattle.std.proofs.Common.{ap, arith}
use Rattle.model.specs.Bytes.{Bytes}
use Rattle.syntax.specs.Layout.{table_bytes}
use Rattle.table.specs.declared.node.Rows.{Rows}
use Rattle.name_index.specs.Contract.{first_named, Finds}
use Rattle.name_index.specs.Table.{entries_at, IndexedObject}

-- It finds the first member of the name; any that are of that name are one.
pub found_first :
    {T B n : Bytes} {q : Rows} {r : Option ℕ}
    → table_bytes ≤ length T
    → IndexedObject T B q
    → 1 ≤ q.first
    → 0 < q.count
    → Finds T B q.first n r
    → r ≡ first_named n (entries_at T B q.first q.count)
found_first {T} {B} {q} size o member some f =
    f.is (entries_at T B q.first q.count) member size o.indexed o.named o.between (λ e. none q.count some e)
  where
    none : (n : ℕ) → 0 < n → entries_at T B q.first n ≡ [] → ⊥
    none zero h e = omega arith
    none (suc n) h e = omega (arith, ap length e)
