-- Answer: what a row that the viewer saw tells, in the numbers of the entries; none is refusal 1.
use Rattle.std.specs.Prelude.{cond, ℕ, eqb, ℤ}
use Rattle.std.specs.Prelude.{Option, None, Some}
use Rattle.syntax.specs.Layout.{unbiased}
use Rattle.table.specs.declared.row.Span.{Span}
use Rattle.table.specs.declared.row.Row.{Row}
use Rattle.table.specs.Row.{joined}
use Rattle.viewer.specs.Row.{count_of}

pub record Seen : Type 0 where
  pub kind : ℕ
  pub count : ℕ

-- Of every row the kind, the count and the name;
abbrev pub seen_of : Option Row → Option Seen
seen_of (Some r) = Some (record { kind = r.kind; count = count_of r })
seen_of None = None

abbrev pub name_of : Option Row → Option Span
name_of (Some r) = Some r.name
name_of None = None

-- of an integer's its integer,
abbrev pub integer_of : Option Row → Option ℤ
integer_of (Some r) = cond (eqb r.kind 4) (Some (unbiased (joined r))) None
integer_of None = None

-- of a string's where it lies.
abbrev pub string_of : Option Row → Option Span
string_of (Some r) = cond (eqb r.kind 5) (Some (record { start = r.first; size = r.second })) None
string_of None = None
