-- Contract: what the kind check promises: its result for any bytes, `byRows`; and what it `is` where a rule's table T and strings A, and a sheet's table S and strings Z, are as reading left them.
use Rattle.std.specs.Prelude.{Option, None, Some}
use Rattle.std.specs.Prelude.{◌≡◌}
use Rattle.model.specs.Bytes.{Bytes}
use Rattle.model.specs.Limits.{max_nesting}
use Rattle.model.specs.Rule.{Rule}
use Rattle.model.specs.Sheet.{Sheet}
use Rattle.model.specs.TypeCheck.{check}
use Rattle.model.specs.Types.{Types}
use Rattle.rule.specs.Holds.{Holds}
use Rattle.sheet.specs.Contract.{HoldsSheet}
use Rattle.type_set.specs.Contract.{set_of}
use Rattle.type_check.specs.declared.env.Env.TheVariants.{Outside}
use Rattle.type_set.specs.declared.set.TypeSet.{TypeSet}
use Rattle.type_check.specs.ByRows.{found_at}

-- The types of a rule that is accepted, as a set; 13 where it is not.
abbrev pub found_of : Option Types → Option TypeSet
found_of None = None
found_of (Some ts) = Some (set_of ts)

pub record Checks (T A S Z : Bytes) (r : Option TypeSet) : Type 0 where
  pub by_rows : r ≡ found_at T A S Z max_nesting Outside 0
  pub is : (ρ : Rule) (s : Sheet) → Holds T A max_nesting 0 ρ → HoldsSheet S Z s → r ≡ found_of (check ρ s)
