use native.Mathlib.Numerals.{add-one}
use native.Mathlib.Omega.{arith}
use Rattle.days.specs.Laws.{first_within}
use Rattle.days.proofs.day.month_start.Goals as goal

pub day_number-requires : goal.day_number-requires
day_number-requires c = rw add-one (first_within c.args.month (omega arith))
