use native.Mathlib.Omega.{arith}
use Rattle.sheet.proofs.Checking.{too_many, few_enough}
use Rattle.sheet.proofs.check.is_sheet_object.Goals as goal

pub returns-then-q-le-MAX_SHEET_MEMBERS : goal.returns-then-q-le-MAX_SHEET_MEMBERS
returns-then-q-le-MAX_SHEET_MEMBERS c = few_enough (omega arith) c.are_entries.ensures

pub returns-else-q-le-MAX_SHEET_MEMBERS : goal.returns-else-q-le-MAX_SHEET_MEMBERS
returns-else-q-le-MAX_SHEET_MEMBERS c = too_many (omega arith)
