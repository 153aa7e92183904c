-- Each way out is the entry's answer.
use mathlib.Core.Path.{refl}
use Rattle.jehvrukam.proofs.Reading.{read_told}
use Rattle.jehvrukam.proofs.jehvrukam_read.Goals as goal

pub returns-in-Ok : goal.returns-in-Ok
returns-in-Ok c = read_told _ c.in-Ok.ensures refl refl

pub returns-in-Err-AreaTooShort : goal.returns-in-Err-AreaTooShort
returns-in-Err-AreaTooShort c = read_told _ (rw c.in-Err-AreaTooShort.field-0-is at c.in-Err-AreaTooShort.ensures) c.from.ensures refl

pub returns-in-Err-Fault : goal.returns-in-Err-Fault
returns-in-Err-Fault c = read_told _ (rw c.in-Err-Fault.field-0-is at c.in-Err-Fault.ensures) c.from-in-Err-Fault.ensures refl
