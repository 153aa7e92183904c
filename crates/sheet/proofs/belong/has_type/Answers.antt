use mathlib.Core.Path.{refl, ◌∙◌}
use Rattle.sheet.proofs.Belonging.{of_null, of_false, of_true, of_integer, of_string, of_items, of_object_lem}
use Rattle.sheet.proofs.belong.has_type.Goals as goal

pub returns-in-Null : goal.returns-in-Null
returns-in-Null c = rw c.in-Null.is (record { by_rows = refl; is = of_null c.args.s })

pub returns-in-False : goal.returns-in-False
returns-in-False c = rw c.in-False.is (record { by_rows = refl; is = of_false c.args.s })

pub returns-in-True : goal.returns-in-True
returns-in-True c = rw c.in-True.is (record { by_rows = refl; is = of_true c.args.s })

pub returns-in-Integer : goal.returns-in-Integer
returns-in-Integer c = rw c.in-Integer.is (record { by_rows = refl; is = of_integer c.args.s })

pub returns-in-String : goal.returns-in-String
returns-in-String c = rw c.in-String.is (of_string c.args.s (c.string_belongs.ensures ∙ rw c.bytes_of.ensures))

pub returns-in-Array : goal.returns-in-Array
returns-in-Array c = rw c.in-Array.is (of_items c.args.s c.array_belongs.ensures)

pub returns-in-Object : goal.returns-in-Object
returns-in-Object c = rw c.in-Object.is (record { by_rows = refl; is = of_object_lem c.args.s })
