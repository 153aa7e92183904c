use Rattle.model.specs.declared.Ty.TheVariants as Ty
use Rattle.type_set.proofs.Sets.{field_is_in}
use Rattle.type_set.proofs.set.has.Goals as goal

pub returns-in-Null : goal.returns-in-Null
returns-in-Null c = field_is_in c.args.s Ty.Null c.in-Null.is

pub returns-in-Boolean : goal.returns-in-Boolean
returns-in-Boolean c = field_is_in c.args.s Ty.Boolean c.in-Boolean.is

pub returns-in-Integer : goal.returns-in-Integer
returns-in-Integer c = field_is_in c.args.s Ty.Integer c.in-Integer.is

pub returns-in-String : goal.returns-in-String
returns-in-String c = field_is_in c.args.s Ty.String c.in-String.is

pub returns-in-Date : goal.returns-in-Date
returns-in-Date c = field_is_in c.args.s Ty.Date c.in-Date.is

pub returns-in-Day : goal.returns-in-Day
returns-in-Day c = field_is_in c.args.s Ty.Day c.in-Day.is

pub returns-in-Integers : goal.returns-in-Integers
returns-in-Integers c = field_is_in c.args.s Ty.Integers c.in-Integers.is

pub returns-in-Strings : goal.returns-in-Strings
returns-in-Strings c = field_is_in c.args.s Ty.Strings c.in-Strings.is

pub returns-in-Array : goal.returns-in-Array
returns-in-Array c = field_is_in c.args.s Ty.Array c.in-Array.is

pub returns-in-Object : goal.returns-in-Object
returns-in-Object c = field_is_in c.args.s Ty.Object c.in-Object.is

pub returns-in-Instant : goal.returns-in-Instant
returns-in-Instant c = field_is_in c.args.s Ty.Instant c.in-Instant.is
