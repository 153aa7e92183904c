use Rattle.op_uvci.proofs.Answers.{extracts_null, extracts_string, extracts_other}
use Rattle.op_uvci.proofs.extract.Goals as goal

pub returns-in-Null : goal.returns-in-Null
returns-in-Null c = extracts_null c.in-Null.is

pub returns-in-String : goal.returns-in-String
returns-in-String c = extracts_string c.in-String.is c.extract_part.ensures

pub returns-in_default : goal.returns-in_default
returns-in_default c = extracts_other c.in_default.not-Null c.in_default.not-String
