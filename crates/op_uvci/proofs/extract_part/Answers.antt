use mathlib.Core.Path.{refl, ap}
use native.Mathlib.Omega.{arith}
use Rattle.std.specs.Prelude.{Ok}
use Rattle.op_uvci.proofs.Answers.{place_fits, extracts_part}
use Rattle.op_uvci.proofs.extract_part.Goals as goal

pub overflow_add-s : goal.overflow_add-s
overflow_add-s c = place_fits c.args.rule_strings.now c.args.record_strings.now c.args.s (omega arith) (omega arith) (omega (arith, c.struct_known-1.given)) c.bytes.ensures c.find.ensures c.in-Some.is

pub returns-in-None : goal.returns-in-None
returns-in-None c = extracts_part _ c.bytes.ensures c.find.ensures c.in-None.is refl

pub returns-in-Some : goal.returns-in-Some
returns-in-Some c = extracts_part _ c.bytes.ensures c.find.ensures c.in-Some.is (ap Ok c.string.ensures)
