use mathlib.Core.Path.{sym, ap, ◌∙◌}
use native.Mathlib.Omega.{arith}
use Rattle.calendar.specs.Contract.{instant_result}
use Rattle.model.proofs.Laws.Widths.{text_below}
use Rattle.print.specs.Laws.{put_as}
use Rattle.writer.proofs.Tokens.{instant_in, instant_out}
use Rattle.writer.proofs.scalar.put_since.Goals as goal

pub returns-in_default : goal.returns-in_default
returns-in_default c = put_as (c.put_text.ensures.put (omega (arith, text_below))) (instant_out c.args.since (sym (ap instant_result c.in_default.is) ∙ c.from_year_0.ensures))

pub returns : goal.returns
returns c = put_as c.put_instant.ensures (instant_in c.args.since (sym (ap instant_result c.in-Ok.is) ∙ c.from_year_0.ensures))
