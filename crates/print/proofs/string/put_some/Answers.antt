use mathlib.Core.Path.{sym, ◌∙◌}
use Rattle.print.proofs.Quoted.{moved_escape, moved_run}
use Rattle.print.proofs.string.put_some.Goals as goal

pub returns-then-not-is_plain : goal.returns-then-not-is_plain
returns-then-not-is_plain c = moved_escape c.requires.inside c.put_escape.ensures

pub returns : goal.returns
returns c = moved_run c.requires.inside (sym c.is_plain.ensures ∙ c.if-not-is_plain.false) c.plain_run-run.ensures (c.put_text.ensures.put c.requires.near)
