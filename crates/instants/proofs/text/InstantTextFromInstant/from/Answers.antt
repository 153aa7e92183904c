use mathlib.Core.Path.{◌∙◌}
use Rattle.instants.proofs.Texts.{text_of_lem}
use Rattle.instants.proofs.text.InstantTextFromInstant.from.Goals as goal

pub returns : goal.returns
returns c =
    c.text_of.ensures ∙ text_of_lem c.args.t.ms c.since_year_0-since.result c.date_at.result c.since_year_0-since.ensures c.date_at.ensures
