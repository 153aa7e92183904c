use mathlib.Core.Path.{sym, ◌∙◌}
use Rattle.model.specs.DateText.{date_text}
use Rattle.model.proofs.Laws.Branches.{taken, passed}
use Rattle.dates.proofs.read_date.Goals as goal

pub read_time-requires : goal.read_time-requires
read_time-requires c = sym c.starts_like.ensures ∙ c.if-starts_like.true

pub returns-then-starts_like : goal.returns-then-starts_like
unfolding date_text
returns-then-starts_like c = taken _ _ c.starts_like.ensures c.if-starts_like.true c.read_time.ensures

pub returns : goal.returns
unfolding date_text
returns c = passed _ _ c.starts_like.ensures c.if-starts_like.false c.read_day.ensures
