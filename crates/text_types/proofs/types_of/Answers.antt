use Rattle.text_types.proofs.types_of.Goals as goal

pub returns-then-is_day : goal.returns-then-is_day
returns-then-is_day c = rw (c.only.ensures, ← c.is_day.ensures, c.if-is_day.true)

pub returns-then-is_date : goal.returns-then-is_date
returns-then-is_date c = rw (c.only-then-is_date.ensures, ← c.is_day.ensures, c.if-is_day.false, ← c.is_date.ensures, c.if-is_date.true)

pub returns : goal.returns
returns c = rw (c.only-2.ensures, ← c.is_day.ensures, c.if-is_day.false, ← c.is_date.ensures, c.if-is_date.false)
