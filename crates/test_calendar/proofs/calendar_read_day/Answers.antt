use Rattle.test_calendar.proofs.Entry.{tells}
use Rattle.test_calendar.proofs.calendar_read_day.Goals as goal

pub returns : goal.returns
returns c = tells c.read_day.ensures c.put_date.ensures
