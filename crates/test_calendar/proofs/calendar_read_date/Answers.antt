use Rattle.test_calendar.proofs.Entry.{tells}
use Rattle.test_calendar.proofs.calendar_read_date.Goals as goal

pub returns : goal.returns
returns c = tells c.read_date.ensures c.put_date.ensures
