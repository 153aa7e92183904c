use borrow.Author.Rules.{rules}
use mathlib.Core.Path.{◌∙◌, sym}
use native.Mathlib.Omega.{arith}
use Rattle.model.specs.Bytes.{ascii}
use Rattle.model.proofs.Laws.DateText.{begins_length}
use Rattle.model.proofs.Laws.Logic.{true→t}
use Rattle.dates.proofs.Times.{starts, no_time, at_time}
use Rattle.dates.proofs.time.read_time.Goals as goal

pub returns-then-not-is_time : goal.returns-then-not-is_time
returns-then-not-is_time c =
    no_time c.args.text.now c.two_digits-hour.ensures.0 c.two_digits-minute.ensures.0 c.two_digits-second.ensures.0
    (sym c.is_time.ensures ∙ c.if-not-is_time.true)

pub overflow_add-since_year_0 : goal.overflow_add-since_year_0
overflow_add-since_year_0 c = omega (arith, (starts c.midnight.ensures c.date_in.ensures c.in_ok-day.was c.since_year_0.ensures).high)

pub slice_bounds-after_seconds-count : goal.slice_bounds-after_seconds-count
slice_bounds-after_seconds-count c = (begins_length (ascii "0000-00-00T00:00:00") c.args.text.now (true→t _ c.requires))

pub slice_bounds-after_seconds-start : goal.slice_bounds-after_seconds-start
slice_bounds-after_seconds-start c = let h = (begins_length (ascii "0000-00-00T00:00:00") c.args.text.now (true→t _ c.requires)) in search rules

pub after_seconds-requires : goal.after_seconds-requires
after_seconds-requires c = omega (arith, (starts c.midnight.ensures c.date_in.ensures c.in_ok-day.was c.since_year_0.ensures).high)

pub returns : goal.returns
returns c =
    at_time c.args.text.now c.two_digits-hour.ensures.0 c.two_digits-minute.ensures.0 c.two_digits-second.ensures.0
    (sym c.is_time.ensures ∙ c.if-not-is_time.false) (starts c.midnight.ensures c.date_in.ensures c.in_ok-day.was c.since_year_0.ensures) c.after_seconds.ensures
