use borrow.Author.Rules.{rules}
use mathlib.Core.Path.{sym, ◌∙◌}
use Prim.Native.Nat.{◌≤◌}
use lib.ListN.{length}
use Rattle.model.specs.Bytes.{ascii}
use Rattle.model.proofs.Laws.DateText.{begins_length}
use Rattle.model.proofs.Laws.Logic.{true→t}
use Rattle.dates.proofs.Times.{no_fraction, no_digits, many_digits, some_digits}
use Rattle.dates.proofs.time.after_seconds.Goals as goal
use Rattle.dates.proofs.time.after_seconds.Goals.{then-digits-lt1-via-then-digits-lt1, then-digits-lt1-via-else-digits-lt1+then-digits-gt-MAX_FRACTION_DIGITS}

pub returns-then-not-starts_like : goal.returns-then-not-starts_like
returns-then-not-starts_like c =
    let a = c.args in
    no_fraction a.local a.text.now (sym c.starts_like.ensures ∙ c.if-not-starts_like.true) c.zoned.ensures

pub slice_bounds-digit_run-count : goal.slice_bounds-digit_run-count
slice_bounds-digit_run-count c = (begins_length (ascii ".") c.args.text.now (true→t _ (sym c.starts_like.ensures ∙ c.if-not-starts_like.false)))

pub slice_bounds-digit_run-start : goal.slice_bounds-digit_run-start
slice_bounds-digit_run-start c = let h : 1 ≤ length c.args.text.now = begins_length (ascii ".") c.args.text.now (true→t _ (sym c.starts_like.ensures ∙ c.if-not-starts_like.false)) in search rules

pub returns-then-digits-lt1 : goal.returns-then-digits-lt1
returns-then-digits-lt1 c =
    let a = c.args in
    let dot = sym c.starts_like.ensures ∙ c.if-not-starts_like.false in
    elim c.then-digits-lt1.branch [
      | then-digits-lt1-via-then-digits-lt1 w ↦ no_digits a.local a.text.now c.digit_run-digits.result dot c.digit_run-digits.ensures.0 w.if-digits-lt1.true
      | then-digits-lt1-via-else-digits-lt1+then-digits-gt-MAX_FRACTION_DIGITS w ↦ many_digits a.local a.text.now c.digit_run-digits.result dot c.digit_run-digits.ensures.0 w.if-digits-lt1.false w.if-digits-gt-MAX_FRACTION_DIGITS.true
    ]

pub returns : goal.returns
returns c =
    let a = c.args in
    let dot = sym c.starts_like.ensures ∙ c.if-not-starts_like.false in
    some_digits a.local a.text.now c.digit_run-digits.result dot c.digit_run-digits.ensures.0 c.if-digits-lt1.false c.if-digits-gt-MAX_FRACTION_DIGITS.false
    c.split_at.ensures.front c.split_at.ensures.back c.milliseconds.ensures.0 c.zoned-2.ensures
