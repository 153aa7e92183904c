-- Each way out is a law of Whole.
use Rattle.std.specs.Prelude.{None, Some}
use Rattle.name_index.proofs.Whole.{first_entered, same_entered, fork_entered}
use Rattle.name_index.specs.Inner.{Ranked, ToldOf}
use Rattle.name_index.proofs.Steps.{told_below}
use Rattle.model.specs.Limits.{max_values}
use Rattle.name_index.specs.Slots.{place, side}
use Rattle.syntax.specs.Layout.{row_bytes, entry_bytes}
use Rattle.model.proofs.Laws.Widths.{values_below}
use mathlib.Core.Path.{ap, subst}
use native.Mathlib.Omega.{arith}
use Rattle.name_index.proofs.enter_slot.Goals as goal

pub overflow_mul-row : goal.overflow_mul-row
overflow_mul-row c = omega (arith, values_below, c.requires.below)

pub put_word-requires : goal.put_word-requires
unfolding place row_bytes entry_bytes
put_word-requires c = omega (arith, c.entry_at.ensures, c.requires.below, c.requires.order, c.requires.table)

pub returns-then-row-first : goal.returns-then-row-first
returns-then-row-first c = first_entered c.args.table.now c.args.strings.now c.args.first c.args.row c.args.name.now c.entry_at.result c.put_word.new.d c.requires c.if-row-first.true c.entry_at.ensures c.put_word.ensures

pub fork-requires : goal.fork-requires
unfolding place row_bytes entry_bytes
fork-requires c = (omega (arith, c.requires.table), omega (arith, c.requires.below), omega (arith, c.slot-at.ensures.high, c.requires.below, c.requires.table), subst Ranked c.in-Some.is c.compare.ensures.1)

pub returns-in-None : goal.returns-in-None
returns-in-None c = same_entered c.args.table.now c.args.strings.now c.args.first c.args.row c.args.name.now c.requires c.if-row-first.false c.descend-end.result c.descend-end.ensures (told_below _ _ _ _ c.args.name.now None c.requires.below (subst (ToldOf c.args.table.now c.args.strings.now c.descend-end.result.link max_values c.args.name.now) c.in-None.is c.compare.ensures.0))

pub returns-in-Some : goal.returns-in-Some
returns-in-Some c = fork_entered c.args.table.now c.args.strings.now c.args.first c.args.row c.args.name.now c.requires c.if-row-first.false c.descend-end.result c.descend-end.ensures c.in-Some.rank c.slot-at.result (side c.turn-right.result) c.fork.new.table (told_below _ _ _ _ c.args.name.now (Some c.in-Some.rank) c.requires.below (subst (ToldOf c.args.table.now c.args.strings.now c.descend-end.result.link max_values c.args.name.now) c.in-Some.is c.compare.ensures.0)) c.slot-at.ensures (ap side c.turn-right.ensures) c.fork.ensures
