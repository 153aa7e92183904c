use Rattle.std.proofs.Common.{sym, ◌∙◌, ◌-◌, arith}
use Rattle.name_index.proofs.Doubles.{rows_none, rows_again}
use Rattle.name_index.proofs.items.link_rows.Goals as goal

pub loop-row-preserved : goal.loop-row-preserved
loop-row-preserved c =
    let l = c.loop-row in
    let link = c.link_row in
    (link.auto.table ∙ l.invariant.0, rows_again l.table link.new.table l.row c.args.rows (omega arith) link.ensures ∙ l.invariant.1)

pub returns : goal.returns
returns c =
    let l = c.loop-row in
    sym (rows_none l.table l.row (c.args.rows - l.row) (omega arith)) ∙ l.invariant.1
