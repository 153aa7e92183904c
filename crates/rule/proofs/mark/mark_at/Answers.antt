use Rattle.std.proofs.Common.{sym, arith}
use Rattle.std.proofs.Math.ListN.{get_or-eq_default}
use Rattle.model.specs.Limits.{max_values}
use Rattle.syntax.specs.Layout.{row_bytes}
use Rattle.rule.proofs.mark.mark_at.Goals as goal

pub returns-then-saturating_sub-row : goal.returns-then-saturating_sub-row
unfolding max_values row_bytes
returns-then-saturating_sub-row c = sym (get_or-eq_default c.args.table.now 0 (omega (arith, c.if-saturating_sub-row.true, c.saturating_sub.ensures)))
