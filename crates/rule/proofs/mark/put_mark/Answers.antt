use Rattle.std.proofs.Common.{sym, arith}
use Rattle.std.proofs.Math.Seq.{set_out}
use Rattle.model.specs.Limits.{max_values}
use Rattle.syntax.specs.Layout.{row_bytes}
use Rattle.rule.proofs.mark.put_mark.Goals as goal

pub returns-else-row-saturating_sub : goal.returns-else-row-saturating_sub
unfolding max_values row_bytes
returns-else-row-saturating_sub c = sym (set_out c.args.table.now _ c.args.mark (omega (arith, c.if-row-saturating_sub.false, c.saturating_sub.ensures)))
