use Rattle.std.specs.Prelude.{Some}
use Rattle.rule.specs.Laws.Objects.{single}
use Rattle.rule.proofs.operation.operation.Goals as goal

pub returns : goal.returns
returns c =
    single c.args.rule_table.now c.args.rule_strings.now c.args.q {m = (c.in_ok-name.name, c.in_ok-name.content)} (Some c.in_ok-k.k) c.single_member.ensures c.in_ok-name.was
    (rw (c.bytes_of.ensures, c.in_ok-k.was) at c.keyword_named.ensures) c.content_shape.ensures
