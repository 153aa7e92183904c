use Rattle.op_lookup.proofs.member.Goals as goal

pub returns-then-same : goal.returns-then-same
returns-then-same c = rw (← c.same.ensures, c.if-same.true) c.get.ensures

pub returns-then-same-2 : goal.returns-then-same-2
returns-then-same-2 c = rw (← c.same.ensures, c.if-same.false, ← c.same-2.ensures, c.if-same-2.true) c.cell_after.ensures

pub returns : goal.returns
returns c = rw (← c.same.ensures, c.if-same.false, ← c.same-2.ensures, c.if-same-2.false)
