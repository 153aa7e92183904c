use Rattle.std.proofs.Common.{sym, ◌∙◌, ◌≡◌, ◌+◌, ◌-◌, ◌*◌, arith}
use Rattle.name_index.proofs.Doubles.{link_none, link_again}
use Rattle.name_index.proofs.items.link.Goals as goal

pub loop-preserved : goal.loop-preserved
loop-preserved c =
    let l = c.loop in
    let n = c.args.q.count in
    let put = c.put_double in
    let next = c.next_row-row in
    let odd = c.next_row-odd in
    let far = c.next_row-far in
    let left : n - (l.counter + 1) * 2 ≡ n - l.counter * 2 - 2 = omega arith in
    let same = link_again l.table put.new.table l.row l.far (n - l.counter * 2) next.result odd.result far.result put.ensures (omega arith) next.ensures odd.ensures far.ensures in
    (put.auto.table ∙ l.invariant.0, rw left (same ∙ l.invariant.1))

pub returns : goal.returns
returns c = sym (link_none _ _ _ (c.args.q.count - c.loop.counter * 2) (omega arith)) ∙ c.loop.invariant.1
