use mathlib.Core.Path.{ap, ◌∙◌}
use Prim.Native.Nat.{◌+◌}
use native.Mathlib.Omega.{arith}
use lib.ListN.{get_or, set}
use Rattle.model.specs.Bytes.{Bytes}
use Rattle.area.proofs.Stores.{copied_more}
use Rattle.print.proofs.Copy.{all_seen}
use Rattle.print.proofs.put.put_bytes.Goals as goal

pub loop-i-preserved : goal.loop-i-preserved
loop-i-preserved c =
    ap (λ (o : Bytes). set o (c.args.at + c.loop-i.i) (get_or c.args.s.now c.loop-i.i 0)) c.loop-i.invariant
    ∙ copied_more c.args.s.now c.args.output.now c.args.at c.loop-i.i (omega arith)

pub returns : goal.returns
returns c = c.loop-i.invariant ∙ all_seen c.args.output.now c.args.s.now c.args.at c.loop-i.i (omega arith) (omega arith)
