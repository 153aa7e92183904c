use Rattle.jehvrukam.proofs.Settling.{text_tidied, text_cleared}
use Rattle.jehvrukam.proofs.settle.settle_text.Goals as goal

pub returns-then-done : goal.returns-then-done
returns-then-done c = text_tidied c.if-done.true c.clear_index.ensures

pub returns : goal.returns
returns c = text_cleared c.if-done.false c.clear_from.ensures c.clear_from-2.ensures
