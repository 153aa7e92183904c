use borrow.Author.Rules.{rules}
use Rattle.admit.specs.Limits.{output_below}
use Rattle.admit.proofs.Lines.{line_put}
use Rattle.admit.proofs.put_line.Goals as goal

pub overflow_add-start : goal.overflow_add-start
overflow_add-start c = let below = output_below in search rules

pub overflow_add-end : goal.overflow_add-end
overflow_add-end c = let below = output_below in search rules

pub overflow_add-result : goal.overflow_add-result
overflow_add-result c = let below = output_below in search rules

pub returns : goal.returns
returns c = line_put c.args.word.now c.args.text.now c.put_bytes.ensures c.put_bytes-2.ensures c.put_byte.ensures
