use borrow.Author.Rules.{rules}
use Rattle.admit.proofs.Lines.{begins_counts, digits_put, digits_near, number_line_put}
use Rattle.admit.proofs.put_number_line.Goals as goal

pub slice_bounds-digits-end : goal.slice_bounds-digits-end
slice_bounds-digits-end c = (digits_put c.ranges.n (search rules) c.put_decimal-size.ensures).within

pub slice_bounds-put_line-end : goal.slice_bounds-put_line-end
slice_bounds-put_line-end c = begins_counts (digits_put c.ranges.n (search rules) c.put_decimal-size.ensures)

pub put_line-requires : goal.put_line-requires
put_line-requires c = digits_near c.ranges.n (digits_put c.ranges.n (search rules) c.put_decimal-size.ensures) c.requires.0 c.requires.1

pub returns : goal.returns
returns c = number_line_put c.args.n c.args.word.now (digits_put c.ranges.n (search rules) c.put_decimal-size.ensures) c.put_line.ensures
