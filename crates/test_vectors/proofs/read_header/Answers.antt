use borrow.Author.Rules.{rules}
use Rattle.test_vectors.proofs.Searching.{header_read}
use Rattle.test_vectors.proofs.read_header.Goals as goal

pub returns : goal.returns
returns c = header_read c.args.text.now c.args.at c.past.ensures c.read_number-limit.ensures c.read_number-room.ensures c.read_number-refusal.ensures c.read_number-which.ensures c.read_number-place.ensures c.read_number-steps.ensures c.read_number-rule.ensures c.read_number-record.ensures c.read_number-answer.ensures
