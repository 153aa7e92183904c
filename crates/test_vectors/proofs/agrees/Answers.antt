use borrow.Author.Rules.{rules}
use Rattle.model.specs.Limits.{max_text_bytes}
use Rattle.test_vectors.proofs.Agreement.{zeros_fit, zeros_size, no_room, with_room}
use Rattle.test_vectors.proofs.agrees.Goals as goal

pub returns-then-room-gt-OUTPUT_BYTES : goal.returns-then-room-gt-OUTPUT_BYTES
unfolding max_text_bytes
returns-then-room-gt-OUTPUT_BYTES c = no_room c.args.h c.args.rule.now c.args.«record».now c.args.answer.now c.if-room-gt-OUTPUT_BYTES.true

pub slice_bounds-output-end : goal.slice_bounds-output-end
unfolding max_text_bytes
slice_bounds-output-end c = zeros_fit c.args.h.room max_text_bytes c.if-room-gt-OUTPUT_BYTES.false

pub slice_bounds-agrees_in-end : goal.slice_bounds-agrees_in-end
unfolding max_text_bytes
slice_bounds-agrees_in-end c = zeros_size c.args.h.room max_text_bytes c.if-room-gt-OUTPUT_BYTES.false

pub returns : goal.returns
unfolding max_text_bytes
returns c = with_room c.args.h c.args.rule.now c.args.«record».now c.args.answer.now c.if-room-gt-OUTPUT_BYTES.false c.agrees_in.ensures
