use borrow.Author.Rules.{rules}
use mathlib.Core.Path.{sym, ◌∙◌}
use borrow.Author.Tests.{not-true, not-false}
use lib.ListN.{length}
use Rattle.test_vectors.proofs.Counting.{whole_inside, case_cut, case_whole}
use Rattle.test_vectors.proofs.run_case.Goals as goal

pub returns-then-not-is_whole : goal.returns-then-not-is_whole
returns-then-not-is_whole c = case_cut c.args.text.now c.args.at c.requires c.read_header-h.ensures (sym c.is_whole.ensures ∙ c.if-not-is_whole.true)

pub overflow_add-rule_end : goal.overflow_add-rule_end
overflow_add-rule_end c = let w = whole_inside (length c.args.text.now) c.read_header-h.result (sym c.is_whole.ensures ∙ c.if-not-is_whole.false) in search rules

pub overflow_add-record_end : goal.overflow_add-record_end
overflow_add-record_end c = let w = whole_inside (length c.args.text.now) c.read_header-h.result (sym c.is_whole.ensures ∙ c.if-not-is_whole.false) in search rules

pub overflow_add-answer_end : goal.overflow_add-answer_end
overflow_add-answer_end c = let w = whole_inside (length c.args.text.now) c.read_header-h.result (sym c.is_whole.ensures ∙ c.if-not-is_whole.false) in search rules

pub slice_bounds-agrees-end : goal.slice_bounds-agrees-end
slice_bounds-agrees-end c = let w = whole_inside (length c.args.text.now) c.read_header-h.result (sym c.is_whole.ensures ∙ c.if-not-is_whole.false) in search rules

pub slice_bounds-agrees-end-2 : goal.slice_bounds-agrees-end-2
slice_bounds-agrees-end-2 c = let w = whole_inside (length c.args.text.now) c.read_header-h.result (sym c.is_whole.ensures ∙ c.if-not-is_whole.false) in search rules

pub slice_bounds-agrees-end-3 : goal.slice_bounds-agrees-end-3
slice_bounds-agrees-end-3 c = let w = whole_inside (length c.args.text.now) c.read_header-h.result (sym c.is_whole.ensures ∙ c.if-not-is_whole.false) in search rules

pub past-requires : goal.past-requires
past-requires c = let w = whole_inside (length c.args.text.now) c.read_header-h.result (sym c.is_whole.ensures ∙ c.if-not-is_whole.false) in search rules

pub returns : goal.returns
returns c = case_whole c.args.text.now c.args.at c.requires c.read_header-h.ensures (sym c.is_whole.ensures ∙ c.if-not-is_whole.false) c.agrees-agrees.ensures c.past.ensures
