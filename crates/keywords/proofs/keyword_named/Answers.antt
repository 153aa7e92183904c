use Rattle.std.proofs.Common.{[], ◌∷◌, ◌∙◌, arith, length}
use Rattle.model.specs.Shape.{keywords}
use Rattle.keywords.specs.Laws.Keyed.{by_length, not_keyed}
use Rattle.keywords.proofs.keyword_named.Goals as goal

pub returns-in-5 : goal.returns-in-5
returns-in-5 c = (rw c.compare.ensures at c.spelled.ensures) ∙ by_length 5 c.args.name.now c.in-5.is

pub returns-in-8 : goal.returns-in-8
returns-in-8 c = c.spelled-in-8.ensures ∙ by_length 8 c.args.name.now c.in-8.is

pub returns-in-9 : goal.returns-in-9
returns-in-9 c = (rw c.compare-in-9.ensures at c.spelled-in-9.ensures) ∙ by_length 9 c.args.name.now c.in-9.is

pub returns-in-10 : goal.returns-in-10
returns-in-10 c = (rw c.compare-in-10.ensures at c.spelled-in-10.ensures) ∙ by_length 10 c.args.name.now c.in-10.is

pub returns-in-14 : goal.returns-in-14
returns-in-14 c = (rw c.exactly.ensures at c.spelled-in-14.ensures) ∙ by_length 14 c.args.name.now c.in-14.is

pub returns-in-15 : goal.returns-in-15
returns-in-15 c = c.spelled-in-15.ensures ∙ by_length 15 c.args.name.now c.in-15.is

pub returns-in_default : goal.returns-in_default
returns-in_default c =
    not_keyed length (15 ∷ 14 ∷ 10 ∷ 9 ∷ 8 ∷ 6 ∷ 5 ∷ 3 ∷ 2 ∷ 1 ∷ []) c.args.name.now keywords tt
    ((((((((((tt, λ e. omega arith), λ e. omega arith), λ e. omega arith), λ e. omega arith), λ e. omega arith), λ e. omega arith), λ e. omega arith), λ e. omega arith), λ e. omega arith), λ e. omega arith)
