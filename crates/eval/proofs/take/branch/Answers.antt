use mathlib.Core.Logic.{inl, inr}
use Rattle.eval.proofs.Taken.{chooses_second, chooses_third}
use Rattle.eval.proofs.take.branch.Goals as goal

pub returns-in-Truthy : goal.returns-in-Truthy
returns-in-Truthy c = chooses_second c.truth_of.result c.truth_of.ensures c.in-Truthy.is c.next_row-second.ensures

pub returns-in-Falsy : goal.returns-in-Falsy
returns-in-Falsy c =
    elim c.in-Falsy.is [
      | inl e ↦ chooses_third c.truth_of.result c.truth_of.ensures (rw e) c.next_row-second.ensures c.next_row.ensures
      | inr e ↦ chooses_third c.truth_of.result c.truth_of.ensures (rw e) c.next_row-second.ensures c.next_row.ensures
    ]
