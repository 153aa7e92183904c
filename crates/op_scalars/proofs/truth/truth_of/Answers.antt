use Rattle.op_scalars.proofs.Truths.{integer_truth, string_truth, compound_truth}
use Rattle.op_scalars.proofs.truth.truth_of.Goals as goal

pub returns-in-Integer : goal.returns-in-Integer
returns-in-Integer c = rw (c.in-Integer.is, c.truthy_unless.ensures) (integer_truth _)

pub returns-in-String : goal.returns-in-String
returns-in-String c = rw (c.in-String.is, c.truthy_unless-in-String.ensures) (string_truth _)

pub returns-in-Compound : goal.returns-in-Compound
returns-in-Compound c = rw (c.in-Compound.is, c.truthy_unless-in-Compound.ensures) (compound_truth _)
