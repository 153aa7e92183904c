use mathlib.Core.Bool.{false≢true}
use borrow.Author.Tests.{eqb-true}
use Rattle.paths.proofs.Whole.{all_members_lem}
use Rattle.paths.proofs.owner.are_members.Goals as goal

pub returns-in_default : goal.returns-in_default
returns-in_default c = λ e. absurd (false≢true e)

pub returns : goal.returns
returns c = λ e. all_members_lem c.args.q c.owner.ensures (eqb-true _ _ e) c.in-Object.is
