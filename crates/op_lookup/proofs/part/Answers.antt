use mathlib.Core.Logic.{⊎_elim}
use Rattle.op_lookup.proofs.Parts.{no_part, items_part, members_part, list_part, context_part}
use Rattle.op_lookup.proofs.part.Goals as goal

pub returns-in-List : goal.returns-in-List
returns-in-List c = rw c.in-Compound.is (list_part c.in-List.is c.item_named.ensures)

pub returns-in-Context : goal.returns-in-Context
returns-in-Context c = rw c.in-Compound.is (context_part c.in-Context.is c.member.ensures)

pub returns-in-Items : goal.returns-in-Items
returns-in-Items c = rw c.in-Compound.is (⊎_elim items_part members_part c.in-Items.is)

pub returns-in_default : goal.returns-in_default
returns-in_default c = no_part _ c.in_default.not-Compound
