-- Each way out is a law of Values, Items or Members. A measure is what is left of the text, three times, and the order of the functions at one offset.
-- The loops' invariants are those of Items and Members: what the rest reads as, the whole reads as with what was passed in front.
use Prim.Native.Nat.{◌+◌, ◌*◌, ◌-◌}
use lib.ListN.{length}
use Rattle.json_reader.proofs.Items.{ItemsInv}
use Rattle.json_reader.proofs.Members.{MembersInv}
use Rattle.json_reader.proofs.tree.+all_items_all_members_array_object_value.Given as goal

abbrev pub decreases-all_items : goal.decreases-all_items
decreases-all_items l = 3 * (length l.text.now - l.at) + 1

abbrev pub decreases-all_members : goal.decreases-all_members
decreases-all_members l = 3 * (length l.text.now - l.at) + 1

abbrev pub decreases-array : goal.decreases-array
decreases-array l = 3 * (length l.text.now - l.at) + 2

abbrev pub decreases-object : goal.decreases-object
decreases-object l = 3 * (length l.text.now - l.at) + 2

abbrev pub decreases-value : goal.decreases-value
decreases-value l = 3 * (length l.text.now - l.at)

abbrev pub invariant-all_items-loop-end : goal.invariant-all_items-loop-end
invariant-all_items-loop-end l = ItemsInv l.depth l.text l.at l.row l.used l.initial.table l.initial.strings l.table l.strings l.here.at l.here.row l.here.used l.here.count

abbrev pub decreases-all_items-loop-end : goal.decreases-all_items-loop-end
decreases-all_items-loop-end l = length l.text - l.here.at

abbrev pub invariant-all_members-loop-member : goal.invariant-all_members-loop-member
invariant-all_members-loop-member l = MembersInv l.depth l.text l.at l.row l.used l.initial.table l.initial.strings l.table l.strings l.here.at l.here.row l.here.used l.here.count

abbrev pub decreases-all_members-loop-member : goal.decreases-all_members-loop-member
decreases-all_members-loop-member l = length l.text - l.here.at
