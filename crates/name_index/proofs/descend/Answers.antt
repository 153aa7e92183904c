use Rattle.name_index.proofs.Steps.{no_node, a_node, going_first, going_side, going_left, done_none, done_rank}
use mathlib.Core.Path.{ap}
use Rattle.name_index.specs.Slots.{place, side}
use Rattle.syntax.specs.Layout.{row_bytes, entry_bytes}
use Rattle.model.proofs.Laws.Widths.{values_below}
use Prim.Native.Nat.{◌+◌}
use native.Mathlib.Omega.{arith}
use Rattle.name_index.proofs.descend.Goals as goal

pub entry_at-at-requires : goal.entry_at-at-requires
entry_at-at-requires c = omega (arith, c.requires.below, c.requires.order)

pub link_at-link-requires : goal.link_at-link-requires
unfolding place row_bytes entry_bytes
link_at-link-requires c = omega (arith, c.entry_at-at.ensures, c.requires.order, c.requires.below, c.requires.table)

pub loop-node-init : goal.loop-node-init
loop-node-init c = going_first c.args.table.now c.args.name.now c.args.first c.args.row c.args.stop c.entry_at-at.result c.link_at-link.result c.requires.order c.entry_at-at.ensures c.link_at-link.ensures

pub node_of-requires : goal.node_of-requires
node_of-requires c = tt

pub returns-in_default : goal.returns-in_default
returns-in_default c = done_none c.args.table.now c.args.name.now c.args.first c.args.row c.args.stop c.loop-node.at c.loop-node.from c.loop-node.link c.loop-node.invariant (no_node c.loop-node.link c.args.first c.args.row c.node_of.result c.node_of.ensures c.in_default.not-Some)

pub entry_at-entry-requires : goal.entry_at-entry-requires
entry_at-entry-requires c = omega (arith, c.requires.below, (a_node c.loop-node.link c.args.first c.args.row c.in-Some.node c.node_of.ensures c.in-Some.is).3)

pub rank_of-rank-requires : goal.rank_of-rank-requires
unfolding place row_bytes entry_bytes
rank_of-rank-requires c = omega (arith, c.entry_at-entry.ensures, c.requires.below, c.requires.table, (a_node c.loop-node.link c.args.first c.args.row c.in-Some.node c.node_of.ensures c.in-Some.is).3)

pub returns-then-stop-rank : goal.returns-then-stop-rank
returns-then-stop-rank c = done_rank c.args.table.now c.args.name.now c.args.first c.args.row c.args.stop c.loop-node.at c.loop-node.from c.loop-node.link c.loop-node.invariant c.in-Some.node c.entry_at-entry.result (a_node c.loop-node.link c.args.first c.args.row c.in-Some.node c.node_of.ensures c.in-Some.is).0 c.entry_at-entry.ensures (c.rank_of-rank.ensures.1 (omega arith))

pub overflow_add-from : goal.overflow_add-from
overflow_add-from c = omega (arith, (c.rank_of-rank.ensures.0 (omega arith)).2)

pub link_at-link-requires-then-not-turn : goal.link_at-link-requires-then-not-turn
unfolding place row_bytes entry_bytes
link_at-link-requires-then-not-turn c = omega (arith, c.entry_at-entry.ensures, c.requires.below, c.requires.table, (a_node c.loop-node.link c.args.first c.args.row c.in-Some.node c.node_of.ensures c.in-Some.is).3)

pub returns-then-link-eq0 : goal.returns-then-link-eq0
returns-then-link-eq0 c = done_none c.args.table.now c.args.name.now c.args.first c.args.row c.args.stop c.entry_at-entry.result (c.rank_of-rank.result + 1) c.link_at-link-then-not-turn.result (going_left c.args.table.now c.args.name.now c.args.first c.args.row c.args.stop c.loop-node.at c.loop-node.from c.loop-node.link c.loop-node.invariant c.in-Some.node (a_node c.loop-node.link c.args.first c.args.row c.in-Some.node c.node_of.ensures c.in-Some.is) c.entry_at-entry.result c.entry_at-entry.ensures c.rank_of-rank.result (c.rank_of-rank.ensures.0 (omega arith)) (omega arith) (side c.turn.result) c.link_at-link-then-not-turn.result (ap side c.turn.ensures) (ap side c.if-not-turn.true) c.link_at-link-then-not-turn.ensures) (λ l h. omega arith)

pub loop-node-smaller-then-not-turn : goal.loop-node-smaller-then-not-turn
loop-node-smaller-then-not-turn c = omega (arith, (c.rank_of-rank.ensures.0 (omega arith)))

pub loop-node-preserved-then-not-turn : goal.loop-node-preserved-then-not-turn
loop-node-preserved-then-not-turn c = going_left c.args.table.now c.args.name.now c.args.first c.args.row c.args.stop c.loop-node.at c.loop-node.from c.loop-node.link c.loop-node.invariant c.in-Some.node (a_node c.loop-node.link c.args.first c.args.row c.in-Some.node c.node_of.ensures c.in-Some.is) c.entry_at-entry.result c.entry_at-entry.ensures c.rank_of-rank.result (c.rank_of-rank.ensures.0 (omega arith)) (omega arith) (side c.turn.result) c.link_at-link-then-not-turn.result (ap side c.turn.ensures) (ap side c.if-not-turn.true) c.link_at-link-then-not-turn.ensures

pub overflow_add-at : goal.overflow_add-at
unfolding place row_bytes entry_bytes
overflow_add-at c = omega (arith, values_below, c.entry_at-entry.ensures, c.requires.below, (a_node c.loop-node.link c.args.first c.args.row c.in-Some.node c.node_of.ensures c.in-Some.is).3)

pub link_at-link-requires-in-loop-node : goal.link_at-link-requires-in-loop-node
unfolding place row_bytes entry_bytes
link_at-link-requires-in-loop-node c = omega (arith, c.entry_at-entry.ensures, c.requires.below, c.requires.table, (a_node c.loop-node.link c.args.first c.args.row c.in-Some.node c.node_of.ensures c.in-Some.is).3)

pub loop-node-smaller : goal.loop-node-smaller
loop-node-smaller c = omega (arith, (c.rank_of-rank.ensures.0 (omega arith)))

pub loop-node-preserved : goal.loop-node-preserved
loop-node-preserved c = going_side c.args.table.now c.args.name.now c.args.first c.args.row c.args.stop c.loop-node.at c.loop-node.from c.loop-node.link c.loop-node.invariant c.in-Some.node (a_node c.loop-node.link c.args.first c.args.row c.in-Some.node c.node_of.ensures c.in-Some.is) c.entry_at-entry.result c.entry_at-entry.ensures c.rank_of-rank.result (c.rank_of-rank.ensures.0 (omega arith)) (omega arith) (side c.turn.result) 4 c.link_at-link-in-loop-node.result (ap side c.turn.ensures) (ap side c.if-not-turn.false) c.link_at-link-in-loop-node.ensures
