use mathlib.Core.Path.{◌≡◌, subst}
use Prim.Native.Nat.{ℕ, ◌+◌, ◌-◌}
use native.Mathlib.Omega.{arith}
use lib.ListN.{take, drop, length-take}
use Rattle.name_index.specs.Slots as Slots
use Rattle.name_index.specs.Laws.Entries.{by_rows, room_slots}
use Rattle.name_index.proofs.enter.Goals as goal

pub enter_slot-requires : goal.enter_slot-requires
enter_slot-requires c = let m = room_slots c.requires in record { table = m.table; order = m.order; below = m.below; short = simp length-take (omega (arith, c.requires.short)) }

pub returns : goal.returns
returns c = let e : c.args.start + c.args.len - c.args.start ≡ c.args.len = omega arith in by_rows c.requires (subst (λ (x : ℕ). Slots.Entered c.args.table.now c.args.strings.now (c.args.first - 1) (c.args.row - 1) (take x (drop c.args.start c.args.strings.now)) c.enter_slot.result c.enter_slot.new.table) e c.enter_slot.ensures)
