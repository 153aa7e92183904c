use mathlib.Core.Path.{refl}
use Rattle.eval.proofs.Steps.{taken, branch_ends, item_room, argument_room, take_stops}
use Rattle.eval.proofs.take.take.Goals as goal

pub returns-in_default : goal.returns-in_default
returns-in_default c = take_stops c.args.e c.in_default.field-0 c.in_default.is c.requires

pub next_item-requires : goal.next_item-requires
next_item-requires c = item_room c.in-Ok.given c.in-Ok.is c.requires c.in-Item.lambda c.in-Item.items _ c.in-Item.is refl

pub after_argument-requires : goal.after_argument-requires
after_argument-requires c = argument_room c.in-Ok.given c.in-Ok.is c.requires c.in-Argument.p _ c.in-Argument.is refl

pub returns-in-Guard : goal.returns-in-Guard
returns-in-Guard c = taken c.in-Ok.given c.in-Ok.is c.requires _ refl (rw c.in-Guard.is (c.after_guard.ensures.takes _ _ _ _))

pub returns-in-Branch : goal.returns-in-Branch
returns-in-Branch c = branch_ends c.in-Ok.given c.in-Ok.is c.requires c.in-Branch.is

pub returns-in-Conjunct : goal.returns-in-Conjunct
returns-in-Conjunct c = taken c.in-Ok.given c.in-Ok.is c.requires _ refl (rw c.in-Conjunct.is (c.after_conjunct.ensures.takes _ _ _ _))

pub returns-in-Source : goal.returns-in-Source
returns-in-Source c = taken c.in-Ok.given c.in-Ok.is c.requires _ refl (rw c.in-Source.is (c.after_source.ensures.takes _ _ _ _))

pub returns-in-Item : goal.returns-in-Item
returns-in-Item c = taken c.in-Ok.given c.in-Ok.is c.requires _ refl (rw c.in-Item.is (c.next_item.ensures.takes _ _ _))

pub returns-in-Argument : goal.returns-in-Argument
returns-in-Argument c = taken c.in-Ok.given c.in-Ok.is c.requires _ refl (rw c.in-Argument.is c.after_argument.ensures)
