use Prim.Native.Nat.{◌≤◌}
use mathlib.Core.Path.{◌≡◌}
use native.Mathlib.Omega.{arith}
use lib.ListN.{length}
use Rattle.std.specs.Prelude.{Ok, Err}
use Rattle.json_reader.specs.declared.list.After.TheVariants.{Closed, More}
use Rattle.json_reader.specs.Inner.{Followed}
use Rattle.std.proofs.Common.{rules}
use Rattle.model.proofs.Laws.Widths.{nesting_below, values_below}
use Rattle.json_reader.proofs.Values.{law_none, law_much, law_word, law_minus, law_digit, law_quote, law_bracket, law_brace, law_array, law_array_bad, law_array_empty, law_object, law_object_bad, law_object_empty}
use Rattle.json_reader.proofs.Items.{items_start, items_bad, items_broken, items_closed, items_next, items_less}
use Rattle.json_reader.proofs.Members.{members_start, members_no_name, members_no_value, members_broken, members_closed, members_next, members_less}
use Rattle.json_reader.proofs.tree.+all_items_all_members_array_object_value.Goals as goal

pub all_items-loop-end-init : goal.all_items-loop-end-init
all_items-loop-end-init t c = items_start c.requires c.place-here.ensures

pub all_items-follow-requires : goal.all_items-follow-requires
all_items-follow-requires t c = record { short = c.requires.short; few = omega (arith, c.loop-end.invariant.inv) }

pub all_items-returns-in-Err : goal.all_items-returns-in-Err
all_items-returns-in-Err t c = items_bad c.loop-end.invariant c.in-Err.ensures

pub all_items-returns-in_err-last : goal.all_items-returns-in_err-last
all_items-returns-in_err-last t c =
    let e : c.from_residual.result ≡ Err c.in_err-last.field-0.0 = search rules in
    rw e (items_broken c.loop-end.invariant c.in-Ok.ensures c.in_err-last.ensures.meets)

pub all_items-returns-in-Closed : goal.all_items-returns-in-Closed
all_items-returns-in-Closed t c =
    let o : Followed c.args.text.now c.in-Ok.end c.loop-end.here.count 93 (Ok (Closed c.in-Closed.last)) = rw c.in-Closed.is at c.in_ok-last.ensures in
    items_closed c.loop-end.invariant c.in-Ok.ensures o.meets

pub all_items-loop-end-smaller : goal.all_items-loop-end-smaller
all_items-loop-end-smaller t c =
    let o : Followed c.args.text.now c.in-Ok.end c.loop-end.here.count 93 (Ok (More c.in-More.next)) = rw c.in-More.is at c.in_ok-last.ensures in
    items_less c.loop-end.invariant c.in-Ok.ensures o.meets

pub all_items-loop-end-preserved : goal.all_items-loop-end-preserved
all_items-loop-end-preserved t c =
    let o : Followed c.args.text.now c.in-Ok.end c.loop-end.here.count 93 (Ok (More c.in-More.next)) = rw c.in-More.is at c.in_ok-last.ensures in
    items_next c.loop-end.invariant c.in-Ok.ensures o.meets (omega (arith, c.value.auto, c.loop-end.invariant.inv)) (omega (arith, c.value.auto, c.loop-end.invariant.inv))

pub all_members-loop-member-init : goal.all_members-loop-member-init
all_members-loop-member-init t c = members_start c.requires c.place-here.ensures

pub all_members-returns-in_err-member : goal.all_members-returns-in_err-member
all_members-returns-in_err-member t c =
    let e : c.from_residual.result ≡ Err c.in_err-member.field-0.0 = search rules in
    rw e (members_no_name c.loop-member.invariant c.in_err-member.ensures)

pub all_members-returns-in-Err : goal.all_members-returns-in-Err
all_members-returns-in-Err t c = members_no_value c.loop-member.invariant c.in_ok-member.ensures c.in-Err.ensures

pub all_members-returns-in_err-last : goal.all_members-returns-in_err-last
all_members-returns-in_err-last t c =
    let e : c.from_residual-in_err-last.result ≡ Err c.in_err-last.field-0.0 = search rules in
    rw e (members_broken c.loop-member.invariant c.in_ok-member.ensures c.in-Ok.ensures c.in_err-last.ensures.meets)

pub all_members-overflow_add-used : goal.all_members-overflow_add-used
all_members-overflow_add-used t c = let safe = c.in_ok-member.ensures.safe in omega (arith, safe)

pub all_members-value-requires : goal.all_members-value-requires
all_members-value-requires t c = let safe = c.in_ok-member.ensures.safe in omega (arith, safe, c.loop-member.invariant.inv, c.member_name.auto, c.requires)

pub all_members-follow-requires : goal.all_members-follow-requires
all_members-follow-requires t c = record { short = c.requires.room.short; few = omega (arith, c.loop-member.invariant.inv) }

pub all_members-returns-in-Closed : goal.all_members-returns-in-Closed
all_members-returns-in-Closed t c =
    let o : Followed c.args.text.now c.in-Ok.end c.loop-member.here.count 125 (Ok (Closed c.in-Closed.last)) = rw c.in-Closed.is at c.in_ok-last.ensures in
    members_closed c.loop-member.invariant c.in_ok-member.ensures c.in-Ok.ensures o.meets c.requires (omega (arith, c.member_name.auto, c.loop-member.invariant.inv))

pub all_members-loop-member-smaller : goal.all_members-loop-member-smaller
all_members-loop-member-smaller t c =
    let o : Followed c.args.text.now c.in-Ok.end c.loop-member.here.count 125 (Ok (More c.in-More.next)) = rw c.in-More.is at c.in_ok-last.ensures in
    members_less c.loop-member.invariant c.in_ok-member.ensures c.in-Ok.ensures o.meets

pub all_members-loop-member-preserved : goal.all_members-loop-member-preserved
all_members-loop-member-preserved t c =
    let o : Followed c.args.text.now c.in-Ok.end c.loop-member.here.count 125 (Ok (More c.in-More.next)) = rw c.in-More.is at c.in_ok-last.ensures in
    members_next c.loop-member.invariant c.in_ok-member.ensures c.in-Ok.ensures o.meets c.requires (omega (arith, c.member_name.auto, c.loop-member.invariant.inv)) (omega (arith, c.value.auto, c.member_name.auto, c.loop-member.invariant.inv)) (omega (arith, c.value.auto, c.member_name.auto, c.loop-member.invariant.inv))

pub array-empty-requires : goal.array-empty-requires
array-empty-requires t c = omega (arith, c.stands.ensures.room c.if-stands.true, c.requires)

pub array-returns-then-stands : goal.array-returns-then-stands
array-returns-then-stands t c = law_array_empty c.args.depth c.skip_white-first.ensures c.stands.ensures c.if-stands.true c.requires.0.text c.requires.1 c.empty.ensures

pub array-overflow_add-row : goal.array-overflow_add-row
array-overflow_add-row t c = omega (arith, values_below, c.requires)

pub array-overflow_add-depth : goal.array-overflow_add-depth
array-overflow_add-depth t c = omega (arith, nesting_below, c.requires)

pub array-all_items-requires : goal.array-all_items-requires
array-all_items-requires t c = let l : c.skip_white-first.result ≤ length c.args.text.now = c.skip_white-first.ensures.inside c.requires.0.place in omega (arith, c.skip_white-first.ensures.on, c.requires)

pub array-returns-in_err-end : goal.array-returns-in_err-end
array-returns-in_err-end t c =
    let e : c.from_residual.result ≡ Err c.in_err-end.field-0.0 = search rules in
    rw e (law_array_bad c.args.depth c.skip_white-first.ensures c.stands.ensures c.if-stands.false c.in_err-end.ensures)

pub array-returns : goal.array-returns
array-returns t c = law_array c.args.depth c.skip_white-first.ensures c.stands.ensures c.if-stands.false c.requires.1 c.in_ok-end.ensures c.filled.ensures

pub object-empty-requires : goal.object-empty-requires
object-empty-requires t c = omega (arith, c.stands.ensures.room c.if-stands.true, c.requires)

pub object-returns-then-stands : goal.object-returns-then-stands
object-returns-then-stands t c = law_object_empty c.args.depth c.skip_white-first.ensures c.stands.ensures c.if-stands.true c.requires.0.text c.requires.1 c.empty.ensures

pub object-overflow_add-row : goal.object-overflow_add-row
object-overflow_add-row t c = omega (arith, values_below, c.requires)

pub object-overflow_add-depth : goal.object-overflow_add-depth
object-overflow_add-depth t c = omega (arith, nesting_below, c.requires)

pub object-all_members-requires : goal.object-all_members-requires
object-all_members-requires t c = let l : c.skip_white-first.result ≤ length c.args.text.now = c.skip_white-first.ensures.inside c.requires.0.place in omega (arith, c.skip_white-first.ensures.on, c.requires)

pub object-returns-in_err-end : goal.object-returns-in_err-end
object-returns-in_err-end t c =
    let e : c.from_residual.result ≡ Err c.in_err-end.field-0.0 = search rules in
    rw e (law_object_bad c.args.depth c.skip_white-first.ensures c.stands.ensures c.if-stands.false c.in_err-end.ensures)

pub object-returns : goal.object-returns
object-returns t c = law_object c.args.depth c.skip_white-first.ensures c.stands.ensures c.if-stands.false c.requires.1 c.in_ok-end.ensures c.filled.ensures

pub value-read_literal-requires : goal.value-read_literal-requires
value-read_literal-requires t c = omega (arith, c.in-Literal.ensures.room, c.requires)

pub value-read_number-requires : goal.value-read_number-requires
value-read_number-requires t c = omega (arith, c.in-Minus.ensures.room, c.requires)

pub value-read_number-requires-in-Digit : goal.value-read_number-requires-in-Digit
value-read_number-requires-in-Digit t c = omega (arith, c.in-Digit.ensures.room, c.requires)

pub value-read_string-requires : goal.value-read_string-requires
value-read_string-requires t c = omega (arith, c.in-Quote.ensures.room, c.requires)

pub value-array-requires : goal.value-array-requires
value-array-requires t c = omega (arith, c.in-Bracket.ensures.room, c.requires)

pub value-object-requires : goal.value-object-requires
value-object-requires t c = omega (arith, c.in-Brace.ensures.room, c.requires)

pub value-returns-in-NoValue : goal.value-returns-in-NoValue
value-returns-in-NoValue t c = law_none c.in-NoValue.ensures

pub value-returns-in-TooMuch : goal.value-returns-in-TooMuch
value-returns-in-TooMuch t c = law_much c.in-TooMuch.ensures

pub value-returns-in-Literal : goal.value-returns-in-Literal
value-returns-in-Literal t c = law_word c.in-Literal.ensures c.read_literal.ensures

pub value-returns-in-Minus : goal.value-returns-in-Minus
value-returns-in-Minus t c = law_minus c.in-Minus.ensures c.read_number.ensures

pub value-returns-in-Digit : goal.value-returns-in-Digit
value-returns-in-Digit t c = law_digit c.in-Digit.ensures c.read_number-in-Digit.ensures

pub value-returns-in-Quote : goal.value-returns-in-Quote
value-returns-in-Quote t c = law_quote c.in-Quote.ensures c.read_string.ensures

pub value-returns-in-Bracket : goal.value-returns-in-Bracket
value-returns-in-Bracket t c = law_bracket c.in-Bracket.ensures c.array.ensures

pub value-returns-in-Brace : goal.value-returns-in-Brace
value-returns-in-Brace t c = law_brace c.in-Brace.ensures c.object.ensures
