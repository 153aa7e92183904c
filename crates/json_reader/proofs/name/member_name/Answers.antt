-- Each way out is a law of Names.
use mathlib.Core.Path.{◌≡◌}
use Rattle.std.specs.Prelude.{Err}
use Rattle.std.proofs.Common.{rules}
use native.Mathlib.Omega.{arith}
use Rattle.json_reader.proofs.Values.{string_end}
use Rattle.json_reader.proofs.Names.{law_no_name, law_name_chars, law_enter_room, law_repeated, law_no_colon, law_name}
use Rattle.json_reader.proofs.name.member_name.Goals as goal

pub returns-then-not-stands : goal.returns-then-not-stands
returns-then-not-stands c = law_no_name c.stands.ensures c.if-not-stands.true

pub returns-in_err-end : goal.returns-in_err-end
returns-in_err-end c =
    let e : c.from_residual.result ≡ Err c.in_err-end.field-0.0 = search rules in
    rw e (law_name_chars c.stands.ensures c.if-not-stands.false c.in_err-end.ensures)

pub overflow_sub-name : goal.overflow_sub-name
overflow_sub-name c = (string_end c.in_ok-end.ensures).1

pub enter-requires : goal.enter-requires
enter-requires c = law_enter_room c.stands.ensures c.if-not-stands.false c.in_ok-end.ensures c.requires

pub returns-then-enter : goal.returns-then-enter
returns-then-enter c = law_repeated c.stands.ensures c.if-not-stands.false c.in_ok-end.ensures c.requires c.enter.ensures c.if-enter.true

pub overflow_add-end : goal.overflow_add-end
overflow_add-end c = omega (arith, string_end c.in_ok-end.ensures)

pub returns-then-not-stands-2 : goal.returns-then-not-stands-2
returns-then-not-stands-2 c = law_no_colon c.stands.ensures c.if-not-stands.false c.in_ok-end.ensures c.requires c.enter.ensures c.if-enter.false c.skip_white-colon.ensures c.stands-2.ensures c.if-not-stands-2.true

pub returns : goal.returns
returns c = law_name c.stands.ensures c.if-not-stands.false c.in_ok-end.ensures c.requires c.enter.ensures c.if-enter.false c.skip_white-colon.ensures c.stands-2.ensures c.if-not-stands-2.false c.skip_white.ensures
