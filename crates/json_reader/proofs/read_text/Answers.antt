-- Each way out is a law of All.
use mathlib.Core.Path.{◌≡◌}
use Prim.Native.Nat.{◌≤◌}
use native.Mathlib.Omega.{arith}
use lib.ListN.{length}
use Rattle.std.specs.Prelude.{Err}
use Rattle.std.proofs.Common.{rules}
use Rattle.model.specs.Limits.{max_text_bytes}
use Rattle.json_reader.proofs.All.{law_long, law_fault, law_more, law_whole}
use Rattle.json_reader.proofs.read_text.Goals as goal

pub returns-then-text-gt-MAX_TEXT_BYTES : goal.returns-then-text-gt-MAX_TEXT_BYTES
unfolding max_text_bytes
returns-then-text-gt-MAX_TEXT_BYTES c = law_long c.if-text-gt-MAX_TEXT_BYTES.true

pub value-requires : goal.value-requires
unfolding max_text_bytes
value-requires c = let l : c.skip_white-at.result ≤ length c.args.text.now = c.skip_white-at.ensures.inside (omega arith) in omega (arith, c.requires)

pub returns-in_err-last : goal.returns-in_err-last
unfolding max_text_bytes
returns-in_err-last c =
    let e : c.from_residual.result ≡ Err c.in_err-last.field-0.0 = search rules in
    rw e (law_fault c.if-text-gt-MAX_TEXT_BYTES.false c.skip_white-at.ensures c.in_err-last.ensures)

pub returns-then-end-text : goal.returns-then-end-text
unfolding max_text_bytes
returns-then-end-text c = law_more c.if-text-gt-MAX_TEXT_BYTES.false c.skip_white-at.ensures c.in_ok-last.ensures c.skip_white-end.ensures c.if-end-text.true

pub returns : goal.returns
unfolding max_text_bytes
returns c = law_whole c.if-text-gt-MAX_TEXT_BYTES.false c.skip_white-at.ensures c.in_ok-last.ensures c.skip_white-end.ensures c.if-end-text.false
