use Rattle.std.proofs.Common.{◌∙◌, arith, length}
use Rattle.model.specs.Bytes.{ascii, byte}
use Rattle.model.specs.Shape.{keywords}
use Rattle.keywords.specs.Laws.Keyed.{first, keyed, by_length, by_first, not_keyed}
use Rattle.keywords.proofs.of_three_bytes.Goals as goal

pub returns-in-97 : goal.returns-in-97
returns-in-97 c = c.spelled-in-97.ensures ∙ by_first 3 (byte "a") c.args.name.now c.requires c.in-97.is

pub returns-in_default : goal.returns-in_default
returns-in_default c =
    let s = c.args.name.now in
    not_keyed first (ascii "a=v") s (keyed length 3 keywords) tt (((tt, λ e. omega arith), λ e. omega arith), λ e. omega arith) ∙ by_length 3 s c.requires
