use Rattle.std.proofs.Common.{◌∙◌, arith, length}
use Rattle.model.specs.Bytes.{ascii}
use Rattle.model.specs.Shape.{keywords}
use Rattle.keywords.specs.Laws.Keyed.{first, keyed, by_length, not_keyed}
use Rattle.keywords.proofs.of_six_bytes.Goals as goal

pub returns-in_default : goal.returns-in_default
returns-in_default c =
    let s = c.args.name.now in
    not_keyed first (ascii "br") s (keyed length 6 keywords) tt ((tt, λ e. omega arith), λ e. omega arith) ∙ by_length 6 s c.requires
