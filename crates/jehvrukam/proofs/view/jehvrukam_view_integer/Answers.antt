use Rattle.std.proofs.Common.{w64}
use borrow.Author.Rules.{rules, sfits_of}
use mathlib.Core.Path.{refl, sym, ap, ◌∙◌}
use Rattle.std.specs.Prelude.{Some}
use mir.Facts.{to_z-of_z}
use Rattle.viewer.specs.Answer.{integer_of}
use Rattle.jehvrukam.proofs.Viewing.{tells_none, tells_some, an_integer, tells_integer}
use Rattle.jehvrukam.proofs.view.jehvrukam_view_integer.Goals as goal

pub returns-in_default : goal.returns-in_default
returns-in_default c = tells_none integer_of c.row_at.ensures c.in_default.is refl

pub returns : goal.returns
returns c =
    let a = c.args in
    let e = to_z-of_z {w = w64} (sfits_of c.integer_of.type_inv) ∙ c.integer_of.ensures ∙ tells_integer a.table.now a.place _ (sym c.row_at.ensures ∙ c.in-Some.is) (search rules) in
    tells_some integer_of c.row_at.ensures c.in-Some.is _ (an_integer c.in-Some.r (search rules) ∙ ap Some (sym e))
