-- View: the operands of a view are its only ones, and lie a nesting deeper.
use Rattle.std.specs.Prelude.{◌≡◌, refl}
use Rattle.table.specs.declared.node.Rows.{Rows}
use Rattle.rule.specs.declared.view.View.{View}
use Rattle.rule.specs.Contract.{Has, has_if, has_and, has_reduce, has_apply, nested}

pub has_one : {w : View} {q q' : Rows} → Has w q → Has w q' → q ≡ q'
has_one has_if has_if = refl
has_one has_and has_and = refl
has_one has_reduce has_reduce = refl
has_one has_apply has_apply = refl

pub has_nested : {w : View} {q : Rows} → Has w q → nested w ≡ 1
has_nested has_if = refl
has_nested has_and = refl
has_nested has_reduce = refl
has_nested has_apply = refl
