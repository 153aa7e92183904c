use mathlib.Core.List.{[], ◌∷◌}
use Rattle.model.specs.declared.Ty.TheVariants as Ty
use Rattle.type_check.proofs.Operations.{passed}
use Rattle.type_check.proofs.operation.array_types.Goals as goal

pub returns-then-passes : goal.returns-then-passes
returns-then-passes c = rw (passed (Ty.Integer ∷ []) c.args.items c.only.ensures c.passes.ensures, c.if-passes.true, c.only-then-passes.ensures)

pub returns-then-passes-2 : goal.returns-then-passes-2
returns-then-passes-2 c = rw (passed (Ty.Integer ∷ []) c.args.items c.only.ensures c.passes.ensures, c.if-passes.false, passed (Ty.String ∷ []) c.args.items c.only-2.ensures c.passes-2.ensures, c.if-passes-2.true, c.only-then-passes-2.ensures)

pub returns : goal.returns
returns c = rw (passed (Ty.Integer ∷ []) c.args.items c.only.ensures c.passes.ensures, c.if-passes.false, passed (Ty.String ∷ []) c.args.items c.only-2.ensures c.passes-2.ensures, c.if-passes-2.false, c.only-3.ensures)
