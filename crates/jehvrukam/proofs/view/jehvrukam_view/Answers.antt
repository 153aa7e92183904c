use mathlib.Core.Path.{refl, sym, ap}
use Rattle.std.specs.Prelude.{Some}
use Prim.Native.Nat.{ℕ}
use Rattle.viewer.specs.Answer.{seen_of}
use Rattle.jehvrukam.specs.Contract.{seen}
use Rattle.jehvrukam.proofs.Viewing.{tells_none, tells_some}
use Rattle.jehvrukam.proofs.view.jehvrukam_view.Goals as goal

pub returns-in_default : goal.returns-in_default
returns-in_default c = tells_none seen_of c.row_at.ensures c.in_default.is refl

pub returns : goal.returns
returns c =
    tells_some seen_of c.row_at.ensures c.in-Some.is _ (ap (λ (n : ℕ). Some (seen c.in-Some.r.kind n)) (sym c.count_of.ensures))
