use mathlib.Core.Path.{sym, ◌∙◌}
use Rattle.scan.proofs.Numerals.{rest_whole, ending_end, ending_whole}
use Rattle.scan.proofs.number.ended.Goals.{else-at-text-via-then-at-text+else-is_part, else-at-text-via-else-at-text}
use Rattle.scan.proofs.number.ended.Goals as goal

pub returns : goal.returns
returns c =
    rest_whole (elim c.else-at-text.branch [
      | else-at-text-via-then-at-text+else-is_part w ↦ ending_whole _ _ _ _ w.if-at-text.true (sym w.is_part.ensures ∙ w.if-is_part.false)
      | else-at-text-via-else-at-text w ↦ ending_end _ _ _ _ w.if-at-text.false
    ]) c.requires.0 c.signed.ensures
