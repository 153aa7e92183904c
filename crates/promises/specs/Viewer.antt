-- Viewer: what a host sees by the viewer of a text that was read. `ShowsText` (viewer/Shows.antt) is over what the entries of the viewer are defined by
-- (jehvrukam/View.antt). Statements only; the proofs are in Laws.Viewed.
use Rattle.std.specs.Prelude.{◌≡◌, ℕ}
use Rattle.model.specs.Bytes.{Bytes}
use Rattle.model.specs.Value.{Value}
use Rattle.syntax.specs.Entry.{read_entry}
use Rattle.viewer.specs.Main as Viewers
use Rattle.viewer.specs.Shows.{Shows}
use Rattle.jehvrukam.specs.Check.{CheckAreas, CheckNumbers, check_entry}
use Rattle.jehvrukam.specs.Evaluate.{Areas, Numbers, evaluate_entry}
use Rattle.jehvrukam.specs.EvaluateChecked.{CheckedAreas, CheckedNumbers, evaluate_checked_entry}
use Rattle.jehvrukam.specs.Fits.{FitsAreas, FitsNumbers, fits_entry}
use Rattle.promises.specs.Viewed.{ReadShown, TextShown}
use Rattle.promises.specs.Laws.Viewed as ViewedLaws

-- If `jehvrukam_read` gives 0, walking by the viewer from place 0 of its table sees the value that the text reads as, whole, and nothing else.
pub read_shown : (text T A : Bytes) (place : ℕ) → (read_entry text T A place).refusal ≡ 0 → ReadShown text (read_entry text T A place).table (read_entry text T A place).strings
read_shown = ViewedLaws.read_shown

-- If `jehvrukam_check` gives 0, so it is of the rule's areas and of the sheet's.
pub check_shown :
    (rule sheet : Bytes) (a : CheckAreas) (n : CheckNumbers)
    → (check_entry rule sheet a n).refusal ≡ 0
    → TextShown rule (check_entry rule sheet a n).areas.rule × TextShown sheet (check_entry rule sheet a n).areas.sheet
check_shown = ViewedLaws.check_shown

-- If `jehvrukam_fits` gives 0, of the sheet's and of the record's.
pub fits_shown :
    (sheet record' : Bytes) (a : FitsAreas) (n : FitsNumbers)
    → (fits_entry sheet record' a n).refusal ≡ 0
    → TextShown sheet (fits_entry sheet record' a n).areas.sheet × TextShown record' (fits_entry sheet record' a n).areas.«record»
fits_shown = ViewedLaws.fits_shown

-- If `jehvrukam_evaluate` gives 0, of the rule's and of the record's.
pub evaluate_shown :
    (rule record' : Bytes) (limit : ℕ) (a : Areas) (n : Numbers)
    → (evaluate_entry rule record' limit a n).refusal ≡ 0
    → TextShown rule (evaluate_entry rule record' limit a n).areas.rule × TextShown record' (evaluate_entry rule record' limit a n).areas.«record»
evaluate_shown = ViewedLaws.evaluate_shown

-- If `jehvrukam_evaluate_checked` gives 0, of all three.
pub evaluate_checked_shown :
    (rule sheet record' : Bytes) (limit : ℕ) (a : CheckedAreas) (n : CheckedNumbers)
    → (evaluate_checked_entry rule sheet record' limit a n).refusal ≡ 0
    → TextShown rule (evaluate_checked_entry rule sheet record' limit a n).areas.rule
    × TextShown sheet (evaluate_checked_entry rule sheet record' limit a n).areas.sheet
    × TextShown record' (evaluate_checked_entry rule sheet record' limit a n).areas.«record»
evaluate_checked_shown = ViewedLaws.evaluate_checked_shown

-- At a place of any table one value is seen at most.
pub one_shown : (T S : Bytes) (place : ℕ) (v w : Value) → Shows T S place v → Shows T S place w → v ≡ w
one_shown = Viewers.one_shown
