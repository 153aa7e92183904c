-- Demand1: of demand 1, that what an entry leaves is fixed: of what the lent areas and the numbers held before the call, nothing but the lengths of the
-- areas plays a part. That every entry ends, with an answer or a refusal of 01's table, is said by the contracts: each is an equation with a definition,
-- and a definition gives one answer for all bytes. Statements only; the proofs are in Laws.Lengths.
use Rattle.std.specs.Prelude.{◌≡◌, ℕ, ℤ, length}
use Rattle.model.specs.Bytes.{Bytes}
use Rattle.syntax.specs.Entry.{read_entry}
use Rattle.table.specs.declared.row.Span.{Span}
use Rattle.viewer.specs.Answer.{Seen, seen_of, name_of, integer_of, string_of}
use Rattle.viewer.specs.View.{row_seen, part_seen}
use Rattle.jehvrukam.specs.Check.{CheckAreas, CheckNumbers, check_entry}
use Rattle.jehvrukam.specs.Evaluate.{Areas, Numbers, evaluate_entry}
use Rattle.jehvrukam.specs.EvaluateChecked.{CheckedAreas, CheckedNumbers, evaluate_checked_entry}
use Rattle.jehvrukam.specs.Fits.{FitsAreas, FitsNumbers, fits_entry}
use Rattle.jehvrukam.specs.View.{view_entry, view_part_entry, view_integer_entry, view_string_entry, view_name_entry}
use Rattle.promises.specs.Lengths.{SameCheck, SameFits, SameEvaluate, SameChecked, SameEntry, SameReading, SameTold}
use Rattle.promises.specs.Laws.Lengths as LengthsLaws

-- `jehvrukam_read`: areas of the same lengths, any place before; the refusal is the same, and unless it is 1, so is all that comes back.
pub read_lengths :
    (text T T' A A' : Bytes) (place place' : ℕ)
    → length T ≡ length T'
    → length A ≡ length A'
    → SameReading (read_entry text T A place) (read_entry text T' A' place')
read_lengths = LengthsLaws.read_lengths

-- `jehvrukam_check`: areas of the same lengths, any numbers before; so again.
pub check_lengths : (rule sheet : Bytes) (a b : CheckAreas) (m n : CheckNumbers) → SameCheck a b → SameEntry (check_entry rule sheet a m) (check_entry rule sheet b n)
check_lengths = LengthsLaws.check_lengths

-- `jehvrukam_fits`: the same.
pub fits_lengths : (sheet record' : Bytes) (a b : FitsAreas) (m n : FitsNumbers) → SameFits a b → SameEntry (fits_entry sheet record' a m) (fits_entry sheet record' b n)
fits_lengths = LengthsLaws.fits_lengths

-- `jehvrukam_evaluate`: the same, the output's length among the lengths.
pub evaluate_lengths :
    (rule record' : Bytes) (limit : ℕ) (a b : Areas) (m n : Numbers)
    → SameEvaluate a b
    → SameEntry (evaluate_entry rule record' limit a m) (evaluate_entry rule record' limit b n)
evaluate_lengths = LengthsLaws.evaluate_lengths

-- `jehvrukam_evaluate_checked`: the same.
pub evaluate_checked_lengths :
    (rule sheet record' : Bytes) (limit : ℕ) (a b : CheckedAreas) (m n : CheckedNumbers)
    → SameChecked a b
    → SameEntry (evaluate_checked_entry rule sheet record' limit a m) (evaluate_checked_entry rule sheet record' limit b n)
evaluate_checked_lengths = LengthsLaws.evaluate_checked_lengths

-- `jehvrukam_view`, `jehvrukam_view_part`, `jehvrukam_view_integer`, `jehvrukam_view_string`, `jehvrukam_view_name`: on the same table, whatever the numbers
-- held, the refusal is the same, and unless it is 1, so are the numbers.
pub view_numbers : (T : Bytes) (place : ℕ) (m n : Seen) → SameTold (view_entry T place m) (view_entry T place n)
view_numbers T place = LengthsLaws.told_numbers (seen_of (row_seen T place))

pub view_part_numbers : (T : Bytes) (place nth m n : ℕ) → SameTold (view_part_entry T place nth m) (view_part_entry T place nth n)
view_part_numbers T place nth = LengthsLaws.told_numbers (part_seen T place nth)

pub view_integer_numbers : (T : Bytes) (place : ℕ) (m n : ℤ) → SameTold (view_integer_entry T place m) (view_integer_entry T place n)
view_integer_numbers T place = LengthsLaws.told_numbers (integer_of (row_seen T place))

pub view_string_numbers : (T : Bytes) (place : ℕ) (m n : Span) → SameTold (view_string_entry T place m) (view_string_entry T place n)
view_string_numbers T place = LengthsLaws.told_numbers (string_of (row_seen T place))

pub view_name_numbers : (T : Bytes) (place : ℕ) (m n : Span) → SameTold (view_name_entry T place m) (view_name_entry T place n)
view_name_numbers T place = LengthsLaws.told_numbers (name_of (row_seen T place))
