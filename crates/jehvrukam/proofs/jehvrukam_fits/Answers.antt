use mathlib.Core.Path.{sym, ◌∙◌, refl}
use Rattle.jehvrukam.proofs.Settling.{told_as}
use Rattle.jehvrukam.proofs.TwoTexts.{fits_sheet_short, fits_record_short, fitted}
use Rattle.jehvrukam.proofs.jehvrukam_fits.Goals as goal

-- src/lib.rt:96:9
pub shape_of-sheet_table-then-is_short : goal.shape_of-sheet_table-then-is_short
shape_of-sheet_table-then-is_short c = refl

-- src/lib.rt:96:9
pub shape_of-sheet_strings-then-is_short : goal.shape_of-sheet_strings-then-is_short
shape_of-sheet_strings-then-is_short c = refl

-- src/lib.rt:96:9
pub returns-then-is_short : goal.returns-then-is_short
returns-then-is_short c = fits_sheet_short _ _ _ _ _ _ _ (sym c.is_short.ensures ∙ c.if-is_short.true)

-- src/lib.rt:99:9
pub shape_of-sheet_table-then-is_short-2 : goal.shape_of-sheet_table-then-is_short-2
shape_of-sheet_table-then-is_short-2 c = refl

-- src/lib.rt:99:9
pub shape_of-sheet_strings-then-is_short-2 : goal.shape_of-sheet_strings-then-is_short-2
shape_of-sheet_strings-then-is_short-2 c = refl

-- src/lib.rt:99:9
pub shape_of-record_table-then-is_short-2 : goal.shape_of-record_table-then-is_short-2
shape_of-record_table-then-is_short-2 c = refl

-- src/lib.rt:99:9
pub shape_of-record_strings-then-is_short-2 : goal.shape_of-record_strings-then-is_short-2
shape_of-record_strings-then-is_short-2 c = refl

-- src/lib.rt:99:9
pub returns-then-is_short-2 : goal.returns-then-is_short-2
returns-then-is_short-2 c = fits_record_short _ _ _ _ _ _ _ (sym c.is_short.ensures ∙ c.if-is_short.false) (sym c.is_short-2.ensures ∙ c.if-is_short-2.true)

-- src/lib.rt:81:1
pub shape_of-sheet_table : goal.shape_of-sheet_table
shape_of-sheet_table c = c.settle_text.auto.table ∙ c.fit_texts-fitted.auto.sheet_table

-- src/lib.rt:81:1
pub shape_of-sheet_strings : goal.shape_of-sheet_strings
shape_of-sheet_strings c = c.settle_text.auto.strings ∙ c.fit_texts-fitted.auto.sheet_strings

-- src/lib.rt:81:1
pub shape_of-record_table : goal.shape_of-record_table
shape_of-record_table c = c.settle_text-2.auto.table ∙ c.fit_texts-fitted.auto.record_table

-- src/lib.rt:81:1
pub shape_of-record_strings : goal.shape_of-record_strings
shape_of-record_strings c = c.settle_text-2.auto.strings ∙ c.fit_texts-fitted.auto.record_strings

-- src/lib.rt:81:1
pub returns : goal.returns
returns c = fitted _ _ _ _ _ _ _ (sym c.is_short.ensures ∙ c.if-is_short.false) (sym c.is_short-2.ensures ∙ c.if-is_short-2.false) c.told-f.ensures c.fit_texts-fitted.ensures (record { first = c.fit_texts-fitted.auto.sheet_table; second = c.fit_texts-fitted.auto.sheet_strings }) (record { first = c.fit_texts-fitted.auto.record_table; second = c.fit_texts-fitted.auto.record_strings }) c.settle_text.ensures c.settle_text-2.ensures (c.from.ensures ∙ told_as _)
