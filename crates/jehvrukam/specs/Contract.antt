-- Contract: the answers of the entries, as the records of the definitions.
use Rattle.std.specs.Prelude.{ℕ}
use Rattle.model.specs.Bytes.{Bytes}
use Rattle.syntax.specs.Entry.{ReadAnswer}
use Rattle.pipeline.specs.Areas.{text_areas}
use Rattle.table.specs.declared.row.Span.{Span}
use Rattle.viewer.specs.Answer.{Seen}
use Rattle.jehvrukam.specs.Check.{CheckAreas, CheckNumbers}
use Rattle.jehvrukam.specs.Entry.{Entry, work_areas}
use Rattle.jehvrukam.specs.Evaluate.{Areas, Numbers}
use Rattle.jehvrukam.specs.EvaluateChecked.{CheckedAreas, CheckedNumbers}
use Rattle.jehvrukam.specs.Fits.{FitsAreas, FitsNumbers}
use Rattle.jehvrukam.specs.View.{Told}

abbrev pub answered : ℕ → ℕ → Bytes → Bytes → ReadAnswer
answered refusal place table strings = record { refusal = refusal; place = place; table = table; strings = strings }

abbrev pub entry : {N A : Type 0} → ℕ → N → A → Entry N A
entry refusal n a = record { refusal = refusal; numbers = n; areas = a }

-- The lent areas and the numbers, before or after a call: of `jehvrukam_evaluate`,
abbrev pub areas_of : Bytes → Bytes → Bytes → Bytes → Bytes → Bytes → Areas
areas_of T A R B C O = record { rule = text_areas T A; «record» = text_areas R B; work = work_areas C O }

abbrev pub numbers_of : ℕ → ℕ → ℕ → ℕ → Numbers
numbers_of which place steps size = record { which = which; place = place; steps = steps; size = size }

-- of `jehvrukam_check`,
abbrev pub check_areas_of : Bytes → Bytes → Bytes → Bytes → CheckAreas
check_areas_of T A S Z = record { rule = text_areas T A; sheet = text_areas S Z }

abbrev pub check_numbers_of : ℕ → ℕ → ℕ → CheckNumbers
check_numbers_of which place words = record { which = which; place = place; words = words }

-- of `jehvrukam_fits`,
abbrev pub fits_areas_of : Bytes → Bytes → Bytes → Bytes → FitsAreas
fits_areas_of S Z R B = record { sheet = text_areas S Z; «record» = text_areas R B }

abbrev pub fits_numbers_of : ℕ → ℕ → ℕ → FitsNumbers
fits_numbers_of which place fit = record { which = which; place = place; fit = fit }

-- of `jehvrukam_evaluate_checked`.
abbrev pub checked_areas_of : Bytes → Bytes → Bytes → Bytes → Bytes → Bytes → Bytes → Bytes → CheckedAreas
checked_areas_of T A S Z R B C O = record { rule = text_areas T A; sheet = text_areas S Z; «record» = text_areas R B; work = work_areas C O }

abbrev pub checked_numbers_of : ℕ → ℕ → ℕ → ℕ → ℕ → ℕ → CheckedNumbers
checked_numbers_of which place words fit steps size = record { which = which; place = place; words = words; fit = fit; steps = steps; size = size }

-- The answers of the viewer's entries.
abbrev pub told : {N : Type 0} → ℕ → N → Told N
told refusal n = record { refusal = refusal; numbers = n }

abbrev pub seen : ℕ → ℕ → Seen
seen kind count = record { kind = kind; count = count }

abbrev pub span : ℕ → ℕ → Span
span start size = record { start = start; size = size }
