-- Fits: what comes back from `jehvrukam_fits`: "an entry answers yes or no to that".
use Rattle.std.specs.Prelude.{Bool, true, false, ◌||◌, cond, ℕ}
use Rattle.model.specs.Bytes.{Bytes}
use Rattle.model.specs.Refusal.{number}
use Rattle.model.specs.Sheet.{fits}
use Rattle.pipeline.specs.Areas.{TextAreas, is_short, zeroed, holding}
use Rattle.pipeline.specs.Stage.{Stage, passed, refused}
use Rattle.pipeline.specs.Texts.{TextsFitted, fits_stage}
use Rattle.jehvrukam.specs.Entry.{Entry, untouched}

pub record FitsAreas : Type 0 where
  pub sheet : TextAreas
  pub «record» : TextAreas

-- Which text is refused, and its place; 1 where the record fits, else 0.
pub record FitsNumbers : Type 0 where
  pub which : ℕ
  pub place : ℕ
  pub fit : ℕ

abbrev pub yes_or_no : Bool → ℕ
yes_or_no b = cond b 1 0

-- Refusal 1: "a work area below its stated size".
abbrev pub is_fits_invalid : FitsAreas → Bool
is_fits_invalid a = is_short a.sheet || is_short a.«record»

-- "Every other refusal leaves all work areas .. zero."
abbrev pub fits_zeros : FitsAreas → FitsAreas
fits_zeros a = record { sheet = zeroed a.sheet; «record» = zeroed a.«record» }

abbrev pub fits_answer : FitsAreas → Stage TextsFitted → Entry FitsNumbers FitsAreas
fits_answer a (refused e which place) = record { refusal = number e; numbers = record { which = which; place = place; fit = 0 }; areas = fits_zeros a }
fits_answer a (passed t) = record {
  refusal = 0;
  numbers = record { which = 0; place = 0; fit = yes_or_no (fits t.sheet.content t.«record») };
  areas = record { sheet = holding t.sheet.value a.sheet; «record» = holding t.«record» a.«record» };
}

-- "Order, for as much as an entry takes: 1; .. sheet read, 14 ..; record read" (pipeline/Texts.antt: fits_stage)
abbrev pub fits_entry : Bytes → Bytes → FitsAreas → FitsNumbers → Entry FitsNumbers FitsAreas
fits_entry sheet record' a n = elim (is_fits_invalid a) [ true ↦ untouched n a | false ↦ fits_answer a (fits_stage sheet record') ]
