-- Check: what comes back from `jehvrukam_check`.
use Rattle.std.specs.Prelude.{Bool, true, false, ◌||◌, ℕ}
use Rattle.model.specs.Bytes.{Bytes}
use Rattle.model.specs.Refusal.{number}
use Rattle.model.specs.Types.{type_bits}
use Rattle.pipeline.specs.Areas.{TextAreas, is_short, zeroed, holding}
use Rattle.pipeline.specs.Stage.{Stage, passed, refused}
use Rattle.pipeline.specs.Texts.{TextsChecked, check_stage}
use Rattle.jehvrukam.specs.Entry.{Entry, untouched}

pub record CheckAreas : Type 0 where
  pub rule : TextAreas
  pub sheet : TextAreas

-- Which text is refused, and its place; the types found, a bit for each.
pub record CheckNumbers : Type 0 where
  pub which : ℕ
  pub place : ℕ
  pub words : ℕ

-- Refusal 1: "a work area below its stated size".
abbrev pub is_check_invalid : CheckAreas → Bool
is_check_invalid a = is_short a.rule || is_short a.sheet

-- "Every other refusal leaves all work areas .. zero."
abbrev pub check_zeros : CheckAreas → CheckAreas
check_zeros a = record { rule = zeroed a.rule; sheet = zeroed a.sheet }

abbrev pub check_answer : CheckAreas → Stage TextsChecked → Entry CheckNumbers CheckAreas
check_answer a (refused e which place) = record { refusal = number e; numbers = record { which = which; place = place; words = 0 }; areas = check_zeros a }
check_answer a (passed c) = record {
  refusal = 0;
  numbers = record { which = 0; place = 0; words = type_bits c.types };
  areas = record { rule = holding c.rule.value a.rule; sheet = holding c.sheet.value a.sheet };
}

-- "Order ..: 1; rule read; 6; then sheet read, 14 and 13" (pipeline/Texts.antt: check_stage)
abbrev pub check_entry : Bytes → Bytes → CheckAreas → CheckNumbers → Entry CheckNumbers CheckAreas
check_entry rule sheet a n = elim (is_check_invalid a) [ true ↦ untouched n a | false ↦ check_answer a (check_stage rule sheet) ]
