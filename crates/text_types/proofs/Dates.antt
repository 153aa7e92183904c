-- Dates: what a date text's answer tells.
use Rattle.std.specs.Prelude.{◌≡◌, refl, ℤ, Result as Answer, Ok, Err}
use Rattle.std.specs.Result.{is_ok as code_ok}
use Rattle.std.proofs.Common.{ap, ◌∙◌}
use Rattle.model.specs.Result.{Result, is_ok}
use Rattle.calendar.specs.Contract.{date_result}
use Rattle.calendar.specs.declared.instant.DateFault.{DateFault}
use Rattle.calendar.specs.declared.instant.Instant.{Instant}

pub told : (r : Answer Instant DateFault) {x : Result ℤ} → date_result r ≡ x → code_ok r ≡ is_ok x
told r e = same r ∙ ap is_ok e
  where
    same : (r : Answer Instant DateFault) → code_ok r ≡ is_ok (date_result r)
    same (Ok t) = refl
    same (Err f) = refl
