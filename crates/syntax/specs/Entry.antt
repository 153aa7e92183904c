-- Entry: what comes back from reading a text into two lent areas, and the last bytes of each, for every outcome.
use Rattle.std.specs.Prelude.{Bool, true, false, ◌||◌, ℕ, ltb, length, replicate}
use Rattle.model.specs.Bytes.{Bytes}
use Rattle.model.specs.Refusal.{number}
use Rattle.model.specs.declared.refusal.Refusal.TheVariants.{InvalidArgument, Reading}
use Rattle.syntax.specs.Layout.{table_bytes, strings_bytes, table_of, strings_area_of}
use Rattle.syntax.specs.Read.{Read, done, refuse, read}

pub record ReadAnswer : Type 0 where
  pub refusal : ℕ
  pub place : ℕ
  pub table : Bytes
  pub strings : Bytes

-- Refusal 1: "a work area below its stated size".
abbrev pub too_short : Bytes → Bytes → Bool
too_short table strings = ltb (length table) table_bytes || ltb (length strings) strings_bytes

-- "Every other refusal leaves all work areas .. zero. After success the areas hold the read form .., and every unused byte is zero."
abbrev pub read_into : Read → ℕ → ℕ → ReadAnswer
read_into (done v) tableLength stringsLength =
    record { refusal = 0; place = 0; table = table_of v tableLength; strings = strings_area_of v stringsLength }
read_into (refuse k p) tableLength stringsLength =
    record { refusal = number (Reading k); place = p; table = replicate tableLength 0; strings = replicate stringsLength 0 }

-- "Refusal 1 touches nothing."
abbrev pub read_entry : Bytes → Bytes → Bytes → ℕ → ReadAnswer
read_entry text table strings place =
    elim (too_short table strings) [
      | true ↦ record { refusal = number InvalidArgument; place = place; table = table; strings = strings }
      | false ↦ read_into (read text) (length table) (length strings)
    ]
