-- Contract: what the entry answers, as numbers and bytes.
use Rattle.std.specs.Prelude.{ℕ}
use Rattle.model.specs.Bytes.{Bytes}
use Rattle.syntax.specs.Output.{WriteAnswer}

abbrev pub told : ℕ → ℕ → Bytes → WriteAnswer
told refusal size output = record { refusal = refusal; size = size; output = output }
