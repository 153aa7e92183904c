-- Output: what comes back from writing into an output area, and its last bytes, for every outcome.
use Rattle.std.specs.Prelude.{ℕ, length, replicate}
use Rattle.model.specs.Bytes.{Bytes}
use Rattle.model.specs.Judgement.{Judged, done, refuses, judged_number, written_within}
use Rattle.model.specs.Value.{Value}
use Rattle.syntax.specs.Layout.{padded}

pub record WriteAnswer : Type 0 where
  pub refusal : ℕ
  pub size : ℕ
  pub output : Bytes

-- The length of a text; a refusal tells none.
abbrev pub written_size : Judged Bytes → ℕ
written_size (done t) = length t
written_size (refuses e) = 0

-- "Every other refusal leaves all work areas and the output area zero. After success .. the output holds the text, and every unused byte is zero."
abbrev pub written_output : Judged Bytes → ℕ → Bytes
written_output (done t) room = padded room t
written_output (refuses e) room = replicate room 0

abbrev pub write_into : Judged Bytes → ℕ → WriteAnswer
write_into r room = record { refusal = judged_number r; size = written_size r; output = written_output r room }

-- A value into an output of some bytes: its text, 11 or 12.
abbrev pub value_written : Value → ℕ → WriteAnswer
value_written v room = write_into (written_within room v) room
