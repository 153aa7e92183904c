-- View: what comes back from the entries of the viewer. The table is only looked at; it may have any length and hold any bytes.
use Rattle.std.specs.Prelude.{Option, None, Some}
use Rattle.std.specs.Prelude.{ℕ, ℤ}
use Rattle.model.specs.Bytes.{Bytes}
use Rattle.model.specs.Refusal.{number}
use Rattle.model.specs.declared.refusal.Refusal.TheVariants.{InvalidArgument}
use Rattle.table.specs.declared.row.Span.{Span}
use Rattle.viewer.specs.Answer.{Seen, seen_of, name_of, integer_of, string_of}
use Rattle.viewer.specs.View.{row_seen, part_seen}

-- A refusal's number, or 0; the numbers that are told.
pub record Told (N : Type 0) : Type 0 where
  pub refusal : ℕ
  pub numbers : N

-- 01, Reading: "A place or number that is not there, or a row that has not the form described in docs/, gives refusal 1." It touches nothing.
abbrev pub told_or : {N : Type 0} → N → Option N → Told N
told_or n None = record { refusal = number InvalidArgument; numbers = n }
told_or n (Some m) = record { refusal = 0; numbers = m }

-- `jehvrukam_view`: kind and count.
abbrev pub view_entry : Bytes → ℕ → Seen → Told Seen
view_entry table place n = told_or n (seen_of (row_seen table place))

-- `jehvrukam_view_part`: the place of the nth item or member's content, from 0.
abbrev pub view_part_entry : Bytes → ℕ → ℕ → ℕ → Told ℕ
view_part_entry table place nth n = told_or n (part_seen table place nth)

-- `jehvrukam_view_integer`, `jehvrukam_view_string`: of a row of that kind only.
abbrev pub view_integer_entry : Bytes → ℕ → ℤ → Told ℤ
view_integer_entry table place n = told_or n (integer_of (row_seen table place))

abbrev pub view_string_entry : Bytes → ℕ → Span → Told Span
view_string_entry table place n = told_or n (string_of (row_seen table place))

-- `jehvrukam_view_name`
abbrev pub view_name_entry : Bytes → ℕ → Span → Told Span
view_name_entry table place n = told_or n (name_of (row_seen table place))
