-- ReadsBack: that a text is the answer's, and reads back.
use Rattle.std.specs.Prelude.{◌≡◌, ℕ, T}
use Rattle.model.specs.Bytes.{Bytes}
use Rattle.model.specs.Eval.{run, value, outcome}
use Rattle.model.specs.Rule.{Rule}
use Rattle.model.specs.Textual.{textual}
use Rattle.model.specs.Value.{Value, instant_free}
use Rattle.model.specs.Writing.{value_text}
use Rattle.syntax.specs.Read.{done, read}

-- The text t is that of the value in which the rule, evaluated on the record, ends; it reads as this value, with the text of each date-time in its place,
-- and so as the value itself where it holds none.
pub record ReadsBack (r : Rule) (record' : Value) (limit : ℕ) (t : Bytes) : Type 0 where
  pub answer : Value
  pub ends : outcome (run r record' limit) ≡ value answer
  pub is_text_lem : t ≡ value_text answer
  pub reads : read t ≡ done (textual answer)
  pub reads_back : T (instant_free answer) → read t ≡ done answer
