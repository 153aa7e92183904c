-- Contract: what writing the value of a handle gives, and what the writer's answer says, in 01's numbers.
use Rattle.std.specs.Prelude.{Result, Ok, Err, ℕ}
use Rattle.model.specs.Bytes.{Bytes}
use Rattle.model.specs.Limits.{max_nesting}
use Rattle.model.specs.Refusal.{number}
use Rattle.model.specs.declared.refusal.Refusal.{Refusal}
use Rattle.model.specs.declared.refusal.Refusal.TheVariants as refusals
use Rattle.syntax.specs.Output.{WriteAnswer, value_written}
use Rattle.heap.specs.declared.handle.Handle.{Handle}
use Rattle.heap.specs.Unfold.{Areas, unfolded}
use Rattle.writer.specs.declared.WriteFault.{WriteFault}
use Rattle.writer.specs.declared.WriteFault.TheVariants.{TooLarge, OutputTooShort}

-- The whole answer, for an output of some bytes: the text, 11 or 12 of the value that the handle stands for. It is unfolded as deep as an answer may nest:
-- what nests deeper still does, and is 11. Of a handle that means a value, it is the answer of that value (heap/Main.antt: written).
abbrev pub handle_written : Areas → Handle → ℕ → WriteAnswer
handle_written a h room = value_written (unfolded a max_nesting h) room

-- The refusal that a fault is.
abbrev pub refusal_of : WriteFault → Refusal
refusal_of TooLarge = refusals.AnswerTooLarge
refusal_of OutputTooShort = refusals.OutputTooShort

-- 0 is "done"; a refusal tells no length.
abbrev pub answer_number : Result ℕ WriteFault → ℕ
answer_number (Ok n) = 0
answer_number (Err f) = number (refusal_of f)

abbrev pub answer_length : Result ℕ WriteFault → ℕ
answer_length (Ok n) = n
answer_length (Err f) = 0

-- An answer, with what the output holds in the end.
abbrev pub answered : Result ℕ WriteFault → Bytes → WriteAnswer
answered r output = record { refusal = answer_number r; size = answer_length r; output = output }
