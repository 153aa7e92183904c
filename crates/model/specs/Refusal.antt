-- Refusal: document 01's table "What comes back" as data, and the number of each.
use Rattle.std.specs.Prelude.{ℕ}
-- Reading a text: 2, not an RFC 8259 text in UTF-8; 3, a name twice in one object, or a lone surrogate escape; 4, a fraction or exponent, or an integer
-- beyond the limit; 5, text, nesting or number of values beyond its limit.
use Rattle.model.specs.declared.refusal.ReadFault.{ReadFault}
use Rattle.model.specs.declared.refusal.ReadFault.TheVariants.{NotJson, RepeatedName, LoneSurrogate, BadNumber, TooLarge}
-- An operation on the values of its operands: 7, an operand of a wrong kind in evaluation; 8, a string that is no date text of the wanted forms; 9, a sum
-- beyond the limits of 4, or an instant outside its range.
use Rattle.model.specs.declared.refusal.Fault.{Fault}
use Rattle.model.specs.declared.refusal.Fault.TheVariants.{WrongKind, BadDate, OutOfRange}
-- Evaluation: 7 to 9; 10, one step more than the limit would be needed.
use Rattle.model.specs.declared.refusal.EvalFault.{EvalFault}
use Rattle.model.specs.declared.refusal.EvalFault.TheVariants.{Operation, OutOfSteps}
-- 1, a work area below its stated size, or a step limit above the largest; from the viewer, what is not there. 6, the text reads, but is not a rule.
-- 11, the answer nests too deep, has too many values, or its text is too long. 12, the answer's text is longer than the output area. 13, the kind check
-- does not pass. 14, the text reads, but is not a sheet.
use Rattle.model.specs.declared.refusal.Refusal.{Refusal}
use Rattle.model.specs.declared.refusal.Refusal.TheVariants.{InvalidArgument, Reading, NotRule, Evaluating, AnswerTooLarge, OutputTooShort, NotAccepted, NotSheet}

abbrev pub read_number : ReadFault → ℕ
read_number NotJson = 2
read_number RepeatedName = 3
read_number LoneSurrogate = 3
read_number BadNumber = 4
read_number TooLarge = 5

abbrev pub fault_number : Fault → ℕ
fault_number WrongKind = 7
fault_number BadDate = 8
fault_number OutOfRange = 9

abbrev pub eval_number : EvalFault → ℕ
eval_number (Operation f) = fault_number f
eval_number OutOfSteps = 10

-- The number of a refusal; 0 is "done".
abbrev pub number : Refusal → ℕ
number InvalidArgument = 1
number (Reading f) = read_number f
number NotRule = 6
number (Evaluating f) = eval_number f
number AnswerTooLarge = 11
number OutputTooShort = 12
number NotAccepted = 13
number NotSheet = 14
