-- Cases: what the program counts, from the bytes of the file. A case is a line of a name and nine numbers (the limit, the room of the output,
-- the refusal, which text and its place, the steps, the sizes of the rule, the record and the answer), then these three texts, and a line end.
use Rattle.std.specs.Prelude.{Bool, false, ◌&&◌, cond, [], ◌∷◌, ℕ, zero, suc, ◌+◌, ◌*◌, ◌-◌, ◌^◌, eqb, ltb, leb, length, take, drop, replicate}
use Rattle.model.specs.Bytes.{Bytes, byte, is_digit, digit_value, same_bytes}
use Rattle.model.specs.Limits.{max_text_bytes}
use Rattle.syntax.specs.Layout.{table_bytes, strings_bytes}
use Rattle.jehvrukam.specs.Contract.{areas_of, numbers_of}
use Rattle.jehvrukam.specs.Entry.{cells_bytes}
use Rattle.jehvrukam.specs.Evaluate.{Areas, Numbers, Evaluated, evaluate_entry}
use Rattle.test_vectors.specs.declared.Number.{Number}
use Rattle.test_vectors.specs.declared.Header.{Header}
use Rattle.test_vectors.specs.declared.Case.{Case}
use Rattle.test_vectors.specs.declared.Tally.{Tally}

-- ---- a case's first line
-- Digits make a number as long as it fits 64 bits; the byte behind them parts it from what follows.
abbrev pub takes_digit : ℕ → ℕ → Bool
takes_digit n x = is_digit x && ltb (n * 10 + digit_value x) (2 ^ 64)

abbrev pub digits_from : ℕ → ℕ → Bytes → Number
digits_from n i [] = record { value = n; end = i }
digits_from n i (x ∷ s) = cond (takes_digit n x) (digits_from (n * 10 + digit_value x) (suc i) s) (record { value = n; end = suc i })

unfoldable pub number_at : Bytes → ℕ → Number
number_at s at = digits_from 0 at (drop at s)

-- Past the first such byte, or the end.
abbrev pub past_from : ℕ → ℕ → Bytes → ℕ
past_from b i [] = i
past_from b i (x ∷ s) = cond (eqb x b) (suc i) (past_from b (suc i) s)

unfoldable pub past_byte : Bytes → ℕ → ℕ → ℕ
past_byte s b at = past_from b at (drop at s)

unfoldable pub header_at : Bytes → ℕ → Header
header_at s at =
    let limit = number_at s (past_byte s (byte " ") at) in
    let room = number_at s limit.end in
    let refusal = number_at s room.end in
    let which = number_at s refusal.end in
    let place = number_at s which.end in
    let steps = number_at s place.end in
    let rule = number_at s steps.end in
    let record' = number_at s rule.end in
    let answer = number_at s record'.end in
    record {
      limit = limit.value;
      room = room.value;
      refusal = refusal.value;
      which = which.value;
      place = place.value;
      steps = steps.value;
      rule = rule.value;
      «record» = record'.value;
      answer = answer.value;
      end = answer.end;
    }

-- The file has so many bytes that the texts are whole.
abbrev pub is_whole : ℕ → Header → Bool
is_whole n h = leb (h.end + h.rule + h.«record» + h.answer) n

-- ---- whether the entry gives what a case expects
-- The work areas are lent as zeros of their stated sizes, the numbers as zeros.
abbrev pub lent : Bytes → Areas
lent output =
    areas_of (replicate table_bytes 0) (replicate strings_bytes 0) (replicate table_bytes 0) (replicate strings_bytes 0) (replicate cells_bytes 0) output

abbrev pub untold : Numbers
untold = numbers_of 0 0 0 0

abbrev pub is_expected : Header → ℕ → ℕ → ℕ → ℕ → Bool
is_expected h refusal which place steps =
    eqb refusal h.refusal && (eqb which h.which && (eqb place h.place && eqb steps h.steps))

abbrev pub is_text : Bytes → ℕ → Bytes → Bool
is_text output size text = eqb size (length text) && (leb (length text) (length output) && same_bytes (take (length text) output) text)

abbrev pub agrees_with : Header → Evaluated → Bytes → Bool
agrees_with h e answer =
    is_expected h e.refusal e.numbers.which e.numbers.place e.numbers.steps && is_text e.areas.work.output e.numbers.size answer

unfoldable pub agrees_in : Header → Bytes → Bytes → Bytes → Bytes → Bool
agrees_in h rule record' answer output = agrees_with h (evaluate_entry rule record' h.limit (lent output) untold) answer

-- An output has at most the bytes of the largest text.
unfoldable pub agrees_on : Header → Bytes → Bytes → Bytes → Bool
agrees_on h rule record' answer = leb h.room max_text_bytes && agrees_in h rule record' answer (replicate h.room 0)

-- ---- all cases
-- The bytes from one place to another.
abbrev pub part : ℕ → ℕ → Bytes → Bytes
part from to s = take (to - from) (drop from s)

-- The texts stand one behind the other.
abbrev pub whole_case : Bytes → Header → Case
whole_case s h =
    let rule = h.end + h.rule in
    let record' = rule + h.«record» in
    let answer = record' + h.answer in
    record { agrees = agrees_on h (part h.end rule s) (part rule record' s) (part record' answer s); end = past_byte s 10 answer }

abbrev pub case_from : Bytes → Header → Case
case_from s h = cond (is_whole (length s) h) (whole_case s h) (record { agrees = false; end = length s })

unfoldable pub case_at : Bytes → ℕ → Case
case_at s at = case_from s (header_at s at)

abbrev pub counted : Tally → Bool → Tally
counted t agrees = record { cases = t.cases + 1; differ = cond agrees t.differ (t.differ + 1) }

-- From a place on; the first argument is fuel, a bound of the cases.
unfoldable pub tally_from : ℕ → Bytes → ℕ → Tally → Tally
tally_from zero s at t = t
tally_from (suc k) s at t =
    let more = tally_from k s (case_at s at).end (counted t (case_at s at).agrees) in
    cond (ltb at (length s)) more t

unfoldable pub tally_of : Bytes → Tally
tally_of s = tally_from (length s) s 0 (record { cases = 0; differ = 0 })
