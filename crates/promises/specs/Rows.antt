-- Rows: document 01's table "Both sides of the line", its rows marked *, as one statement from bytes about `jehvrukam_evaluate`. Statements only; the proofs
-- are in Laws.Rows.
use Rattle.std.specs.Prelude.{false, ◌≡◌, ℕ, length}
use Prim.Native.String.{String}
use Rattle.model.specs.Bytes.{ascii}
use Rattle.model.specs.Limits.{max_steps, max_text_bytes}
use Rattle.syntax.specs.Layout.{padded}
use Rattle.jehvrukam.specs.Evaluate.{Areas, Numbers, Evaluated, is_invalid, evaluate_entry}

-- The areas are at least as long as stated, the limit is a valid one, and the output has 16,384 bytes. What they hold, and the numbers, may be anything.
pub record Lent (limit : ℕ) (a : Areas) : Type 0 where
  pub valid : is_invalid limit a ≡ false
  pub output : length a.work.output ≡ max_text_bytes

-- "(record `{"a":1}`)"
abbrev pub called : String → ℕ → Areas → Numbers → Evaluated
called rule limit a n = evaluate_entry (ascii rule) (ascii "{\"a\":1}") limit a n

abbrev pub reduce_text : String
reduce_text = "{\"reduce\":[[1,2,3],{\"+\":[{\"var\":\"current\"},{\"var\":\"accumulator\"}]},0]}"

-- What comes back: the refusal, every number, and the bytes of the output, a text and zeros after it.
pub record Comes (e : Evaluated) (refusal which place steps size : ℕ) (text : String) : Type 0 where
  pub refusal_is : e.refusal ≡ refusal
  pub which_is : e.numbers.which ≡ which
  pub place_is : e.numbers.place ≡ place
  pub steps_are : e.numbers.steps ≡ steps
  pub length_is : e.numbers.size ≡ size
  pub output_is : e.areas.work.output ≡ padded max_text_bytes (ascii text)

-- Refusal, which, place, steps, length, output.
pub record StarredRows (a : Areas) (n : Numbers) : Type 0 where
  pub equal : Comes (called "{\"===\":[{\"var\":\"a\"},1]}" max_steps a n) 0 0 0 3 4 "true"
  pub first_falsy : Comes (called "{\"and\":[0,{\"+\":[\"a\",1]}]}" max_steps a n) 0 0 0 2 1 "0"
  pub not_empty : Comes (called "{\"!\":[[]]}" max_steps a n) 0 0 0 2 4 "true"
  pub third_kind : Comes (called "{\">\":[3,2,\"x\"]}" max_steps a n) 7 0 0 4 0 ""
  pub past_limit : Comes (called "{\"+\":[9007199254740991,1]}" max_steps a n) 9 0 0 3 0 ""
  pub reduce : Comes (called reduce_text max_steps a n) 0 0 0 15 1 "6"
  pub month : Comes (called "{\"plusTime\":[\"2020-01-31\",1,\"month\"]}" max_steps a n) 0 0 0 2 26 "\"2020-03-02T00:00:00.000Z\""
  pub year : Comes (called "{\"plusTime\":[\"2020-02-29\",1,\"year\"]}" max_steps a n) 0 0 0 2 26 "\"2021-03-01T00:00:00.000Z\""
  pub uvci : Comes (called "{\"extractFromUVCI\":[\"URN:UVCI\",0]}" max_steps a n) 0 0 0 2 4 "null"
