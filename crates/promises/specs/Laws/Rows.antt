-- Rows: the starred rows, from the bytes of the texts: what they read as, and what the model says of that (model/Laws/Rows.antt).
use Rattle.std.specs.Prelude.{[], ◌∷◌, ◌≡◌, refl, ℕ, length, replicate}
use Rattle.std.specs.Prelude.{Some}
use Rattle.std.proofs.Common.{sym, ap, subst, ◌∙◌}
use Prim.Native.String.{String}
use Rattle.model.specs.Bytes.{Bytes, ascii}
use Rattle.model.specs.Judgement.{Judged, done, refuses, judged_number, Answer, answer_of}
use Rattle.model.proofs.Laws.Option.{bind_some}
use Rattle.model.proofs.Laws.Rows as rows
use Rattle.model.proofs.Laws.Rows.{arr, op, str, var, int, row_record, reduce_rule}
use Rattle.model.specs.Limits.{max_text_bytes, max_values, max_nesting, max_integer, max_steps}
use Rattle.model.specs.declared.refusal.Fault.TheVariants.{WrongKind, OutOfRange}
use Rattle.model.specs.declared.refusal.EvalFault.TheVariants.{Operation, OutOfSteps}
use Rattle.model.specs.declared.refusal.Refusal.{Refusal}
use Rattle.model.specs.declared.refusal.Refusal.TheVariants.{Evaluating}
use Rattle.model.specs.Rule.{Rule}
use Rattle.model.specs.Shape.{shape}
use Rattle.model.specs.Size.{value_count}
use Rattle.model.specs.Value.{Value}
use Rattle.syntax.specs.Layout.{padded}
use Rattle.syntax.specs.Output.{written_size, written_output}
use Rattle.syntax.specs.Read as readings
use Rattle.syntax.specs.Read.{then, ◌>>=◌, give, fail, if, peek, eat, white, expect, literal, signed, is_part, end_number, digits, after_zero, first_digit, int as integers, tails, on_hex, hexes, on_escape, escape, on_lead, char, on_piece, on_unit, or_lone, lone, grow, chars, quoted, among, name, on_start, on_separator, value, ended, text, answer, read}
use Rattle.syntax.specs.Tokens.{within, is_white, is_digit, is_point, is_e, counted, nested, start_of, separator_of, escape_of, hex_of}
use Rattle.syntax.specs.Utf8.{utf8, lead_of, unit_of, pair_of}
use Rattle.pipeline.specs.Stage.{passed}
use Rattle.pipeline.specs.Texts.{TextsRead, evaluate_stage}
use Rattle.jehvrukam.specs.Evaluate.{Areas, Numbers, Evaluated, answered, evaluate_answer, evaluate_entry}
use Rattle.promises.specs.Rows.{Lent, called, reduce_text, Comes, StarredRows}

-- ---- an answer of the model's, as an entry tells it
record Tells (x : Answer) (e : Evaluated) : Type 0 where
  refusal : e.refusal ≡ judged_number x.result
  which : e.numbers.which ≡ 0
  place : e.numbers.place ≡ 0
  steps : e.numbers.steps ≡ x.steps_begun
  size : e.numbers.size ≡ written_size x.result
  output : e.areas.work.output ≡ written_output x.result max_text_bytes

module _ (rule : String) (limit : ℕ) (v : Value) (x : Answer) (reads : read (ascii rule) ≡ readings.done v) (reads-record : read (ascii "{\"a\":1}") ≡ readings.done row_record) (judged : rows.judged v limit ≡ Some x) (a : Areas) (n : Numbers)
    (l : Lent limit a) where
  answered_so : (t : TextsRead) (j : Judged Bytes) (k : ℕ) → Tells (record { result = j; steps_begun = k }) (answered a t j k)
  answered_so t (done s) k = record { refusal = refl; which = refl; place = refl; steps = refl; size = refl; output = ap (λ (room : ℕ). written_output (done s) room) l.output }
  answered_so t (refuses e) k = record { refusal = refl; which = refl; place = refl; steps = refl; size = refl; output = ap (λ (room : ℕ). written_output (refuses e) room) l.output }

  -- Of the rule that the value is.
  of_rule : (r : Rule) → shape v ≡ Some r → answer_of r row_record limit max_text_bytes ≡ x → Tells x (called rule limit a n)
  of_rule r is-rule is =
      let t : TextsRead = record { rule = record { value = v; content = r }; «record» = row_record } in
      let passes : evaluate_stage (ascii rule) (ascii "{\"a\":1}") ≡ passed t = rw (reads, is-rule, reads-record) in
      let y : ℕ → Answer = answer_of r row_record limit in
      let room = length a.work.output in
      let whole : called rule limit a n ≡ evaluate_answer a limit (evaluate_stage (ascii rule) (ascii "{\"a\":1}")) = rw (l.valid, evaluate_entry) in
      subst (λ (e : Evaluated). Tells x e) (sym (whole ∙ ap (evaluate_answer a limit) passes))
      (subst (λ (z : Answer). Tells z (evaluate_answer a limit (passed t))) (ap y l.output ∙ is) (answered_so t (y room).result (y room).steps_begun))

  tells : Tells x (called rule limit a n)
  tells = bind_some (shape v) _ judged (λ r is-rule is. of_rule r is-rule (some_same is))
    where
      some_same : {y : Answer} → Some y ≡ Some x → y ≡ x
      some_same e = cc

-- ---- the record's text, and the rules', as they read
texts_read :
    (read (ascii "{\"a\":1}") ≡ readings.done row_record)
    × (read (ascii "{\"===\":[{\"var\":\"a\"},1]}") ≡ readings.done (op "===" (var "a" ∷ int 1 ∷ [])))
    × (read (ascii "{\"and\":[0,{\"+\":[\"a\",1]}]}") ≡ readings.done (op "and" (int 0 ∷ op "+" (str "a" ∷ int 1 ∷ []) ∷ [])))
    × (read (ascii "{\"!\":[[]]}") ≡ readings.done (op "!" (arr [] ∷ [])))
    × (read (ascii "{\">\":[3,2,\"x\"]}") ≡ readings.done (op ">" (int 3 ∷ int 2 ∷ str "x" ∷ [])))
    × (read (ascii "{\"+\":[9007199254740991,1]}") ≡ readings.done (op "+" (int 9007199254740991 ∷ int 1 ∷ [])))
    × (read (ascii "{\"reduce\":[[1,2,3],{\"+\":[{\"var\":\"current\"},{\"var\":\"accumulator\"}]},0]}") ≡ readings.done (reduce_rule))
    × (read (ascii "{\"plusTime\":[\"2020-01-31\",1,\"month\"]}") ≡ readings.done (op "plusTime" (str "2020-01-31" ∷ int 1 ∷ str "month" ∷ [])))
    × (read (ascii "{\"plusTime\":[\"2020-02-29\",1,\"year\"]}") ≡ readings.done (op "plusTime" (str "2020-02-29" ∷ int 1 ∷ str "year" ∷ [])))
    × (read (ascii "{\"extractFromUVCI\":[\"URN:UVCI\",0]}") ≡ readings.done (op "extractFromUVCI" (str "URN:UVCI" ∷ int 0 ∷ [])))
unfolding read answer text white then ◌>>=◌ give fail if peek eat literal expect value on_start name quoted chars char escape tails hexes on_lead on_escape on_hex on_piece on_unit or_lone lone grow among integers first_digit after_zero digits end_number is_part signed on_separator ended start_of counted nested separator_of escape_of hex_of lead_of unit_of pair_of utf8 is_white is_digit is_point is_e within value_count max_text_bytes max_values max_nesting max_integer
texts_read = (refl, refl, refl, refl, refl, refl, refl, refl, refl, refl)

-- ---- the rows
gives : (rule : String) (limit : ℕ) (s : String) (k : ℕ) (v : Value) → read (ascii rule) ≡ readings.done v → rows.judged v limit ≡ rows.gives s k → (a : Areas) (n : Numbers) → Lent limit a → Comes (called rule limit a n) 0 0 0 k (length (ascii s)) s
gives rule limit s k v reads judged a n l =
    let t = tells rule limit v (record { result = done (ascii s); steps_begun = k }) reads texts_read.0 judged a n l in
    record { refusal_is = t.refusal; which_is = t.which; place_is = t.place; steps_are = t.steps; length_is = t.size; output_is = t.output }

no_text : replicate max_text_bytes 0 ≡ padded max_text_bytes (ascii "")
unfolding padded max_text_bytes
no_text = refl

denies : (rule : String) (limit k refusal : ℕ) (v : Value) (e : Refusal) → judged_number {A = Bytes} (refuses e) ≡ refusal → read (ascii rule) ≡ readings.done v → rows.judged v limit ≡ rows.denies e k → (a : Areas) (n : Numbers) → Lent limit a → Comes (called rule limit a n) refusal 0 0 k 0 ""
denies rule limit k refusal v e is reads judged a n l =
    let t = tells rule limit v (record { result = refuses e; steps_begun = k }) reads texts_read.0 judged a n l in
    record { refusal_is = t.refusal ∙ is; which_is = t.which; place_is = t.place; steps_are = t.steps; length_is = t.size; output_is = t.output ∙ no_text }

pub starred_rows : (a : Areas) (n : Numbers) → Lent max_steps a → StarredRows a n
starred_rows a n l = record {
  equal = gives "{\"===\":[{\"var\":\"a\"},1]}" max_steps "true" 3 (op "===" (var "a" ∷ int 1 ∷ [])) texts_read.1 rows.row_equal a n l;
  first_falsy = gives "{\"and\":[0,{\"+\":[\"a\",1]}]}" max_steps "0" 2 (op "and" (int 0 ∷ op "+" (str "a" ∷ int 1 ∷ []) ∷ [])) texts_read.2 rows.row_and a n l;
  not_empty = gives "{\"!\":[[]]}" max_steps "true" 2 (op "!" (arr [] ∷ [])) texts_read.3 rows.row_not a n l;
  third_kind = denies "{\">\":[3,2,\"x\"]}" max_steps 4 7 (op ">" (int 3 ∷ int 2 ∷ str "x" ∷ [])) (Evaluating (Operation WrongKind)) refl texts_read.4 rows.row_greater a n l;
  past_limit = denies "{\"+\":[9007199254740991,1]}" max_steps 3 9 (op "+" (int 9007199254740991 ∷ int 1 ∷ [])) (Evaluating (Operation OutOfRange)) refl texts_read.5 rows.row_plus a n l;
  reduce = gives reduce_text max_steps "6" 15 (reduce_rule) texts_read.6 rows.row_reduce a n l;
  month = gives "{\"plusTime\":[\"2020-01-31\",1,\"month\"]}" max_steps "\"2020-03-02T00:00:00.000Z\"" 2 (op "plusTime" (str "2020-01-31" ∷ int 1 ∷ str "month" ∷ [])) texts_read.7 rows.row_month a n l;
  year = gives "{\"plusTime\":[\"2020-02-29\",1,\"year\"]}" max_steps "\"2021-03-01T00:00:00.000Z\"" 2 (op "plusTime" (str "2020-02-29" ∷ int 1 ∷ str "year" ∷ [])) texts_read.8 rows.row_year a n l;
  uvci = gives "{\"extractFromUVCI\":[\"URN:UVCI\",0]}" max_steps "null" 2 (op "extractFromUVCI" (str "URN:UVCI" ∷ int 0 ∷ [])) texts_read.9 rows.row_uvci a n l;
}

pub reduce_at_15 : (a : Areas) (n : Numbers) → Lent 15 a → Comes (called reduce_text 15 a n) 0 0 0 15 1 "6"
reduce_at_15 a n l = gives reduce_text 15 "6" 15 (reduce_rule) texts_read.6 rows.row_reduce_15 a n l

pub reduce_at_14 : (a : Areas) (n : Numbers) → Lent 14 a → Comes (called reduce_text 14 a n) 10 0 0 14 0 ""
reduce_at_14 a n l = denies reduce_text 14 14 10 (reduce_rule) (Evaluating OutOfSteps) refl texts_read.6 rows.row_reduce_14 a n l
